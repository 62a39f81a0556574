-- The exchange of keys. For each server and message, keys and admitted queries go one to one (`one_key`): the key of a query has, for
-- each row without the wanted message's digit, its number. So the exchanged key, which is the other message's key of the query, keeps
-- validity, is undone by the opposite exchange, and shows the same query.
use Prim.Native.Nat.{ℕ, ◌-◌, ◌^◌, ◌<◌}
use native.Mathlib.Omega.{arith}
use mathlib.Core.Path.{◌≡◌, sym, ap, ap₂, ◌∙◌, subst}
use mathlib.Core.Bool.{true}
use mathlib.Core.List.{List, map}
use lib.ListN.{length, get_or}
use lib.Seq.{ext_get_or}
use Rattle.lists.specs.Below.{Below}
use Rattle.lists.specs.Distinct.{is_permutation}
use Rattle.lists.specs.Inserts.{remove_at}
use Rattle.lists.specs.Ranges.{range}
use Rattle.lists.proofs.Arranged.{Permutation, permutation-facts, facts-permutation}
use Rattle.lists.proofs.Below.{all_below-below}
use Rattle.lists.proofs.Cuts.{joined-cuts}
use Rattle.lists.proofs.Joined.{flat_map-all}
use Rattle.lists.proofs.Mapped.{mapped-length, mapped_at}
use Rattle.lists.proofs.Ranges.{All-range}
use Rattle.short_scheme.specs.Short.{short_query}
use Rattle.short_scheme.proofs.Queries.{key-long, key_below, key-query}
use Rattle.parameters.specs.Bounds.{blocks}
use Rattle.round_scheme.specs.Round.{digits, number, short_key, round_query, row, round_admits}
use Rattle.round_scheme.proofs.Numbers.{number-below, digits_number, number-only}
use Rattle.round_scheme.proofs.Queries.{AdmittedRows, admits-facts, short-number, row-key, query-admitted}

-- the key that a query for the wanted message comes from
unfoldable pub round_key : ℕ → ℕ → ℕ → List ℕ → List ℕ
round_key N K wanted query = map (λ i. number N (remove_at wanted (row K query i))) (range 0 (blocks N K))

-- the key that shows the server, for `other`, what `key` shows it for `wanted`
abbrev pub round_exchange : ℕ → ℕ → ℕ → ℕ → ℕ → List ℕ → List ℕ
round_exchange N K server wanted other key = round_key N K other (round_query N K wanted server key)

-- `key` is the one valid key that gives the server the query for the wanted message
pub record OnlyKey (N K wanted server : ℕ) (query key : List ℕ) : Type 0 where
  pub valid : is_permutation (blocks N K) key ≡ true
  pub gives : round_query N K wanted server key ≡ query
  pub only : (other : List ℕ) → is_permutation (blocks N K) other ≡ true → round_query N K wanted server other ≡ query → other ≡ key

module _ (N K wanted : ℕ) (query : List ℕ) where
  pub key-at : (i : ℕ) → i < blocks N K → get_or (round_key N K wanted query) i 0 ≡ number N (remove_at wanted (row K query i))
  unfolding round_key
  key-at i h = mapped_at (λ j. number N (remove_at wanted (row K query j))) 0 (blocks N K) i h

  pub key-length : length (round_key N K wanted query) ≡ blocks N K
  unfolding round_key
  key-length = mapped-length (λ j. number N (remove_at wanted (row K query j))) 0 (blocks N K)

-- the key of a key's query is the key
module _ (N K wanted server : ℕ) (some : 0 < N) (known : wanted < K) (there : server < N) (key : List ℕ) (all : Permutation (blocks N K) key) where
  pub key_back : round_key N K wanted (round_query N K wanted server key) ≡ key
  key_back =
      let query = round_query N K wanted server key in
      let long = all.long in
      ext_get_or 0 (round_key N K wanted query) key (key-length N K wanted query ∙ sym long) (λ i h.
      let i' : i < blocks N K = omega (arith, key-length N K wanted query) in
      key-at N K wanted query i i' ∙ ap (number N) (row-key N K some key all wanted server known there i i') ∙ short-number N K some key all i i')

-- the key of an admitted query
module _ (N K wanted server : ℕ) (known : wanted < K) (there : server < N) (query : List ℕ) (admits : round_admits N K server query ≡ true) where
  some : 0 < N
  some = omega arith

  facts : AdmittedRows N K server query
  facts = admits-facts N K server query admits

  abbrev rest : ℕ → List ℕ
  rest i = remove_at wanted (row K query i)

  rest-long : (i : ℕ) → i < blocks N K → length (rest i) ≡ K - 1
  rest-long i h = key-long N K wanted server (row K query i) known there (facts.each i h)

  rest_below : (i : ℕ) → i < blocks N K → Below N (rest i)
  rest_below i h = all_below-below N (rest i) (key_below N K wanted server (row K query i) known there (facts.each i h))

  rest-row : (i : ℕ) → i < blocks N K → short_query N wanted server (rest i) ≡ row K query i
  rest-row i h = key-query N K wanted server (row K query i) known there (facts.each i h)

  entry : (i : ℕ) → i < blocks N K → get_or (round_key N K wanted query) i 0 ≡ number N (rest i)
  entry i h = key-at N K wanted query i h

  pub key-permutation : Permutation (blocks N K) (round_key N K wanted query)
  key-permutation = record {
    long = key-length N K wanted query;
    low = λ i h.
        subst (λ (x : ℕ). x < blocks N K) (sym (entry i h))
        (subst (λ (k : ℕ). number N (rest i) < N ^ k) (rest-long i h) (number-below N some (rest i) (rest_below i h)));
    apart = λ i j h k same.
        facts.apart i j h k
        (sym (rest-row i h)
        ∙ ap (short_query N wanted server)
        (number-only N some (rest i) (rest j) (rest_below i h) (rest_below j k) (rest-long i h ∙ sym (rest-long j k)) (sym (entry i h) ∙ same ∙ entry j k))
        ∙ rest-row j k);
  }

  -- its short keys are the rows without the wanted message's digit
  pub key-short : (i : ℕ) → i < blocks N K → short_key N K (round_key N K wanted query) i ≡ rest i
  unfolding short_key
  key-short i h = ap₂ (λ (k v : ℕ). digits N k v) (sym (rest-long i h)) (entry i h) ∙ digits_number N some (rest i) (rest_below i h)

  pub key-gives : round_query N K wanted server (round_key N K wanted query) ≡ query
  unfolding round_query row
  key-gives =
      flat_map-all (λ i. short_query N wanted server (short_key N K (round_key N K wanted query) i)) (row K query)
      (All-range (blocks N K) (λ i h. ap (short_query N wanted server) (key-short i h) ∙ rest-row i h))
      ∙ joined-cuts K (blocks N K) query facts.long

  -- every admitted query has exactly one key, for each message
  pub one_key : OnlyKey N K wanted server query (round_key N K wanted query)
  one_key = record {
    valid = facts-permutation (blocks N K) (round_key N K wanted query) key-permutation;
    gives = key-gives;
    only = λ other v e.
        sym (key_back N K wanted server some known there other (permutation-facts (blocks N K) other v)) ∙ ap (round_key N K wanted) e;
  }

module _ (N K server wanted other : ℕ) (key : List ℕ) (there : server < N) (known : wanted < K) (known' : other < K)
    (valid : is_permutation (blocks N K) key ≡ true) where
  all : Permutation (blocks N K) key
  all = permutation-facts (blocks N K) key valid

  wide : 0 < N
  wide = omega arith

  exchanged : OnlyKey N K other server (round_query N K wanted server key) (round_exchange N K server wanted other key)
  exchanged = one_key N K other server known' there (round_query N K wanted server key) (query-admitted N K wide key all wanted server known there)

  pub exchanged-valid : is_permutation (blocks N K) (round_exchange N K server wanted other key) ≡ true
  exchanged-valid = exchanged.valid

  pub exchanged-shown : round_query N K other server (round_exchange N K server wanted other key) ≡ round_query N K wanted server key
  exchanged-shown = exchanged.gives

  pub exchanged-back : round_exchange N K server other wanted (round_exchange N K server wanted other key) ≡ key
  exchanged-back = ap (round_key N K wanted) exchanged-shown ∙ key_back N K wanted server wide known there key all
