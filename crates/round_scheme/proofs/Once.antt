-- A server admits exactly the lists that hold each row of its short-code set once (document 02, item 8): `admits-each-once`, `each-once-admits`. There are
-- as many rows in a query as in the set, so rows that differ are all of it. A server may go by the rows without their first digits, whose numbers are
-- below that of the blocks: `length-refused`, `row-refused`,
-- `repeat-refused`, `fresh-admitted`.
use mathlib.Core.Path.{◌≡◌, refl, sym, ap, ◌∙◌, subst}
use mathlib.Core.Bool.{Bool, true, false, true≢false}
use mathlib.Core.List.{List}
use Prim.Native.Nat.{ℕ, ◌*◌, ◌^◌, ◌<◌}
use native.Mathlib.Omega.{arith}
use lib.ListN.{length}
use Rattle.lists.specs.Arranged.{place_in}
use Rattle.lists.specs.Below.{Below}
use Rattle.lists.specs.Distinct.{is_permutation}
use Rattle.lists.specs.Inserts.{remove_at}
use Rattle.lists.proofs.Arranged.{covers, permutation-facts, facts-permutation}
use Rattle.lists.proofs.Below.{all_below-below}
use Rattle.parameters.specs.Bounds.{blocks}
use Rattle.short_scheme.specs.Short.{short_query, short_admits}
use Rattle.short_scheme.proofs.Queries.{key-long, key_below, key-query}
use Rattle.round_scheme.specs.Round.{number, row, round_admits}
use Rattle.round_scheme.specs.Once.{StandsOnce, EachOnce}
use Rattle.round_scheme.proofs.Numbers.{number-below, number-only}
use Rattle.round_scheme.proofs.Queries.{admits-facts, facts-admit}
use Rattle.round_scheme.proofs.Exchange.{round_key, key-at, key-permutation}

-- a row of the server's set, in a query that it admits: it stands where the query's key has its number
module _ (N K server : ℕ) (query : List ℕ) (known : 0 < K) (there : server < N) (admits : round_admits N K server query ≡ true)
    (r : List ℕ) (set : short_admits N K server r ≡ true) where
  abbrev place : ℕ
  place = place_in (number N (remove_at 0 r)) (round_key N K 0 query)

  some : 0 < N
  some = omega arith

  rest_below : (l : List ℕ) → short_admits N K server l ≡ true → Below N (remove_at 0 l)
  rest_below l h = all_below-below N (remove_at 0 l) (key_below N K 0 server l known there h)

  found : (place < blocks N K) × (row K query place ≡ r)
  found =
      let low : number N (remove_at 0 r) < blocks N K =
      subst (λ (k : ℕ). number N (remove_at 0 r) < N ^ k) (key-long N K 0 server r known there set) (number-below N some (remove_at 0 r) (rest_below r set)) in
      let c = covers (blocks N K) (round_key N K 0 query) (key-permutation N K 0 server known there query admits) (number N (remove_at 0 r)) low in
      let l = row K query place in
      let each = (admits-facts N K server query admits).each place c.0 in
      let same : remove_at 0 l ≡ remove_at 0 r =
      number-only N some (remove_at 0 l) (remove_at 0 r) (rest_below l each) (rest_below r set)
      (key-long N K 0 server l known there each ∙ sym (key-long N K 0 server r known there set))
      (sym (key-at N K 0 query place c.0) ∙ c.1) in
      (c.0, sym (key-query N K 0 server l known there each) ∙ ap (short_query N 0 server) same ∙ key-query N K 0 server r known there set)

  stands-once : StandsOnce N K query r
  stands-once = record {
    place = place;
    inside = found.0;
    there = found.1;
    nowhere-else = λ i h e. (admits-facts N K server query admits).apart i place h found.0 (e ∙ sym found.1);
  }

module _ (N K server : ℕ) (query : List ℕ) (known : 0 < K) (there : server < N) where
  pub admits-each-once : round_admits N K server query ≡ true → EachOnce N K server query
  admits-each-once admits = record {
    long = (admits-facts N K server query admits).long;
    no_other = (admits-facts N K server query admits).each;
    each = stands-once N K server query known there admits;
  }

  pub each-once-admits : EachOnce N K server query → round_admits N K server query ≡ true
  each-once-admits once =
      facts-admit N K server query (omega arith) (record {
        long = once.long;
        each = once.no_other;
        apart = λ i j h k same.
            let stands = once.each (row K query j) (once.no_other j k) in
            stands.nowhere-else i h same ∙ sym (stands.nowhere-else j k refl);
      })

refuted : (t : Bool) → (t ≡ true → ⊥) → t ≡ false
refuted true wrong = absurd (wrong refl)
refuted false wrong = refl

-- what the length says, and what a pass over the rows finds out
module _ (N K server : ℕ) (query : List ℕ) where
  pub length-refused : (length query ≡ blocks N K * K → ⊥) → round_admits N K server query ≡ false
  length-refused other = refuted (round_admits N K server query) (λ q. other (admits-facts N K server query q).long)

  pub row-refused : (i : ℕ) → i < blocks N K → short_admits N K server (row K query i) ≡ false → round_admits N K server query ≡ false
  row-refused i h e =
      refuted (round_admits N K server query) (λ q. true≢false (sym ((admits-facts N K server query q).each i h) ∙ e))

  pub repeat-refused : 0 < K → server < N → is_permutation (blocks N K) (round_key N K 0 query) ≡ false → round_admits N K server query ≡ false
  repeat-refused known there e =
      refuted (round_admits N K server query) (λ q.
      true≢false (sym (facts-permutation (blocks N K) (round_key N K 0 query) (key-permutation N K 0 server known there query q)) ∙ e))

  pub fresh-admitted : 0 < N → length query ≡ blocks N K * K → ((i : ℕ) → i < blocks N K → short_admits N K server (row K query i) ≡ true)
      → is_permutation (blocks N K) (round_key N K 0 query) ≡ true → round_admits N K server query ≡ true
  fresh-admitted some long each fresh =
      facts-admit N K server query some (record {
        long = long;
        each = each;
        apart = λ i j h k same.
            (permutation-facts (blocks N K) (round_key N K 0 query) fresh).apart i j h k
            (key-at N K 0 query i h ∙ ap (λ l. number N (remove_at 0 l)) same ∙ sym (key-at N K 0 query j k));
      })
