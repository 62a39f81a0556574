-- The exchange of keys: insert the balancing digit for one message, delete the digit of the other. For each server and message, valid
-- keys and admitted queries go one to one (source 000, (28)): `one_key`.
use mathlib.Core.Path.{◌≡◌, sym, ap, ◌∙◌}
use mathlib.Core.Bool.{true}
use mathlib.Core.List.{List}
use Prim.Native.Nat.{ℕ, ◌<◌}
use Rattle.lists.specs.Inserts.{remove_at}
use Rattle.parameters.specs.Measures.{short_sizes}
use Rattle.symbol.specs.Sum.{Sum}
use Rattle.scheme.specs.Scheme.{Valid}
use Rattle.short_scheme.specs.Short.{short_query, short_admits, short_scheme}
use Rattle.short_scheme.proofs.Queries.{query-admits, query-key, key-long, key_below, key-query}

-- the key that shows server n, for `other`, what `key` shows it for `wanted`
abbrev pub short_exchange : ℕ → ℕ → ℕ → ℕ → List ℕ → List ℕ
short_exchange N n wanted other key = remove_at other (short_query N wanted n key)

-- `key` is the one valid key that gives server n the query for the wanted message
pub record OnlyKey (sum : Sum) (N K S wanted n : ℕ) (query key : List ℕ) : Type 0 where
  pub valid : Valid (short_scheme sum N K S) key
  pub gives : short_query N wanted n key ≡ query
  pub only : (other : List ℕ) → Valid (short_scheme sum N K S) other → short_query N wanted n other ≡ query → other ≡ key

module _ (sum : Sum) (N K S : ℕ) where
  -- every admitted query has exactly one key, for each message
  pub one_key : (wanted n : ℕ) (query : List ℕ) → wanted < K → n < N → short_admits N K n query ≡ true → OnlyKey sum N K S wanted n query (remove_at wanted query)
  unfolding short_sizes
  one_key wanted n query w s admits = record {
    valid = record { long = key-long N K wanted n query w s admits; good = key_below N K wanted n query w s admits };
    gives = key-query N K wanted n query w s admits;
    only = λ other v e. sym (query-key N K wanted n other w s v.long v.good) ∙ ap (remove_at wanted) e;
  }

  module _ (n wanted other : ℕ) (key : List ℕ) (s : n < N) (w : wanted < K) (o : other < K) (v : Valid (short_scheme sum N K S) key) where
    exchanged : OnlyKey sum N K S other n (short_query N wanted n key) (short_exchange N n wanted other key)
    unfolding short_sizes
    exchanged = one_key other n (short_query N wanted n key) o s (query-admits N K wanted n key w s v.long v.good)

    pub exchanged-valid : Valid (short_scheme sum N K S) (short_exchange N n wanted other key)
    exchanged-valid = exchanged.valid

    pub exchanged-shown : short_query N other n (short_exchange N n wanted other key) ≡ short_query N wanted n key
    exchanged-shown = exchanged.gives

    pub exchanged-back : short_exchange N n other wanted (short_exchange N n wanted other key) ≡ key
    unfolding short_sizes
    exchanged-back = ap (remove_at wanted) exchanged-shown ∙ query-key N K wanted n key w s v.long v.good
