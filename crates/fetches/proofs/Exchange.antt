-- The exchange of lists of keys: key by key, for one server and two lists of messages. It keeps valid keys valid (`exchanges-valid`), and the opposite
-- one undoes it (`exchanges-back`), by the laws of the exchange of one key.
use mathlib.Core.Path.{◌≡◌, refl}
use mathlib.Core.List.{List, [], ◌∷◌}
use Prim.Native.Nat.{ℕ, zero, suc, ◌<◌}
use native.Mathlib.Nat.{not-suc-le-zero, le_of_suc-le-suc}
use native.Mathlib.Omega.{arith}
use lib.ListN.{length, get_or}
use Rattle.lists.specs.Below.{Below}
use Rattle.scheme.specs.Scheme.{Scheme, Valid}
use Rattle.scheme.specs.Laws.{Laws}
use Rattle.fetches.specs.Claim.{KeyList}

-- exchanges exchange ps qs keys, where `exchange p q` is the exchange of one key
abbrev pub exchanges : (ℕ → ℕ → List ℕ → List ℕ) → List ℕ → List ℕ → List (List ℕ) → List (List ℕ)
exchanges exchange [] qs keys = []
exchanges exchange (p ∷ ps) [] keys = []
exchanges exchange (p ∷ ps) (q ∷ qs) [] = []
exchanges exchange (p ∷ ps) (q ∷ qs) (key ∷ keys) = exchange p q key ∷ exchanges exchange ps qs keys

-- lists of keys, one after another
module _ (scheme : Scheme) where
  pub no_keys : KeyList scheme 0 []
  no_keys = record { one_each = refl; valid = λ i h. absurd (not-suc-le-zero h) }

  pub key-and : (count : ℕ) (key : List ℕ) (keys : List (List ℕ)) → Valid scheme key → KeyList scheme count keys → KeyList scheme (suc count) (key ∷ keys)
  key-and count key keys v k = record { one_each = let e = k.one_each in omega arith; valid = each }
    where
      each : (i : ℕ) → i < length (key ∷ keys) → Valid scheme (get_or (key ∷ keys) i [])
      each zero h = v
      each (suc i) h = k.valid i (le_of_suc-le-suc h)

  pub first_key : (count : ℕ) (key : List ℕ) (keys : List (List ℕ)) → KeyList scheme (suc count) (key ∷ keys) → Valid scheme key
  first_key count key keys k = k.valid 0 (omega arith)

  pub other_keys : (count : ℕ) (key : List ℕ) (keys : List (List ℕ)) → KeyList scheme (suc count) (key ∷ keys) → KeyList scheme count keys
  other_keys count key keys k = record { one_each = let e = k.one_each in omega arith; valid = λ i h. k.valid (suc i) (omega arith) }

-- the rest of a list of numbers below a bound
pub below_rest : (bound p : ℕ) (ps : List ℕ) → Below bound (p ∷ ps) → Below bound ps
below_rest bound p ps b i h = b (suc i) (omega arith)

module _ (servers messages : ℕ) (scheme : Scheme) (laws : Laws servers messages scheme) (n : ℕ) (below : n < servers) where
  pub exchanges-valid : (ps qs : List ℕ) → length ps ≡ length qs → Below messages ps → Below messages qs → (keys : List (List ℕ))
      → KeyList scheme (length ps) keys → KeyList scheme (length qs) (exchanges (laws.exchange n) ps qs keys)
  exchanges-valid [] [] e u v keys k = no_keys scheme
  exchanges-valid [] (q ∷ qs) e u v keys k = absurd (let w : ⊥ = omega arith in w)
  exchanges-valid (p ∷ ps) [] e u v keys k = absurd (let w : ⊥ = omega arith in w)
  exchanges-valid (p ∷ ps) (q ∷ qs) e u v [] k = absurd (let w : ⊥ = omega (arith, k.one_each) in w)
  exchanges-valid (p ∷ ps) (q ∷ qs) e u v (key ∷ keys) k =
      key-and scheme (length qs) (laws.exchange n p q key) (exchanges (laws.exchange n) ps qs keys)
      (laws.exchange-valid n p q key below (u 0 (omega arith)) (v 0 (omega arith)) (first_key scheme (length ps) key keys k))
      (exchanges-valid ps qs (omega arith) (below_rest messages p ps u) (below_rest messages q qs v) keys (other_keys scheme (length ps) key keys k))

  pub exchanges-back : (ps qs : List ℕ) → length ps ≡ length qs → Below messages ps → Below messages qs → (keys : List (List ℕ))
      → KeyList scheme (length ps) keys → exchanges (laws.exchange n) qs ps (exchanges (laws.exchange n) ps qs keys) ≡ keys
  exchanges-back [] [] e u v [] k = refl
  exchanges-back [] [] e u v (key ∷ keys) k = absurd (let w : ⊥ = omega (arith, k.one_each) in w)
  exchanges-back [] (q ∷ qs) e u v keys k = absurd (let w : ⊥ = omega arith in w)
  exchanges-back (p ∷ ps) [] e u v keys k = absurd (let w : ⊥ = omega arith in w)
  exchanges-back (p ∷ ps) (q ∷ qs) e u v [] k = absurd (let w : ⊥ = omega (arith, k.one_each) in w)
  exchanges-back (p ∷ ps) (q ∷ qs) e u v (key ∷ keys) k =
      let x = laws.exchange-back n p q key below (u 0 (omega arith)) (v 0 (omega arith)) (first_key scheme (length ps) key keys k) in
      let y = exchanges-back ps qs (omega arith) (below_rest messages p ps u) (below_rest messages q qs v) keys (other_keys scheme (length ps) key keys k) in
      cc
