-- The sets of a block are in lexicographic order of their ascending lists of messages, as document 01 asks (`sets-ordered`). Sets with
-- the first message come before those without it, and both parts are ordered.
use Prim.Native.Nat.{ℕ, zero, suc, ◌<◌}
use native.Mathlib.Omega.{arith}
use mathlib.Core.Path.{◌≡◌, refl}
use mathlib.Core.Bool.{Bool, true, false}
use mathlib.Core.List.{List, [], ◌∷◌}
use borrow.Author.Tests.{eq-eqb, lt-ltb, le-ltb}
use Rattle.lists.specs.Lexicographic.{precedes, Ordered, ordered_nil, ordered_cons}
use Rattle.lists.specs.Sums.{all_nil, bit, sum}
use Rattle.lists.proofs.Ordered.{Ordered-imp, Ordered-append, Ordered-map}
use Rattle.lists.proofs.Each.{All-imp, All-map, All-every}
use Rattle.even_places.specs.Rule.{ones_in, members, sets}
use Rattle.even_places.proofs.BlockRows.{sets-fit}

-- the list of A comes before that of B, where the first message is q
abbrev Before : ℕ → List Bool → List Bool → Type 0
Before q A B = precedes (members q A) (members q B) ≡ true

-- with the first message in both, the rest decides
both-have : (q : ℕ) (A B : List Bool) → Before (suc q) A B → Before q (true ∷ A) (true ∷ B)
unfolding precedes members
both-have q A B e = rw (le-ltb q q (omega arith), eq-eqb q q refl) e

both-lack : (q : ℕ) (A B : List Bool) → Before (suc q) A B → Before q (false ∷ A) (false ∷ B)
unfolding members
both-lack q A B e = e

-- a list that begins with q comes before that of a set of later messages
lower-first : (q r : ℕ) (l : List ℕ) (B : List Bool) → q < r → 0 < ones_in B → precedes (q ∷ l) (members r B) ≡ true
unfolding precedes members ones_in sum bit
lower-first q r l [] h some = absurd (let w : ⊥ = omega arith in w)
lower-first q r l (true ∷ B) h some = rw (lt-ltb q r h)
lower-first q r l (false ∷ B) h some = lower-first q (suc r) l B (omega arith) (omega arith)

one_has : (q : ℕ) (A B : List Bool) → 0 < ones_in B → Before q (true ∷ A) (false ∷ B)
unfolding members
one_has q A B some = lower-first q (suc q) (members (suc q) A) B (omega arith) some

ordered-from : (q K b : ℕ) → Ordered (Before q) (sets K b)
unfolding sets
ordered-from q zero zero = ordered_cons all_nil ordered_nil
ordered-from q zero (suc b) = ordered_nil
ordered-from q (suc K) zero = Ordered-map (λ A. false ∷ A) (Ordered-imp (both-lack q) (ordered-from (suc q) K zero))
ordered-from q (suc K) (suc b) =
    Ordered-append
    (Ordered-map (λ A. true ∷ A) (Ordered-imp (both-have q) (ordered-from (suc q) K b)))
    (Ordered-map (λ A. false ∷ A) (Ordered-imp (both-lack q) (ordered-from (suc q) K (suc b))))
    (All-map (λ A. true ∷ A) (All-every (λ A. All-map (λ B. false ∷ B) (All-imp (λ B h. one_has q A B (omega (arith, h.1))) (sets-fit K (suc b)))) (sets K b)))

pub sets-ordered : (K b : ℕ) → Ordered (λ A B. precedes (members 0 A) (members 0 B) ≡ true) (sets K b)
sets-ordered = ordered-from 0
