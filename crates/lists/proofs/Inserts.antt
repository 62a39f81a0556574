-- Inserting and removing at one place undo each other (`remove-insert`, `insert-remove`) and keep lengths and bounds; and what stands
-- where after an insertion (`insert-before`, `insert-here`, `insert-behind`).
use mathlib.Core.Path.{◌≡◌, refl, ap}
use mathlib.Core.List.{List, [], ◌∷◌}
use Prim.Native.Nat.{ℕ, zero, suc, ◌≤◌, ◌<◌}
use native.Mathlib.Nat.{not-suc-le-zero, le_of_suc-le-suc}
use lib.ListN.{length, take, drop, get_or}
use lib.Seq.{length-take-le, get_or_at}
use Rattle.lists.specs.Below.{Below}
use Rattle.lists.specs.Inserts.{insert_at, remove_at}
use Rattle.lists.proofs.Below.{below-cons, below-take, below-drop, below-append}

pub insert-length : (at x : ℕ) (l : List ℕ) → length (insert_at at x l) ≡ suc (length l)
insert-length zero x l = refl
insert-length (suc at) x [] = refl
insert-length (suc at) x (y ∷ l) = ap suc (insert-length at x l)

pub remove-length : (at : ℕ) (l : List ℕ) → at < length l → suc (length (remove_at at l)) ≡ length l
remove-length at [] h = absurd (not-suc-le-zero h)
remove-length zero (y ∷ l) h = refl
remove-length (suc at) (y ∷ l) h = ap suc (remove-length at l (le_of_suc-le-suc h))

pub remove-insert : (at x : ℕ) (l : List ℕ) → at ≤ length l → remove_at at (insert_at at x l) ≡ l
remove-insert zero x l h = refl
remove-insert (suc at) x [] h = absurd (not-suc-le-zero h)
remove-insert (suc at) x (y ∷ l) h = ap (λ (t : List ℕ). y ∷ t) (remove-insert at x l (le_of_suc-le-suc h))

pub insert-remove : (at : ℕ) (l : List ℕ) → at < length l → insert_at at (get_or l at 0) (remove_at at l) ≡ l
insert-remove at [] h = absurd (not-suc-le-zero h)
insert-remove zero (y ∷ l) h = refl
insert-remove (suc at) (y ∷ l) h = ap (λ (t : List ℕ). y ∷ t) (insert-remove at l (le_of_suc-le-suc h))

pub insert-below : (n at x : ℕ) (l : List ℕ) → x < n → Below n l → Below n (insert_at at x l)
insert-below n at x l h b = below-append n (take at l) (x ∷ drop at l) (below-take n at l b) (below-cons n x (drop at l) h (below-drop n at l b))

pub remove-below : (n at : ℕ) (l : List ℕ) → Below n l → Below n (remove_at at l)
remove-below n at l b = below-append n (take at l) (drop (suc at) l) (below-take n at l b) (below-drop n (suc at) l b)

-- before the place, at it, and behind it
pub insert-before : (at x : ℕ) (l : List ℕ) (p : ℕ) → p < at → at ≤ length l → get_or (insert_at at x l) p 0 ≡ get_or l p 0
insert-before zero x l p h k = absurd (not-suc-le-zero h)
insert-before (suc at) x [] p h k = absurd (not-suc-le-zero k)
insert-before (suc at) x (y ∷ l) zero h k = refl
insert-before (suc at) x (y ∷ l) (suc p) h k = insert-before at x l p (le_of_suc-le-suc h) (le_of_suc-le-suc k)

pub insert-here : (at x : ℕ) (l : List ℕ) → at ≤ length l → get_or (insert_at at x l) at 0 ≡ x
insert-here at x l h = get_or_at (take at l) x (drop at l) 0 at (length-take-le at l h)

pub insert-behind : (at x : ℕ) (l : List ℕ) (p : ℕ) → at ≤ p → at ≤ length l → get_or (insert_at at x l) (suc p) 0 ≡ get_or l p 0
insert-behind zero x l p h k = refl
insert-behind (suc at) x [] p h k = absurd (not-suc-le-zero k)
insert-behind (suc at) x (y ∷ l) zero h k = absurd (not-suc-le-zero h)
insert-behind (suc at) x (y ∷ l) (suc p) h k = insert-behind at x l p (le_of_suc-le-suc h) (le_of_suc-le-suc k)
