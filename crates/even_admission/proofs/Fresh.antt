-- The pass over a query with marks: what is left of it decides (`fresh-more`), and distinct cells are distinct numbers for each
-- message: `distinct-cells`.
use mathlib.Core.Path.{◌≡◌, refl, sym, ap, ap₂, ◌∙◌}
use mathlib.Core.Logic.{◌≢◌}
use mathlib.Core.Bool.{Bool, true, false, not, ◌&&◌, ◌||◌}
use mathlib.Core.List.{List, [], ◌∷◌, map, zip, zip_with}
use Prim.Native.Nat.{ℕ, suc, ◌+◌, ◌*◌, ◌/◌, ◌≤◌, ◌<◌}
use native.Mathlib.Nat.{mul-le-mul, le_of_suc-le-suc}
use native.Mathlib.Omega.{arith}
use borrow.Author.Tests.{lt-ltb, le-ltb, eqb-true, eqb-false, eq-eqb, ne_eqb}
use lib.Arith.{digits_div}
use lib.Dec.{eqb}
use lib.ListN.{length, get_or, set, replicate}
use Rattle.lists.specs.Below.{all_below, Below}
use Rattle.lists.specs.Distinct.{stands, distinct}
use Rattle.lists.specs.Pairs.{under}
use Rattle.lists.specs.Ranges.{every}
use Rattle.lists.specs.Sums.{keep, keep_if}
use Rattle.lists.proofs.Every.{every_true, every_one}
use Rattle.lists.proofs.Marks.{unmarked, unmarked-blank, unmarked-set}
use Rattle.even_admission.specs.Cells.{cell_of}

-- the numbers are below the size, and their cells are distinct and not marked
unfoldable pub fresh : ℕ → List Bool → List ℕ → List ℕ → Bool
fresh size marks messages numbers = all_below size numbers && unmarked marks (zip_with (cell_of size) messages numbers)

pub fresh_start : (size count : ℕ) (messages numbers : List ℕ)
    → fresh size (replicate count false) messages numbers ≡ all_below size numbers && distinct (zip_with (cell_of size) messages numbers)
unfolding fresh
fresh_start size count messages numbers = ap (λ (t : Bool). all_below size numbers && t) (unmarked-blank count (zip_with (cell_of size) messages numbers))

-- there is a mark for each number of each of 8 messages
pub cell_room : (size p x : ℕ) → size ≤ 256 → p < 8 → x < size → cell_of size p x < 2048
cell_room size p x h l m = omega (arith, mul-le-mul (le_of_suc-le-suc l) h)

-- the next number, x for message p
module _ (size : ℕ) (marks : List Bool) (p x : ℕ) (messages numbers : List ℕ) where
  pub fresh-high : size ≤ x → fresh size marks (p ∷ messages) (x ∷ numbers) ≡ false
  unfolding fresh all_below
  fresh-high high = rw (le-ltb x size high)

  pub fresh-marked : x < size → get_or marks (cell_of size p x) false ≡ true → fresh size marks (p ∷ messages) (x ∷ numbers) ≡ false
  unfolding fresh all_below unmarked zip_with
  fresh-marked low marked = rw (lt-ltb x size low, marked) (last (all_below size numbers))
    where
      last : (t : Bool) → t && false ≡ false
      last true = refl
      last false = refl

  pub fresh-more : x < size → cell_of size p x < length marks → get_or marks (cell_of size p x) false ≡ false
      → fresh size marks (p ∷ messages) (x ∷ numbers) ≡ fresh size (set marks (cell_of size p x) true) messages numbers
  unfolding fresh all_below unmarked zip_with
  fresh-more low inside left =
      rw (lt-ltb x size low, left)
      (ap (λ (t : Bool). all_below size numbers && t) (sym (unmarked-set marks (cell_of size p x) (zip_with (cell_of size) messages numbers) inside)))

pub fresh-end : (size : ℕ) (marks : List Bool) (messages numbers : List ℕ) → length messages ≡ 0 → length numbers ≡ 0
    → fresh size marks messages numbers ≡ true
unfolding fresh all_below unmarked zip_with
fresh-end size marks [] [] h k = refl
fresh-end size marks [] (x ∷ numbers) h k = absurd (let w : ⊥ = omega arith in w)
fresh-end size marks (p ∷ messages) numbers h k = absurd (let w : ⊥ = omega arith in w)

cell_apart : (size p q x y : ℕ) → x < size → y < size → cell_of size p x ≡ cell_of size q y → p ≡ q
cell_apart size p q x y h k e = sym (digits_div p h) ∙ ap (λ (n : ℕ). n / size) e ∙ digits_div q k

-- a number's cell stands among the cells if it stands among its message's numbers
stands-cell : (size q x : ℕ) (messages numbers : List ℕ) → x < size → Below size numbers
    → stands (cell_of size q x) (zip_with (cell_of size) messages numbers) ≡ stands x (under q (zip messages numbers))
unfolding stands under zip zip_with keep keep_if
stands-cell size q x [] numbers h b = refl
stands-cell size q x (r ∷ messages) [] h b = refl
stands-cell size q x (r ∷ messages) (y ∷ numbers) h b =
    rw (stands-cell size q x messages numbers h (λ i l. b (suc i) (omega arith))) (go (eqb r q) refl)
  where
    rest : List ℕ
    rest = under q (zip messages numbers)

    equal : (p : ℕ) (u : Bool) → eqb x y ≡ u → p ≡ q → eqb (q * size + x) (p * size + y) ≡ u
    equal p true u e = eq-eqb (q * size + x) (p * size + y) (ap₂ (λ (a b : ℕ). a * size + b) (sym e) (eqb-true x y u))
    equal p false u e = ne_eqb (q * size + x) (p * size + y) (λ f. eqb-false x y u (let g = ap (λ (n : ℕ). n * size) e in omega arith))

    go : (u : Bool) → eqb r q ≡ u
        → eqb (q * size + x) (r * size + y) || stands x rest ≡ stands x (map (λ e. e.1) (keep_if u (r, y) (keep (λ e. eqb e.0 q) (zip messages numbers))))
    go true u = ap (λ (t : Bool). t || stands x rest) (equal r (eqb x y) refl (eqb-true r q u))
    go false u =
        rw (ne_eqb (q * size + x) (r * size + y) (λ f. eqb-false r q u (sym (cell_apart size q r x y h (b 0 (omega arith)) f))))

-- distinct cells are distinct numbers for each message
pub distinct-cells : (size K : ℕ) (messages numbers : List ℕ) → Below K messages → Below size numbers
    → distinct (zip_with (cell_of size) messages numbers) ≡ every K (λ p. distinct (under p (zip messages numbers)))
unfolding distinct under zip zip_with keep keep_if
distinct-cells size K [] numbers m b = sym (every_true K (λ p. true) (λ p h. refl))
distinct-cells size K (q ∷ messages) [] m b = sym (every_true K (λ p. true) (λ p h. refl))
distinct-cells size K (q ∷ messages) (x ∷ numbers) m b =
    ap₂ (λ (s t : Bool). not s && t)
    (stands-cell size q x messages numbers (b 0 (omega arith)) below)
    (distinct-cells size K messages numbers (λ i l. m (suc i) (omega arith)) below)
    ∙ sym (every_one K q (not (stands x (under q (zip messages numbers)))) now before (m 0 (omega arith)) here elsewhere)
  where
    below : Below size numbers
    below = λ i l. b (suc i) (omega arith)

    before : ℕ → Bool
    before p = distinct (under p (zip messages numbers))

    now : ℕ → Bool
    now p = distinct (map (λ e. e.1) (keep_if (eqb q p) (q, x) (keep (λ e. eqb e.0 p) (zip messages numbers))))

    here : now q ≡ not (stands x (under q (zip messages numbers))) && before q
    here = rw (eq-eqb q q refl)

    elsewhere : (p : ℕ) → p ≢ q → now p ≡ before p
    elsewhere p d = rw (ne_eqb q p (λ e. d (sym e)))
