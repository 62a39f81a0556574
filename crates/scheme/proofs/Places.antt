-- Where the row is answered that names a symbol: behind the rows of a first list, if none of these does (`placed-join`); nowhere, if it is not named
-- (`placed-none`); else at the row's own number of symbols (`place_found`), and within the answer (`place-within`).
use mathlib.Core.Path.{◌≡◌, refl, sym, ap, ◌∙◌}
use mathlib.Core.Bool.{Bool, true, false, not, cond}
use mathlib.Core.List.{List, [], ◌∷◌, ◌++◌}
use Prim.Native.Nat.{ℕ, suc, ◌+◌, ◌*◌, ◌≤◌, ◌<◌}
use native.Mathlib.Nat.{suc-mul, zero-mul, zero-add}
use native.Mathlib.Omega.{arith}
use borrow.Author.Tests.{eqb-true}
use lib.Dec.{eqb}
use lib.ListN.{length, get_or}
use Rattle.lists.specs.Sums.{sum}
use Rattle.std.specs.Prelude.{Option, Some, None}
use Rattle.std.proofs.lemmas.Option.{none-some, same_Some}
use Rattle.scheme.specs.Asked.{Cell, times_in, named_in, later, place_naming}

-- the one place, or else the other so many bytes later
abbrev pub or_later : ℕ → Option ℕ → Option ℕ → Option ℕ
or_later n (Some at) place = Some at
or_later n None place = later n place

pub later-zero : (place : Option ℕ) → later 0 place ≡ place
later-zero (Some at) = ap Some (zero-add at)
later-zero None = refl

pub later-twice : (m n : ℕ) (place : Option ℕ) → later m (later n place) ≡ later (m + n) place
later-twice m n (Some at) = ap Some (let e : m + (n + at) ≡ m + n + at = omega arith in e)
later-twice m n None = refl

pub or-nowhere : (n : ℕ) (place : Option ℕ) → or_later n place None ≡ place
or-nowhere n (Some at) = refl
or-nowhere n None = refl

later-later : (S n : ℕ) (place next : Option ℕ) → later S (or_later n place next) ≡ or_later (S + n) (later S place) next
later-later S n (Some at) next = refl
later-later S n None next = later-twice S n next

module _ (S p i : ℕ) where
  -- rows and more rows
  pub placed-join : (xs ys : List (List Cell)) → place_naming S p i (xs ++ ys) ≡ or_later (length xs * S) (place_naming S p i xs) (place_naming S p i ys)
  unfolding place_naming
  placed-join [] ys = sym (ap (λ (n : ℕ). later n (place_naming S p i ys)) (zero-mul S) ∙ later-zero (place_naming S p i ys))
  placed-join (cells ∷ xs) ys = go (named_in p i cells) (placed-join xs ys)
    where
      go : (t : Bool) → place_naming S p i (xs ++ ys) ≡ or_later (length xs * S) (place_naming S p i xs) (place_naming S p i ys)
          → cond t (Some 0) (later S (place_naming S p i (xs ++ ys)))
          ≡ or_later (suc (length xs) * S) (cond t (Some 0) (later S (place_naming S p i xs))) (place_naming S p i ys)
      go true ih = refl
      go false ih =
          ap (later S) ih
          ∙ later-later S (length xs * S) (place_naming S p i xs) (place_naming S p i ys)
          ∙ ap (λ (n : ℕ). or_later n (later S (place_naming S p i xs)) (place_naming S p i ys))
          (let e : S + length xs * S ≡ suc (length xs) * S = omega (arith, suc-mul (length xs) S) in e)

  pub placed-none : (xs : List (List Cell)) → sum (times_in p i) xs ≡ 0 → place_naming S p i xs ≡ None
  unfolding place_naming sum
  placed-none [] e = refl
  placed-none (cells ∷ xs) e =
      let none : times_in p i cells ≡ 0 = omega (arith, e) in
      ap (λ (n : ℕ). cond (not (eqb n 0)) (Some 0) (later S (place_naming S p i xs))) none
      ∙ ap (later S) (placed-none xs (let r : sum (times_in p i) xs ≡ 0 = omega (arith, e) in r))

  -- a row that names the symbol, and the place of its answer
  pub record Found (rows : List (List Cell)) : Type 0 where
    pub row : ℕ
    pub inside : row < length rows
    pub naming : named_in p i (get_or rows row []) ≡ true
    pub there : place_naming S p i rows ≡ Some (row * S)

  pub place_found : (rows : List (List Cell)) → 0 < sum (times_in p i) rows → Found rows
  unfolding place_naming sum
  place_found [] h = absurd (let w : ⊥ = omega arith in w)
  place_found (cells ∷ rows) h = go (eqb (times_in p i cells) 0) refl (place_found rows)
    where
      go : (t : Bool) → eqb (times_in p i cells) 0 ≡ t → (0 < sum (times_in p i) rows → Found rows) → Found (cells ∷ rows)
      go true e ih =
          let none : times_in p i cells ≡ 0 = eqb-true (times_in p i cells) 0 e in
          let r = ih (let l : 0 < sum (times_in p i) rows = omega (arith, h, none) in l) in
          record {
            row = suc r.row;
            inside = omega (arith, r.inside);
            naming = r.naming;
            there =
                ap (λ (t : Bool). cond (not t) (Some 0) (later S (place_naming S p i rows))) e
                ∙ ap (later S) r.there
                ∙ ap Some (let n : S + r.row * S ≡ suc r.row * S = omega (arith, suc-mul r.row S) in n);
          }
      go false e ih = record {
        row = 0;
        inside = omega arith;
        naming = ap not e;
        there = ap (λ (t : Bool). cond (not t) (Some 0) (later S (place_naming S p i rows))) e ∙ ap Some (sym (zero-mul S));
      }

-- the place of a row, if there is one, is within so many bytes
abbrev pub Within : ℕ → Option ℕ → ℕ → Type 0
Within S place long = (at : ℕ) → place ≡ Some at → at + S ≤ long

pub place-within : (S p i : ℕ) (rows : List (List Cell)) → Within S (place_naming S p i rows) (length rows * S)
unfolding place_naming
place-within S p i [] at e = absurd (none-some at e)
place-within S p i (cells ∷ rows) at e = go (eqb (times_in p i cells) 0) (place_naming S p i rows) (place-within S p i rows) e
  where
    go : (t : Bool) (next : Option ℕ) → Within S next (length rows * S) → cond (not t) (Some 0) (later S next) ≡ Some at → at + S ≤ suc (length rows) * S
    go true None h q = absurd (none-some at q)
    go true (Some before) h q =
        omega (arith, same_Some (S + before) at q, h before refl, suc-mul (length rows) S)
    go false next h q = omega (arith, same_Some 0 at q, suc-mul (length rows) S)
