-- Rows that go by set, q B of them for each set B in turn: row i of set A is row `first_row A + i` of all (`numbered`). For any list of
-- sets that has A.
use Prim.Native.Nat.{ℕ, zero, suc, ◌+◌, ◌<◌}
use native.Mathlib.Nat.{zero-add, not-suc-le-zero}
use native.Mathlib.Omega.{arith}
use mathlib.Core.Path.{◌≡◌, refl, sym, ap, ◌∙◌}
use mathlib.Core.List.{List, ◌∷◌, ◌++◌, flat_map}
use mathlib.Core.Bool.{Bool, true, false}
use lib.ListN.{length, get_or, replicate, length-append, get_or-append}
use lib.Seq.{get_or-append-add}
use Rattle.lists.specs.Any.{Any, any_here, any_later}
use Rattle.lists.specs.Sums.{All, all_nil, all_cons}
use Rattle.even_places.specs.Rule.{alike, first_row}
use Rattle.even_places.proofs.SetLaws.{alike-eq, alike_self}

pub first-here : (A B : List Bool) (n : ℕ) (L : List (List Bool)) → 0 < n → alike A B ≡ true → first_row A (replicate n B ++ L) ≡ 0
unfolding first_row
first-here A B zero L h e = absurd (not-suc-le-zero h)
first-here A B (suc n) L h e = rw e

pub first-later : (A B : List Bool) (n : ℕ) (L : List (List Bool)) → alike A B ≡ false → first_row A (replicate n B ++ L) ≡ n + first_row A L
unfolding first_row
first-later A B zero L e = sym (zero-add (first_row A L))
first-later A B (suc n) L e = rw e (omega (arith, first-later A B n L e))

module _ {R : Type 0} (q : List Bool → ℕ) (rows_of : List Bool → List R) (d : R) where
  pub record Numbered (L : List (List Bool)) (A : List Bool) (i : ℕ) : Type 0 where
    pub number-below : first_row A (flat_map (λ B. replicate (q B) B) L) + i < length (flat_map rows_of L)
    pub number-row : get_or (flat_map rows_of L) (first_row A (flat_map (λ B. replicate (q B) B) L) + i) d ≡ get_or (rows_of A) i d

  numbered-here : (A B : List Bool) (L : List (List Bool)) (i : ℕ) → 0 < q B → length (rows_of B) ≡ q B → alike A B ≡ true → i < q A → Numbered (B ∷ L) A i
  unfolding flat_map
  numbered-here A B L i many long e h =
      let first : first_row A (replicate (q B) B ++ flat_map (λ C. replicate (q C) C) L) + i ≡ i =
      ap (λ (n : ℕ). n + i) (first-here A B (q B) (flat_map (λ C. replicate (q C) C) L) many e) ∙ zero-add i in
      let within : i < length (rows_of B) = omega (arith, ap q (alike-eq A B e)) in
      record {
        number-below = omega (arith, length-append (rows_of B) (flat_map rows_of L));
        number-row =
            ap (λ (n : ℕ). get_or (rows_of B ++ flat_map rows_of L) n d) first
            ∙ get_or-append (rows_of B) (flat_map rows_of L) d i within
            ∙ ap (λ (C : List Bool). get_or (rows_of C) i d) (sym (alike-eq A B e));
      }

  numbered-later : (A B : List Bool) (L : List (List Bool)) (i : ℕ) → length (rows_of B) ≡ q B → alike A B ≡ false → Numbered L A i → Numbered (B ∷ L) A i
  unfolding flat_map
  numbered-later A B L i long e later =
      let F = flat_map (λ C. replicate (q C) C) L in
      let first : first_row A (replicate (q B) B ++ F) + i ≡ length (rows_of B) + (first_row A F + i) = omega (arith, first-later A B (q B) F e) in
      record {
        number-below = omega (arith, length-append (rows_of B) (flat_map rows_of L), later.number-below);
        number-row =
            ap (λ (n : ℕ). get_or (rows_of B ++ flat_map rows_of L) n d) first
            ∙ get_or-append-add (rows_of B) (flat_map rows_of L) (first_row A F + i) d
            ∙ later.number-row;
      }

  pub numbered : (A : List Bool) (i : ℕ) → i < q A → {L : List (List Bool)} → All (λ B. (0 < q B) × (length (rows_of B) ≡ q B)) L → Any (λ B. A ≡ B) L
      → Numbered L A i
  numbered A i h all_nil x3 = elim x3 [ ]
  numbered A i h (all_cons {x = B} {xs = L} s a) (any_here e) = numbered-here A B L i s.0 s.1 (ap (alike A) (sym e) ∙ alike_self A) h
  numbered A i h (all_cons {x = B} {xs = L} s a) (any_later t) = go (alike A B) refl (numbered A i h a t)
    where
      go : (u : Bool) → alike A B ≡ u → Numbered L A i → Numbered (B ∷ L) A i
      go true e later = numbered-here A B L i s.0 s.1 e h
      go false e later = numbered-later A B L i s.1 e later
