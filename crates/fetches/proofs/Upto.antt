-- Lists that are filled place by place (`Upto`): the places before i hold what they are to hold, and the others nothing. While place i is filled, the
-- places beside it keep what they have (`Beside`); once it holds what it is to hold, i is one more (`beside-upto`), and at the end the list is
-- whole (`upto_all`).
use mathlib.Core.Path.{◌≡◌, refl, sym, ap, ◌∙◌}
use mathlib.Core.Bool.{Bool, true, false, cond}
use mathlib.Core.List.{List}
use Prim.Native.Nat.{ℕ, suc, ◌≤◌}
use native.Mathlib.Omega.{arith}
use native.Mathlib.Decide.{ℕ_discrete}
use borrow.Author.Tests.{ltb-true, ltb-false, lt-ltb, le-ltb}
use lib.Dec.{ltb}
use lib.ListN.{length, get_or, set}
use lib.Seq.{ext_get_or, get_or-set_other}

-- values of places: those of the whole before i, and none (d) from there on
module _ {A : Type 0} (d : A) where
  abbrev pub Upto : ℕ → List A → List A → Type 0
  Upto i made whole = (j : ℕ) → get_or made j d ≡ cond (ltb j i) (get_or whole j d) d

  -- the same of the places beside i
  abbrev pub Beside : ℕ → List A → List A → Type 0
  Beside i made whole = (j : ℕ) → (j ≡ i → ⊥) → get_or made j d ≡ cond (ltb j i) (get_or whole j d) d

  pub upto-none : (made whole : List A) → ((j : ℕ) → get_or made j d ≡ d) → Upto 0 made whole
  upto-none made whole none j = none j ∙ sym (ap (λ (t : Bool). cond t (get_or whole j d) d) (le-ltb j 0 (omega arith)))

  module _ (i : ℕ) (made whole : List A) where
    pub upto-here : Upto i made whole → get_or made i d ≡ d
    upto-here u = u i ∙ ap (λ (t : Bool). cond t (get_or whole i d) d) (le-ltb i i (omega arith))

    pub upto-beside : Upto i made whole → Beside i made whole
    upto-beside u j ne = u j

    pub beside-set : (v : A) → Beside i made whole → Beside i (set made i v) whole
    beside-set v b j ne = get_or-set_other made i j v d ne ∙ b j ne

    -- one place further
    further-on : (j : ℕ) → (j ≡ i → ⊥) → cond (ltb j i) (get_or whole j d) d ≡ cond (ltb j (suc i)) (get_or whole j d) d
    further-on j ne = go (ltb j i) refl
      where
        go : (t : Bool) → ltb j i ≡ t → cond t (get_or whole j d) d ≡ cond (ltb j (suc i)) (get_or whole j d) d
        go true e = let h = ltb-true j i e in rw (lt-ltb j (suc i) (omega arith))
        go false e = rw (le-ltb j (suc i) (past e))
          where
            past : ltb j i ≡ false → suc i ≤ j
            past e = let h = ltb-false j i e in omega arith

    pub beside-upto : Beside i made whole → get_or made i d ≡ get_or whole i d → Upto (suc i) made whole
    beside-upto b e j = go (ℕ_discrete j i)
      where
        go : Dec (j ≡ i) → get_or made j d ≡ cond (ltb j (suc i)) (get_or whole j d) d
        go (yes same) = rw same (e ∙ rw (lt-ltb i (suc i) (omega arith)))
        go (no other) = b j other ∙ further-on j other

  pub upto_all : (i : ℕ) (made whole : List A) → Upto i made whole → length made ≡ length whole → length whole ≤ i → made ≡ whole
  upto_all i made whole u e h =
      ext_get_or d made whole e (λ j k. u j ∙ ap (λ (t : Bool). cond t (get_or whole j d) d) (lt-ltb j i (omega arith)))
