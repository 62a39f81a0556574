-- Lists of pairs with the same labels: equal as soon as they are equal under each label (`same-under`).
use Prim.Native.Nat.{ℕ, suc, ◌<◌}
use native.Mathlib.Omega.{arith}
use mathlib.Core.Path.{◌≡◌, refl, sym, ap, ◌∙◌}
use mathlib.Core.Bool.{Bool, true, false, cond}
use mathlib.Core.List.{List, [], ◌∷◌, ◌++◌, map, zip, zip_with, head-eq_of_cons-eq, tail-eq_of_cons-eq, nil≢cons, cons≢nil}
use borrow.Author.Tests.{eq-eqb, eqb-true}
use lib.Dec.{eqb}
use lib.ListN.{length, drop}
use Rattle.lists.specs.Below.{Below}
use Rattle.lists.specs.Pairs.{under}
use Rattle.lists.specs.Sums.{keep, keep_if, All, all_nil, all_cons}
use Rattle.lists.proofs.Each.{All-at, All-get, All-imp, All-keep, All-map, All-head, All-tail}

pub under-cons : (p q x : ℕ) (cs : List (ℕ × ℕ)) → under p ((q, x) ∷ cs) ≡ cond (eqb q p) (x ∷ under p cs) (under p cs)
unfolding under keep keep_if
under-cons p q x cs = go (eqb q p)
  where
    go : (t : Bool) → map (λ (e : ℕ × ℕ). e.1) (keep_if t (q, x) (keep (λ e. eqb e.0 p) cs)) ≡ cond t (x ∷ under p cs) (under p cs)
    go true = refl
    go false = refl

pub under-length : (p : ℕ) (cs ds : List (ℕ × ℕ)) → map (λ c. c.0) cs ≡ map (λ d. d.0) ds → length (under p cs) ≡ length (under p ds)
under-length p [] [] e = refl
under-length p [] (d ∷ ds) e = absurd (nil≢cons e)
under-length p (c ∷ cs) [] e = absurd (cons≢nil e)
under-length p ((q, x) ∷ cs) ((r, y) ∷ ds) e =
    ap length (under-cons p q x cs)
    ∙ go (eqb q p) (under-length p cs ds (tail-eq_of_cons-eq e))
    ∙ ap (λ s. length (cond (eqb s p) (y ∷ under p ds) (under p ds))) (head-eq_of_cons-eq e)
    ∙ sym (ap length (under-cons p r y ds))
  where
    go : (t : Bool) → length (under p cs) ≡ length (under p ds) → length (cond t (x ∷ under p cs) (under p cs)) ≡ length (cond t (y ∷ under p ds) (under p ds))
    go true ih = ap suc ih
    go false ih = ih

pub under-map : (f : ℕ → ℕ → ℕ) (p : ℕ) (cs : List (ℕ × ℕ)) → under p (map (λ c. (c.0, f c.0 c.1)) cs) ≡ map (f p) (under p cs)
unfolding under keep
under-map f p [] = refl
under-map f p ((q, x) ∷ cs) =
    under-cons p q (f q x) (map (λ c. (c.0, f c.0 c.1)) cs) ∙ go (eqb q p) refl (under-map f p cs) ∙ sym (ap (map (f p)) (under-cons p q x cs))
  where
    image : List ℕ
    image = under p (map (λ c. (c.0, f c.0 c.1)) cs)

    go : (t : Bool) → eqb q p ≡ t → image ≡ map (f p) (under p cs) → cond t (f q x ∷ image) image ≡ map (f p) (cond t (x ∷ under p cs) (under p cs))
    go true e ih = rw (ih, eqb-true q p e)
    go false e ih = ih

module _ (f g : ℕ → ℕ → ℕ) (K : ℕ) where
  -- lists that are equal under a label, from the next pair on
  step : (p q x y : ℕ) (cs ds : List (ℕ × ℕ)) → map (f p) (under p ((q, x) ∷ cs)) ≡ map (g p) (under p ((q, y) ∷ ds))
      → map (f p) (under p cs) ≡ map (g p) (under p ds)
  step p q x y cs ds e = go (eqb q p) (ap (map (f p)) (sym (under-cons p q x cs)) ∙ e ∙ ap (map (g p)) (under-cons p q y ds))
    where
      go : (t : Bool) → map (f p) (cond t (x ∷ under p cs) (under p cs)) ≡ map (g p) (cond t (y ∷ under p ds) (under p ds))
          → map (f p) (under p cs) ≡ map (g p) (under p ds)
      go true h = tail-eq_of_cons-eq h
      go false h = h

  here : (q x y : ℕ) (cs ds : List (ℕ × ℕ)) → map (f q) (under q ((q, x) ∷ cs)) ≡ map (g q) (under q ((q, y) ∷ ds)) → f q x ≡ g q y
  here q x y cs ds e =
      head-eq_of_cons-eq (rw (under-cons q q x cs, under-cons q q y ds, eq-eqb q q refl) at e)

  pub same-under : {cs : List (ℕ × ℕ)} (ds : List (ℕ × ℕ)) → All (λ c. c.0 < K) cs → map (λ c. c.0) cs ≡ map (λ d. d.0) ds
      → ((p : ℕ) → p < K → map (f p) (under p cs) ≡ map (g p) (under p ds)) → map (λ c. f c.0 c.1) cs ≡ map (λ d. g d.0 d.1) ds
  same-under [] all_nil e h = refl
  same-under (d ∷ ds) all_nil e h = absurd (nil≢cons e)
  same-under [] (all_cons low a) e h = absurd (cons≢nil e)
  same-under ((r, y) ∷ ds) (all_cons {x = (q, x)} {xs = cs} low a) e h =
      ap (λ v. v ∷ map (λ c. f c.0 c.1) cs) (here q x y cs ds (like q low) ∙ ap (λ s. g s y) (head-eq_of_cons-eq e))
      ∙ ap (λ l. g r y ∷ l) (same-under ds a (tail-eq_of_cons-eq e) (λ p l. step p q x y cs ds (like p l)))
    where
      like : (p : ℕ) → p < K → map (f p) (under p ((q, x) ∷ cs)) ≡ map (g p) (under p ((q, y) ∷ ds))
      like p l = h p l ∙ ap (λ s. map (g p) (under p ((s, y) ∷ ds))) (sym (head-eq_of_cons-eq e))

module _ {A B : Type 0} where
  pub zip-firsts : (xs : List A) (ys : List B) → length xs ≡ length ys → map (λ e. e.0) (zip xs ys) ≡ xs
  unfolding zip zip_with
  zip-firsts [] ys e = refl
  zip-firsts (x ∷ xs) [] e = absurd (omega arith)
  zip-firsts (x ∷ xs) (y ∷ ys) e = ap (λ l. x ∷ l) (zip-firsts xs ys (omega arith))

  pub zip-seconds : (xs : List A) (ys : List B) → length xs ≡ length ys → map (λ e. e.1) (zip xs ys) ≡ ys
  unfolding zip zip_with
  zip-seconds [] [] e = refl
  zip-seconds [] (y ∷ ys) e = absurd (omega arith)
  zip-seconds (x ∷ xs) [] e = absurd (omega arith)
  zip-seconds (x ∷ xs) (y ∷ ys) e = ap (λ l. y ∷ l) (zip-seconds xs ys (omega arith))

  -- joined labels go with the entries one after the other
  zip-none : (xs : List A) → zip {A = A} {B = B} xs [] ≡ []
  unfolding zip zip_with
  zip-none [] = refl
  zip-none (x ∷ xs) = refl

  pub zip-append : (xs ys : List A) (zs : List B) → zip (xs ++ ys) zs ≡ zip xs zs ++ zip ys (drop (length xs) zs)
  unfolding zip zip_with
  zip-append [] ys zs = refl
  zip-append (x ∷ xs) ys [] = sym (zip-none ys)
  zip-append (x ∷ xs) ys (z ∷ zs) = ap (λ l. (x, z) ∷ l) (zip-append xs ys zs)

-- what holds of the entries under each label holds of all entries
pub under_all : {P : ℕ → Type 0} (K : ℕ) {cs : List (ℕ × ℕ)} → All (λ c. c.0 < K) cs → ((p : ℕ) → p < K → All P (under p cs)) → All (λ c. P c.1) cs
under_all K all_nil h = all_nil
under_all {P} K (all_cons {x = (q, x)} {xs = cs} low a) h = all_cons (first (h q low)) (under_all K a (λ p l. rest p (h p l)))
  where
    first : All P (under q ((q, x) ∷ cs)) → P x
    first b = All-head (rw (under-cons q q x cs, eq-eqb q q refl) at b)

    rest : (p : ℕ) → All P (under p ((q, x) ∷ cs)) → All P (under p cs)
    rest p b = go (eqb q p) (rw (under-cons p q x cs) at b)
      where
        go : (t : Bool) → All P (cond t (x ∷ under p cs) (under p cs)) → All P (under p cs)
        go true c = All-tail c
        go false c = c

-- the entries under a label are among all entries
pub under-below : (n p : ℕ) (xs ys : List ℕ) → Below n ys → Below n (under p (zip xs ys))
unfolding under zip zip_with
under-below n p xs ys b = All-get {P = λ y. y < n} 0 (All-map (λ e. e.1) (All-imp (λ e h. h.0) (All-keep (λ e. eqb e.0 p) (go xs (All-at 0 ys b)))))
  where
    go : (xs : List ℕ) {ys : List ℕ} → All (λ y. y < n) ys → All (λ e. e.1 < n) (zip xs ys)
    go [] a = all_nil
    go (x ∷ xs) all_nil = all_nil
    go (x ∷ xs) (all_cons h a) = all_cons h (go xs a)

module _ {A B C : Type 0} (f : A → B) (g : A → C) where
  pub zip-map : (l : List A) → zip (map f l) (map g l) ≡ map (λ x. (f x, g x)) l
  unfolding zip zip_with
  zip-map [] = refl
  zip-map (x ∷ l) = ap (λ r. (f x, g x) ∷ r) (zip-map l)
