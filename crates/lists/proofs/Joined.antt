-- Lists joined one after another (`flat_map`): over joined and mapped lists and ranges, when two are equal, how long they are, and what
-- stands at a place of one of them (`flat_map-at`, `placed_at`).
use Prim.Native.Nat.{ℕ, zero, suc, ◌+◌, ◌*◌, ◌<◌}
use native.Mathlib.Nat.{not-suc-le-zero, zero-add, zero-mul, suc-mul}
use native.Mathlib.Omega.{arith}
use mathlib.Core.Path.{◌≡◌, refl, sym, ap, ap₂, ◌∙◌}
use mathlib.Core.List.{List, [], ◌∷◌, ◌++◌, map, flat_map, append_assoc, append-nil}
use lib.ListN.{length, get_or, take, length-append, get_or-append}
use lib.Seq.{take-suc, get_or-append-add}
use Rattle.lists.specs.Ranges.{range}
use Rattle.lists.specs.Sums.{sum, All, all_nil, all_cons}
use Rattle.lists.proofs.Mapped.{map-append}
use Rattle.lists.proofs.Ranges.{range-next}

module _ {A B : Type 0} where
  pub flat_map-append : (f : A → List B) (xs ys : List A) → flat_map f (xs ++ ys) ≡ flat_map f xs ++ flat_map f ys
  unfolding flat_map
  flat_map-append f [] ys = refl
  flat_map-append f (x ∷ xs) ys = ap (λ l. f x ++ l) (flat_map-append f xs ys) ∙ sym (append_assoc (f x) (flat_map f xs) (flat_map f ys))

  -- with one more at the end
  pub flat_map-last : (f : A → List B) (xs : List A) (x : A) → flat_map f (xs ++ (x ∷ [])) ≡ flat_map f xs ++ f x
  unfolding flat_map
  flat_map-last f xs x = flat_map-append f xs (x ∷ []) ∙ ap (λ l. flat_map f xs ++ l) (append-nil (f x))

  -- over one element more of a list
  pub flat_map-take : (f : A → List B) (xs : List A) (i : ℕ) (d : A) → i < length xs → flat_map f (take (suc i) xs) ≡ flat_map f (take i xs) ++ f (get_or xs i d)
  flat_map-take f xs i d h = ap (flat_map f) (take-suc xs i d h) ∙ flat_map-last f (take i xs) (get_or xs i d)

  pub flat_map-all : (f g : A → List B) {xs : List A} → All (λ x. f x ≡ g x) xs → flat_map f xs ≡ flat_map g xs
  unfolding flat_map
  flat_map-all f g all_nil = refl
  flat_map-all f g (all_cons {x = x} {xs = xs} e a) = rw (e, flat_map-all f g a)

  pub flat_map-nothing : (g : A → List B) {xs : List A} → All (λ x. g x ≡ []) xs → flat_map g xs ≡ []
  unfolding flat_map
  flat_map-nothing g all_nil = refl
  flat_map-nothing g (all_cons {x = x} {xs = xs} e a) = rw (e, flat_map-nothing g a)

  -- how long lists of one length are together
  pub flat_map-size : (g : A → List B) (q : ℕ) {xs : List A} → All (λ x. length (g x) ≡ q) xs → length (flat_map g xs) ≡ length xs * q
  unfolding flat_map
  flat_map-size g q all_nil = sym (zero-mul q)
  flat_map-size g q (all_cons {x = x} {xs = xs} f a) = length-append (g x) (flat_map g xs) ∙ omega (arith, flat_map-size g q a, suc-mul (length xs) q)

module _ {A B C : Type 0} where
  pub flat_map-map : (g : B → List C) (f : A → B) (xs : List A) → flat_map g (map f xs) ≡ flat_map (λ x. g (f x)) xs
  unfolding flat_map
  flat_map-map g f [] = refl
  flat_map-map g f (x ∷ xs) = ap (λ l. g (f x) ++ l) (flat_map-map g f xs)

  pub flat_map-flat_map : (g : B → List C) (f : A → List B) (xs : List A) → flat_map g (flat_map f xs) ≡ flat_map (λ x. flat_map g (f x)) xs
  unfolding flat_map
  flat_map-flat_map g f [] = refl
  flat_map-flat_map g f (x ∷ xs) = flat_map-append g (f x) (flat_map f xs) ∙ ap (λ l. flat_map g (f x) ++ l) (flat_map-flat_map g f xs)

  pub map-flat_map : (f : A → B) (g : C → List A) (xs : List C) → map f (flat_map g xs) ≡ flat_map (λ x. map f (g x)) xs
  unfolding flat_map
  map-flat_map f g [] = refl
  map-flat_map f g (x ∷ xs) = map-append f (g x) (flat_map g xs) ∙ ap (λ l. map f (g x) ++ l) (map-flat_map f g xs)

-- over a range by one number more
pub flat_map-next : {A : Type 0} (g : ℕ → List A) (n : ℕ) → flat_map g (range 0 (suc n)) ≡ flat_map g (range 0 n) ++ g n
flat_map-next g n = ap (flat_map g) (range-next n) ∙ flat_map-last g (range 0 n) n

-- over two ranges of one length they are equal if they are place by place
pub joined-equal : {A : Type 0} (f g : ℕ → List A) (from other count : ℕ) → ((i : ℕ) → i < count → f (i + from) ≡ g (i + other))
    → flat_map f (range from count) ≡ flat_map g (range other count)
unfolding range flat_map
joined-equal f g from other zero e = refl
joined-equal {A} f g from other (suc count) e =
    ap₂ (λ (a b : List A). a ++ b)
    (ap f (sym (zero-add from)) ∙ e 0 (omega arith) ∙ ap g (zero-add other))
    (joined-equal f g (suc from) (suc other) count
    (λ i h.
    ap f (let l : i + suc from ≡ suc i + from = omega arith in l)
    ∙ e (suc i) (omega arith)
    ∙ ap g (let r : suc i + other ≡ i + suc other = omega arith in r)))

-- lists of one length: what stands at j * q + r
module _ {A B : Type 0} (g : B → List A) (q : ℕ) (d : A) (e : B) where
  pub flat_map-at : {xs : List B} → All (λ x. length (g x) ≡ q) xs → (j r : ℕ) → j < length xs → r < q
      → get_or (flat_map g xs) (j * q + r) d ≡ get_or (g (get_or xs j e)) r d
  unfolding flat_map
  flat_map-at all_nil j r h l = absurd (not-suc-le-zero h)
  flat_map-at (all_cons {x = x} {xs = xs} f a) zero r h l =
      ap (λ i. get_or (g x ++ flat_map g xs) i d) (omega (arith, zero-mul q)) ∙ get_or-append (g x) (flat_map g xs) d r (omega arith)
  flat_map-at (all_cons {x = x} {xs = xs} f a) (suc j) r h l =
      ap (λ i. get_or (g x ++ flat_map g xs) i d) (omega (arith, suc-mul j q))
      ∙ get_or-append-add (g x) (flat_map g xs) (j * q + r) d
      ∙ flat_map-at a j r (omega arith) l

-- lists of different lengths; w: their lengths
module _ {A B : Type 0} (g : A → List B) (w : A → ℕ) (e : A) (d : B) where
  pub record PlacedAt (xs : List A) (j o : ℕ) : Type 0 where
    pub inside : sum w (take j xs) + o < length (flat_map g xs)
    pub same : get_or (flat_map g xs) (sum w (take j xs) + o) d ≡ get_or (g (get_or xs j e)) o d

  pub placed_at : {xs : List A} → All (λ x. length (g x) ≡ w x) xs → (j o : ℕ) → j < length xs → o < w (get_or xs j e) → PlacedAt xs j o
  unfolding flat_map sum
  placed_at all_nil j o h l = absurd (not-suc-le-zero h)
  placed_at (all_cons {x = x} {xs = xs} f a) zero o h l = record {
    inside = omega (arith, length-append (g x) (flat_map g xs));
    same = ap (λ (i : ℕ). get_or (g x ++ flat_map g xs) i d) (zero-add o) ∙ get_or-append (g x) (flat_map g xs) d o (omega arith);
  }
  placed_at (all_cons {x = x} {xs = xs} f a) (suc j) o h l =
      let later = placed_at a j o (omega arith) l in
      let past : w x + sum w (take j xs) + o ≡ length (g x) + (sum w (take j xs) + o) = omega arith in
      record {
        inside = omega (arith, length-append (g x) (flat_map g xs), later.inside);
        same = ap (λ (i : ℕ). get_or (g x ++ flat_map g xs) i d) past ∙ get_or-append-add (g x) (flat_map g xs) (sum w (take j xs) + o) d ∙ later.same;
      }
