-- Laws of sets of messages, each of which stands once among the sets of its size (`alike-one`), of the rows of a set, and of the rows that
-- are joined from them.
use Prim.Native.Nat.{ℕ, zero, suc, ◌+◌, ◌*◌, ◌<◌}
use native.Mathlib.Nat.{zero-add, add-zero, add-suc, suc-add, mul-zero, zero-mul, add_comm, not-suc-le-zero}
use native.Mathlib.Numerals.{add-one}
use native.Mathlib.Omega.{arith}
use mathlib.Core.Path.{◌≡◌, refl, sym, ap, ◌∙◌, subst}
use mathlib.Core.Logic.{◌≢◌}
use mathlib.Core.List.{List, [], ◌∷◌, ◌++◌, map}
use mathlib.Core.Bool.{Bool, true, false, not, beq, ◌&&◌, false≢true}
use mathlib.Core.Option.{none, some}
use lib.ListN.{length, get_or, set, replicate}
use lib.Seq.{get_or-set_same, get_or-set_other, set-set, set-get_or}
use Rattle.lists.specs.Sums.{bit, keep, keep_if, sum, All, all_nil, all_cons}
use Rattle.lists.proofs.Sums.{sum-zero}
use Rattle.even_places.specs.Rule.{has, ones_in, sets, Row, give, next, after, number, join, is_some, same, of_set, cells, alike}
use Rattle.even_places.proofs.Choose.{sets-none, sets-some}
use Rattle.even_places.proofs.Rows.{after-length, Lacks}

-- a row's set
unfoldable pub set_of : Row → List Bool
set_of r = map is_some r

pub same_alike : (A : List Bool) (r : Row) → same A r ≡ alike A (set_of r)
unfolding same alike set_of
same_alike [] [] = refl
same_alike [] (x ∷ r) = refl
same_alike (a ∷ A) [] = refl
same_alike (a ∷ A) (x ∷ r) = ap (λ t. beq a (is_some x) && t) (same_alike A r)

pub alike-eq : (A B : List Bool) → alike A B ≡ true → A ≡ B
unfolding alike
alike-eq [] [] e = refl
alike-eq [] (b ∷ B) e = absurd (false≢true e)
alike-eq (a ∷ A) [] e = absurd (false≢true e)
alike-eq (true ∷ A) (true ∷ B) e = ap (λ C. true ∷ C) (alike-eq A B e)
alike-eq (true ∷ A) (false ∷ B) e = absurd (false≢true e)
alike-eq (false ∷ A) (true ∷ B) e = absurd (false≢true e)
alike-eq (false ∷ A) (false ∷ B) e = ap (λ C. false ∷ C) (alike-eq A B e)

pub alike_self : (A : List Bool) → alike A A ≡ true
unfolding alike
alike_self [] = refl
alike_self (true ∷ A) = alike_self A
alike_self (false ∷ A) = alike_self A

-- a set stands once among the sets of its size
alike-once : (A : List Bool) → sum (λ B. bit (alike A B)) (sets (length A) (ones_in A)) ≡ 1
unfolding ones_in sum bit sets alike
alike-once [] = refl
alike-once (false ∷ A) = rw (zero-add (ones_in A)) (go (ones_in A) (alike-once A))
  where
    go : (b : ℕ) → sum (λ B. bit (alike A B)) (sets (length A) b) ≡ 1 → sum (λ B. bit (alike (false ∷ A) B)) (sets (suc (length A)) b) ≡ 1
    go zero e = sets-none (λ B. bit (alike (false ∷ A) B)) (length A) ∙ e
    go (suc b) e = sets-some (λ B. bit (alike (false ∷ A) B)) (length A) b ∙ omega (arith, e, sum-zero (sets (length A) b))
alike-once (true ∷ A) =
    ap (λ b. sum (λ B. bit (alike (true ∷ A) B)) (sets (suc (length A)) b)) (add_comm 1 (ones_in A) ∙ add-one (ones_in A))
    ∙ sets-some (λ B. bit (alike (true ∷ A) B)) (length A) (ones_in A)
    ∙ omega (arith, alike-once A, sum-zero (sets (length A) (suc (ones_in A))))

pub alike-one : (A : List Bool) (K b : ℕ) → length A ≡ K → ones_in A ≡ b → sum (λ B. bit (alike A B)) (sets K b) ≡ 1
alike-one A K b p q =
    subst (λ (j : ℕ). sum (λ B. bit (alike A B)) (sets j b) ≡ 1) p (subst (λ (j : ℕ). sum (λ B. bit (alike A B)) (sets (length A) j) ≡ 1) q (alike-once A))

pub alike-carry : (f : List Bool → ℕ) (A B : List Bool) → f B * bit (alike A B) ≡ f A * bit (alike A B)
unfolding bit
alike-carry f A B = go (alike A B) refl
  where
    go : (t : Bool) → alike A B ≡ t → f B * bit t ≡ f A * bit t
    go true e = ap (λ C. f C * 1) (sym (alike-eq A B e))
    go false e = mul-zero (f B) ∙ sym (mul-zero (f A))

-- A is B joined with k, which B lacks, exactly if A has k and is B without it
pub alike-join : (A B : List Bool) (k : ℕ) → length A ≡ length B → k < length A
    → bit (not (has k B)) * bit (alike A (set B k true)) ≡ bit (has k A) * bit (alike (set A k false) B)
unfolding bit has alike
alike-join [] B k e h = absurd (not-suc-le-zero h)
alike-join (a ∷ A) [] k e h = absurd (omega arith)
alike-join (true ∷ A) (true ∷ B) zero e h = omega (arith, zero-mul (bit (alike A B)), mul-zero 1)
alike-join (true ∷ A) (false ∷ B) zero e h = refl
alike-join (false ∷ A) (true ∷ B) zero e h = omega (arith, zero-mul (bit (alike A B)), mul-zero 0)
alike-join (false ∷ A) (false ∷ B) zero e h = omega (arith, zero-mul (bit (alike A B)), mul-zero 1)
alike-join (a ∷ A) (b ∷ B) (suc k) e h = go (beq a b) (alike-join A B k (omega arith) (omega arith))
  where
    go : (t : Bool) → bit (not (has k B)) * bit (alike A (set B k true)) ≡ bit (has k A) * bit (alike (set A k false) B)
        → bit (not (has k B)) * bit (t && alike A (set B k true)) ≡ bit (has k A) * bit (t && alike (set A k false) B)
    go true ih = ih
    go false ih = mul-zero (bit (not (has k B))) ∙ sym (mul-zero (bit (has k A)))

pub ones-drop : (A : List Bool) (k : ℕ) → has k A ≡ true → suc (ones_in (set A k false)) ≡ ones_in A
unfolding has ones_in sum bit
ones-drop [] k e = absurd (false≢true e)
ones-drop (true ∷ A) zero e = omega arith
ones-drop (false ∷ A) zero e = absurd (false≢true e)
ones-drop (a ∷ A) (suc k) e = omega (arith, ones-drop A k e)

-- a set of one message has no other
has-empty : (A : List Bool) (p : ℕ) → ones_in A ≡ 0 → has p A ≡ false
unfolding ones_in has sum bit
has-empty [] p e = refl
has-empty (true ∷ A) p e = absurd (omega arith)
has-empty (false ∷ A) zero e = refl
has-empty (false ∷ A) (suc p) e = has-empty A p (omega arith)

pub has-lone : (A : List Bool) (k p : ℕ) → ones_in A ≡ 1 → has k A ≡ true → p ≢ k → has p A ≡ false
unfolding has
has-lone A k p many e d = sym (get_or-set_other A k p false false d) ∙ has-empty (set A k false) p (omega (arith, ones-drop A k e))

pub set_of-next : (A : List Bool) (c : List ℕ) → length A ≡ length c → set_of (next A c) ≡ A
unfolding set_of next is_some give
set_of-next [] c e = refl
set_of-next (a ∷ A) [] e = absurd (omega arith)
set_of-next (true ∷ A) (x ∷ c) e = ap (λ B. true ∷ B) (set_of-next A c (omega arith))
set_of-next (false ∷ A) (x ∷ c) e = ap (λ B. false ∷ B) (set_of-next A c (omega arith))

pub set_of-set : (r : Row) (k x : ℕ) → set_of (set r k (some x)) ≡ set (set_of r) k true
unfolding set_of is_some
set_of-set [] zero x = refl
set_of-set [] (suc k) x = refl
set_of-set (y ∷ r) zero x = refl
set_of-set (y ∷ r) (suc k) x = ap (λ B. is_some y ∷ B) (set_of-set r k x)

pub set_of-has : (r : Row) (k : ℕ) → has k (set_of r) ≡ is_some (get_or r k none)
unfolding set_of is_some has
set_of-has [] k = refl
set_of-has (y ∷ r) zero = refl
set_of-has (y ∷ r) (suc k) = set_of-has r k

-- a row has a cell for each message of its set
pub cells-length : (q : ℕ) (r : Row) → length (cells q r) ≡ ones_in (set_of r)
unfolding cells set_of is_some ones_in sum bit
cells-length q [] = refl
cells-length q (none ∷ r) = omega (arith, cells-length (suc q) r)
cells-length q (some x ∷ r) = omega (arith, cells-length (suc q) r)

pub number-sets : (f : List Bool → ℕ) (K : ℕ) (c : List ℕ) {L : List (List Bool)} → length c ≡ K → All (λ A. length A ≡ K) L
    → sum (λ r. f (set_of r)) (number c L) ≡ sum f L
unfolding number sum
number-sets f K c e all_nil = refl
number-sets f K c e (all_cons {x = A} {xs = L} h a) =
    let l : length A ≡ length c = h ∙ sym e in
    omega (arith, ap f (set_of-next A c l), number-sets f K (after A c) (after-length A c l ∙ e) a)

-- the rows of a set have that set
pub keep-sets : (A : List Bool) (rs : List Row) → map set_of (of_set A rs) ≡ replicate (sum (λ r. bit (same A r)) rs) A
unfolding of_set keep keep_if sum bit
keep-sets A [] = refl
keep-sets A (r ∷ rs) = go (same A r) refl (keep-sets A rs)
  where
    n : ℕ
    n = sum (λ s. bit (same A s)) rs

    go : (t : Bool) → same A r ≡ t → map set_of (keep (same A) rs) ≡ replicate n A → map set_of (keep_if t r (keep (same A) rs)) ≡ replicate (bit t + n) A
    go true e ih = rw (add_comm 1 n ∙ add-one n, ih, ← alike-eq A (set_of r) (sym (same_alike A r) ∙ e))
    go false e ih = rw (zero-add n) ih

-- a row of a set has k if the set does
same-has : (A : List Bool) (r : Row) (k : ℕ) → same A r ≡ true → has k A ≡ is_some (get_or r k none)
same-has A r k e = ap (has k) (alike-eq A (set_of r) (sym (same_alike A r) ∙ e)) ∙ set_of-has r k

pub same_not : (A : List Bool) (r : Row) (k : ℕ) → has k A ≢ is_some (get_or r k none) → same A r ≡ false
same_not A r k d = go (same A r) refl
  where
    go : (t : Bool) → same A r ≡ t → t ≡ false
    go true e = absurd (d (same-has A r k e))
    go false e = refl

same-join : (A : List Bool) (r : Row) (k x : ℕ) → has k A ≡ true → get_or r k none ≡ none → k < length r → same A (set r k (some x)) ≡ same (set A k false) r
unfolding has same is_some
same-join A [] k x e l h = absurd (not-suc-le-zero h)
same-join [] (y ∷ r) k x e l h = absurd (false≢true e)
same-join (true ∷ A) (y ∷ r) zero x e l h = rw l refl
same-join (false ∷ A) (y ∷ r) zero x e l h = absurd (false≢true e)
same-join (a ∷ A) (y ∷ r) (suc k) x e l h = ap (λ t. beq a (is_some y) && t) (same-join A r k x e l (omega arith))

-- the joined rows of a set, without k again, are the rows of the set without k
pub join-keep : (A : List Bool) (K k b x : ℕ) {rs : List Row} → has k A ≡ true → k < K → All (Lacks K k b) rs
    → map (λ r. set r k none) (of_set A (join k x rs)) ≡ of_set (set A k false) rs
unfolding of_set keep keep_if join
join-keep A K k b x e h all_nil = refl
join-keep A K k b x e h (all_cons {x = r} {xs = rs} l a) =
    rw (same-join A r k x e l.lack (omega (arith, l.long))) (go (same (set A k false) r) (join-keep A K k b (suc x) e h a))
  where
    back : set (set r k (some x)) k none ≡ r
    back = set-set r k (some x) none ∙ ap (set r k) (sym l.lack) ∙ set-get_or r k none

    go : (t : Bool) → map (λ s. set s k none) (keep (same A) (join k (suc x) rs)) ≡ keep (same (set A k false)) rs
        → map (λ s. set s k none) (keep_if t (set r k (some x)) (keep (same A) (join k (suc x) rs))) ≡ keep_if t r (keep (same (set A k false)) rs)
    go true ih = rw (back, ih)
    go false ih = ih

pub join-have : (K k b x : ℕ) {rs : List Row} → k < K → All (Lacks K k b) rs → All (λ r. is_some (get_or r k none) ≡ true) (join k x rs)
unfolding join is_some
join-have K k b x h all_nil = all_nil
join-have K k b x h (all_cons {x = r} l a) = all_cons (ap is_some (get_or-set_same r k (some x) none (omega (arith, l.long)))) (join-have K k b (suc x) h a)

pub has-drop : (A : List Bool) (k : ℕ) → has k (set A k false) ≡ false
unfolding has
has-drop [] zero = refl
has-drop [] (suc k) = refl
has-drop (a ∷ A) zero = refl
has-drop (a ∷ A) (suc k) = has-drop A k

-- joined rows: the i-th has the i-th next place of k
pub join-append : (k x : ℕ) (R S : List Row) → join k x (R ++ S) ≡ join k x R ++ join k (x + length R) S
unfolding join
join-append k x [] S = ap (λ s. join k s S) (sym (add-zero x))
join-append k x (r ∷ R) S =
    ap (λ l. set r k (some x) ∷ l) (join-append k (suc x) R S ∙ ap (λ s. join k (suc x) R ++ join k s S) (suc-add x (length R) ∙ sym (add-suc x (length R))))

pub join-length : (k x : ℕ) (R : List Row) → length (join k x R) ≡ length R
unfolding join
join-length k x [] = refl
join-length k x (r ∷ R) = ap suc (join-length k (suc x) R)

module _ (K k b : ℕ) (known : k < K) where
  pub join-at : (x i : ℕ) {R : List Row} → All (Lacks K k b) R → i < length R → get_or (get_or (join k x R) i []) k none ≡ some (x + i)
  unfolding join
  join-at x i all_nil h = absurd (not-suc-le-zero h)
  join-at x zero (all_cons {x = r} l a) h = get_or-set_same r k (some x) none (omega (arith, l.long)) ∙ ap some (sym (add-zero x))
  join-at x (suc i) (all_cons l a) h = join-at (suc x) i a (omega arith) ∙ ap some (omega arith)

  pub join-same : (A : List Bool) (t : Bool) (x : ℕ) {R : List Row} → has k A ≡ true → All (Lacks K k b) R → All (λ r. same (set A k false) r ≡ t) R
      → All (λ r. same A r ≡ t) (join k x R)
  unfolding join
  join-same A t x e all_nil c = all_nil
  join-same A t x e (all_cons {x = r} l a) (all_cons d c) = all_cons (same-join A r k x e l.lack (omega (arith, l.long)) ∙ d) (join-same A t (suc x) e a c)
