-- Laws of rows: numbering gives each message's places one after another (`number-hit`), and so does joining for the wanted message
-- (`join-hit`); how many rows have a message (`number-gives`, `join-gives`).
use Prim.Native.Nat.{ℕ, zero, suc, ◌+◌, ◌*◌, ◌≤◌, ◌<◌}
use native.Mathlib.Nat.{zero-add, add-zero, zero-mul, one-mul, add-mul, not-suc-le-zero}
use native.Mathlib.Omega.{arith}
use mathlib.Core.Path.{◌≡◌, refl, sym, ap, ◌∙◌}
use mathlib.Core.List.{List, [], ◌∷◌}
use mathlib.Core.Bool.{Bool, true, false, not}
use mathlib.Core.Option.{Option, none, some}
use borrow.Author.Tests.{lt-ltb, le-ltb, eqb-true}
use lib.ListN.{length, get_or, set, length-set}
use lib.Seq.{get_or-set_same}
use lib.Dec.{eqb, ltb}
use Rattle.lists.specs.Sums.{bit, sum, All, all_nil, all_cons}
use Rattle.lists.specs.Ranges.{range}
use Rattle.lists.proofs.Sums.{sum-keep, sum-next}
use Rattle.lists.proofs.Bits.{bit-step}
use Rattle.even_places.specs.Rule.{has, ones_in, Row, give, next, after, number, afters, join, others, is_some}
use Rattle.even_places.specs.Counting.{with}

-- 1 if v < n, else 0
unfoldable pub below : ℕ → ℕ → ℕ
below v n = bit (ltb v n)

unfoldable pub is : ℕ → Option ℕ → ℕ
is v none = 0
is v (some x) = bit (eqb x v)

-- 1 if the row has place v of message p, else 0; 1 if it has a place of p
unfoldable pub hit : ℕ → ℕ → Row → ℕ
hit p v r = is v (get_or r p none)

unfoldable pub gives : ℕ → Row → ℕ
gives p r = bit (is_some (get_or r p none))

below_step : (v x : ℕ) → bit (eqb x v) + below v x ≡ below v (suc x)
unfolding below
below_step v x = bit-step v x

pub below-zero : (v : ℕ) → below v 0 ≡ 0
unfolding below bit
below-zero v = ap bit (le-ltb v 0 (omega arith))

pub below-lt : (v n : ℕ) → v < n → below v n ≡ 1
unfolding below bit
below-lt v n h = ap bit (lt-ltb v n h)

pub below-ge : (v n : ℕ) → n ≤ v → below v n ≡ 0
unfolding below bit
below-ge v n h = ap bit (le-ltb v n h)

unfoldable pub somes : Row → ℕ
somes r = sum (λ x. bit (is_some x)) r

pub next-at : (A : List Bool) (c : List ℕ) (p : ℕ) → length A ≡ length c → get_or (next A c) p none ≡ give (has p A) (get_or c p 0)
unfolding next has give
next-at [] c p e = refl
next-at (a ∷ A) [] p e = absurd (omega arith)
next-at (a ∷ A) (x ∷ c) zero e = refl
next-at (a ∷ A) (x ∷ c) (suc p) e = next-at A c p (omega arith)

pub after-at : (A : List Bool) (c : List ℕ) (p : ℕ) → length A ≡ length c → get_or (after A c) p 0 ≡ bit (has p A) + get_or c p 0
unfolding after has bit
after-at [] [] p e = refl
after-at [] (x ∷ c) p e = absurd (omega arith)
after-at (a ∷ A) [] p e = absurd (omega arith)
after-at (a ∷ A) (x ∷ c) zero e = refl
after-at (a ∷ A) (x ∷ c) (suc p) e = after-at A c p (omega arith)

pub after-length : (A : List Bool) (c : List ℕ) → length A ≡ length c → length (after A c) ≡ length c
unfolding after
after-length [] c e = e
after-length (a ∷ A) [] e = refl
after-length (a ∷ A) (x ∷ c) e = ap suc (after-length A c (omega arith))

pub next-length : (A : List Bool) (c : List ℕ) → length A ≡ length c → length (next A c) ≡ length A
unfolding next
next-length [] c e = refl
next-length (a ∷ A) [] e = absurd (omega arith)
next-length (a ∷ A) (x ∷ c) e = ap suc (next-length A c (omega arith))

give-some : (a : Bool) (x : ℕ) → is_some (give a x) ≡ a
unfolding give is_some
give-some true x = refl
give-some false x = refl

next-somes : (A : List Bool) (c : List ℕ) → length A ≡ length c → somes (next A c) ≡ ones_in A
unfolding next somes ones_in sum
next-somes [] c e = refl
next-somes (a ∷ A) [] e = absurd (omega arith)
next-somes (a ∷ A) (x ∷ c) e = omega (arith, ap bit (give-some a x), next-somes A c (omega arith))

-- a row of b of K messages that lacks k
pub record Lacks (K k b : ℕ) (r : Row) : Type 0 where
  pub long : length r ≡ K
  pub many : somes r ≡ b
  pub lack : get_or r k none ≡ none

pub record SetLacks (K k b : ℕ) (A : List Bool) : Type 0 where
  pub long : length A ≡ K
  pub many : ones_in A ≡ b
  pub lack : has k A ≡ false

pub number-lacks : (K k b : ℕ) (c : List ℕ) {L : List (List Bool)} → length c ≡ K → All (SetLacks K k b) L → All (Lacks K k b) (number c L)
unfolding number
number-lacks K k b c e all_nil = all_nil
number-lacks K k b c e (all_cons {x = A} h a) =
    let l : length A ≡ length c = h.long ∙ sym e in
    all_cons
    (record {
      long = next-length A c l ∙ h.long;
      many = next-somes A c l ∙ h.many;
      lack = next-at A c k l ∙ ap (λ t. give t (get_or c k 0)) h.lack
          ∙ give-none;
    })
    (number-lacks K k b (after A c) (after-length A c l ∙ e) a)
  where
    give-none : give false (get_or c k 0) ≡ none
    give-none = refl

step : (t : Bool) (v x o w : ℕ) → o + below v (bit t + x) ≡ below v (bit t + x + w) → is v (give t x) + o + below v x ≡ below v (x + (bit t + w))
unfolding is give bit
step true v x o w ih =
    let a : below v (1 + x) ≡ below v (suc x) = ap (below v) (omega arith) in
    let b : below v (1 + x + w) ≡ below v (x + (1 + w)) = ap (below v) (omega arith) in
    omega (arith, below_step v x)
step false v x o w ih =
    let a : below v (0 + x) ≡ below v x = ap (below v) (omega arith) in
    let b : below v (0 + x + w) ≡ below v (x + (0 + w)) = ap (below v) (omega arith) in
    omega arith

-- numbering gives each message's places one after another, from the first on
pub number-hit : (K p v : ℕ) (c : List ℕ) {L : List (List Bool)} → length c ≡ K → All (λ A. length A ≡ K) L
    → sum (hit p v) (number c L) + below v (get_or c p 0) ≡ below v (get_or c p 0 + with p L)
unfolding number with sum hit
number-hit K p v c e all_nil = rw (add-zero (get_or c p 0)) (omega arith)
number-hit K p v c e (all_cons {x = A} {xs = L} h a) =
    let l : length A ≡ length c = h ∙ sym e in
    let ih = number-hit K p v (after A c) (after-length A c l ∙ e) a in
    let here : hit p v (next A c) ≡ is v (give (has p A) (get_or c p 0)) = ap (is v) (next-at A c p l) in
    omega (arith, here, step (has p A) v (get_or c p 0) (sum (hit p v) (number (after A c) L)) (with p L) (rw (after-at A c p l) at ih))

pub number-gives : (K p : ℕ) (c : List ℕ) {L : List (List Bool)} → length c ≡ K → All (λ A. length A ≡ K) L → sum (gives p) (number c L) ≡ with p L
unfolding number with sum gives
number-gives K p c e all_nil = refl
number-gives K p c e (all_cons {x = A} {xs = L} h a) =
    let l : length A ≡ length c = h ∙ sym e in
    let here : is_some (get_or (next A c) p none) ≡ has p A = ap is_some (next-at A c p l) ∙ give-some (has p A) (get_or c p 0) in
    omega (arith, ap bit here, number-gives K p (after A c) (after-length A c l ∙ e) a)

pub number-length : (c : List ℕ) (L : List (List Bool)) → length (number c L) ≡ length L
unfolding number
number-length c [] = refl
number-length c (A ∷ L) = ap suc (number-length (after A c) L)

-- and what follows it is the next place after them
module _ (K : ℕ) where
  pub afters-length : {L : List (List Bool)} (c : List ℕ) → length c ≡ K → All (λ A. length A ≡ K) L → length (afters L c) ≡ K
  unfolding afters
  afters-length c e all_nil = e
  afters-length c e (all_cons {x = A} h a) = afters-length (after A c) (after-length A c (h ∙ sym e) ∙ e) a

  pub afters-at : (p : ℕ) {L : List (List Bool)} (c : List ℕ) → length c ≡ K → All (λ A. length A ≡ K) L → get_or (afters L c) p 0 ≡ get_or c p 0 + with p L
  unfolding afters with sum
  afters-at p c e all_nil = sym (add-zero (get_or c p 0))
  afters-at p c e (all_cons {x = A} h a) =
      afters-at p (after A c) (after-length A c (h ∙ sym e) ∙ e) a ∙ omega (arith, after-at A c p (h ∙ sym e))

-- joining leaves alone what does not look at k, and gives k's places one after another
pub join-sum : (h g : Row → ℕ) (k : ℕ) → ((r : Row) (x : ℕ) → h (set r k (some x)) ≡ g r) → (x : ℕ) (rs : List Row) → sum h (join k x rs) ≡ sum g rs
unfolding sum join
join-sum h g k e x [] = refl
join-sum h g k e x (r ∷ rs) = omega (arith, e r x, join-sum h g k e (suc x) rs)

pub join-hit : (k v x : ℕ) {rs : List Row} → All (λ r. k < length r) rs → sum (hit k v) (join k x rs) + below v x ≡ below v (x + length rs)
unfolding sum join hit is
join-hit k v x all_nil = ap (λ s. 0 + below v s) (sym (add-zero x)) ∙ zero-add (below v (x + 0))
join-hit k v x (all_cons {x = r} {xs = rs} l a) =
    let here : hit k v (set r k (some x)) ≡ bit (eqb x v) = ap (is v) (get_or-set_same r k (some x) none l) in
    let e : below v (suc x + length rs) ≡ below v (x + suc (length rs)) = ap (below v) (omega arith) in
    omega (arith, here, below_step v x, join-hit k v (suc x) a)

pub join-gives : (k x : ℕ) {rs : List Row} → All (λ r. k < length r) rs → sum (gives k) (join k x rs) ≡ length rs
unfolding sum join gives is_some bit
join-gives k x all_nil = refl
join-gives k x (all_cons {x = r} {xs = rs} l a) =
    let here : gives k (set r k (some x)) ≡ 1 = ap (λ o. bit (is_some o)) (get_or-set_same r k (some x) none l) in
    omega (arith, here, join-gives k (suc x) a)

somes-set : (r : Row) (k x : ℕ) → k < length r → get_or r k none ≡ none → somes (set r k (some x)) ≡ suc (somes r)
unfolding somes sum is_some bit
somes-set [] k x h e = absurd (not-suc-le-zero h)
somes-set (y ∷ r) zero x h e = omega (arith, ap (λ o. bit (is_some o)) e)
somes-set (y ∷ r) (suc k) x h e = omega (arith, somes-set r k x (omega arith) e)

-- a row of b of K messages
pub record Fits (K b : ℕ) (r : Row) : Type 0 where
  pub long : length r ≡ K
  pub many : somes r ≡ b

pub join-fits : (K k b x : ℕ) {rs : List Row} → k < K → All (Lacks K k b) rs → All (Fits K (suc b)) (join k x rs)
unfolding join
join-fits K k b x h all_nil = all_nil
join-fits K k b x h (all_cons {x = r} f a) =
    all_cons
    (record { long = length-set r k (some x) ∙ f.long; many = somes-set r k x (omega arith) f.lack ∙ ap suc f.many })
    (join-fits K k b (suc x) h a)

-- the others of n, and n, are all
pub others-sum : (h : ℕ → ℕ) (N n : ℕ) → n < N → sum h (others N n) + h n ≡ sum h (range 0 N)
unfolding others bit sum range
others-sum h N n l = omega (arith, sum-keep h (λ m. not (eqb m n)) (range 0 N), go N, ap (λ s. s * h n) (below-lt n N l), one-mul (h n))
  where
    one : (m : ℕ) (t : Bool) → eqb m n ≡ t → bit (not t) * h m + bit t * h n ≡ h m
    one m true e = omega (arith, zero-mul (h m), one-mul (h n), ap h (eqb-true m n e))
    one m false e = omega (arith, zero-mul (h n), one-mul (h m))

    go : (M : ℕ) → sum (λ m. bit (not (eqb m n)) * h m) (range 0 M) + below n M * h n ≡ sum h (range 0 M)
    go zero = omega (arith, ap (λ s. s * h n) (below-zero n), zero-mul (h n))
    go (suc M) =
        omega (
          arith,
          go M,
          sum-next (λ m. bit (not (eqb m n)) * h m) M,
          sum-next h M,
          one M (eqb M n) refl,
          ap (λ s. s * h n) (below_step n M),
          add-mul (bit (eqb M n)) (below n M) (h n),
        )
