-- Each message's places are used up in ascending order: those that rows take anew, in the order made, are 0, 1, 2, and so on
-- (`places-in-order`).
use Prim.Native.Nat.{ℕ, zero, suc, ◌+◌, ◌*◌, ◌-◌, ◌^◌, ◌≤◌, ◌<◌}
use native.Mathlib.Nat.{zero-add, mul-zero, zero-mul, mul-add, suc-mul, pow-succ'}
use native.Mathlib.Omega.{arith}
use mathlib.Core.Path.{◌≡◌, refl, sym, ap, ◌∙◌}
use mathlib.Core.Logic.{◌≢◌}
use mathlib.Core.List.{List, [], ◌∷◌, ◌++◌, flat_map}
use mathlib.Core.Bool.{Bool, true, false, cond}
use mathlib.Core.Option.{Option, none, some}
use borrow.Author.Tests.{eqb-true, eqb-false}
use lib.Dec.{eqb}
use lib.ListN.{length, get_or}
use lib.Seq.{get_or-set_same}
use Rattle.lists.specs.Sums.{bit, sum, All, all_nil, all_cons}
use Rattle.lists.specs.Ranges.{range}
use Rattle.lists.proofs.Joined.{flat_map-next}
use Rattle.lists.proofs.Ranges.{range-append}
use Rattle.lists.proofs.Sums.{sum-next}
use Rattle.lists.proofs.Each.{All-imp}
use Rattle.even_places.specs.Rule.{has, Row, give, after, number, join, side_sets}
use Rattle.even_places.specs.Counting.{with, used, side_rows, joins, wanted_rows}
use Rattle.even_places.proofs.Rows.{next-at, after-at, after-length}
use Rattle.even_places.proofs.BlockRows.{fresh, starts, starts-length, starts-at, side-is, side_sets-lack, sources-long, sources-length, used_all}
use Rattle.even_places.proofs.Totals.{other-total, wanted-total}

unfoldable pub held : Option ℕ → List ℕ
held none = []
held (some x) = x ∷ []

-- the places of message p in rows, in order
unfoldable pub places_of : ℕ → List Row → List ℕ
unfolding held flat_map
places_of p rs = flat_map (λ r. held (get_or r p none)) rs

number-order : (K p : ℕ) (c : List ℕ) {L : List (List Bool)} → length c ≡ K → All (λ A. length A ≡ K) L
    → places_of p (number c L) ≡ range (get_or c p 0) (with p L)
unfolding number with sum places_of range
number-order K p c e all_nil = refl
number-order K p c e (all_cons {x = A} {xs = L} h a) =
    let l : length A ≡ length c = h ∙ sym e in
    rw (next-at A c p l, number-order K p (after A c) (after-length A c l ∙ e) a, after-at A c p l) (go (has p A) (get_or c p 0) (with p L))
  where
    one_more : (n : ℕ) → 1 + n ≡ suc n
    one_more n = omega arith

    go : (t : Bool) (x w : ℕ) → held (give t x) ++ range (bit t + x) w ≡ range x (bit t + w)
    go true x w = ap (λ s. x ∷ range s w) (one_more x) ∙ ap (range x) (sym (one_more w))
    go false x w = rw (zero-add x, zero-add w)

join-order : (k x : ℕ) {rs : List Row} → All (λ r. k < length r) rs → places_of k (join k x rs) ≡ range x (length rs)
unfolding join places_of range
join-order k x all_nil = refl
join-order k x (all_cons {x = r} {xs = rs} l a) = rw (get_or-set_same r k (some x) none l) (ap (λ s. x ∷ s) (join-order k (suc x) a))

module _ (N : ℕ) (f : ℕ → ℕ) (g : ℕ → ℕ → List ℕ) (turn : (b n : ℕ) → n < N → g b n ≡ range (used N f b n) (f b)) where
  in_block : (b n : ℕ) → n ≤ N → flat_map (g b) (range 0 n) ≡ range (used N f b 0) (n * f b)
  unfolding flat_map range used
  in_block b zero l = rw (zero-mul (f b))
  in_block b (suc n) l =
      flat_map-next (g b) n
      ∙ ap (λ s. s ++ g b n) (in_block b n (omega arith))
      ∙ ap (λ s. range (used N f b 0) (n * f b) ++ s) (turn b n l ∙ ap (λ s. range s (f b)) (omega (arith, zero-mul (f b))))
      ∙ range-append (used N f b 0) (n * f b) (f b)
      ∙ ap (range (used N f b 0)) (sym (suc-mul n (f b)))

  in_order : (B : ℕ) → flat_map (λ b. flat_map (g b) (range 0 N)) (range 0 B) ≡ range 0 (N * sum f (range 0 B))
  unfolding flat_map range sum
  in_order zero = rw (mul-zero N)
  in_order (suc B) =
      flat_map-next (λ b. flat_map (g b) (range 0 N)) B
      ∙ ap (λ s. s ++ flat_map (g B) (range 0 N)) (in_order B)
      ∙ ap (λ s. range 0 (N * sum f (range 0 B)) ++ s)
      (in_block B N (omega arith) ∙ ap (λ s. range s (N * f B)) (used_all N f B ∙ sym (zero-add (N * sum f (range 0 B)))))
      ∙ range-append 0 (N * sum f (range 0 B)) (N * f B)
      ∙ ap (range 0) (sym (mul-add N (sum f (range 0 B)) (f B)) ∙ ap (λ s. N * s) (sym (sum-next f B)))

module _ (N K k : ℕ) where
  -- the places of message p that server n's rows of block b take anew, in the order made: of the wanted message those of its wanted
  -- rows, of another those of its side rows
  unfoldable pub new_places : ℕ → ℕ → ℕ → List ℕ
  new_places p b n = places_of p (cond (eqb p k) (wanted_rows N K k b n) (side_rows N K k b n))

module _ (N K k : ℕ) (wide : 1 < N) (known : k < K) where
  other-order : (p : ℕ) → p < K → p ≢ k → flat_map (λ b. flat_map (λ n. places_of p (side_rows N K k b n)) (range 0 N)) (range 0 K) ≡ range 0 (N ^ (K - 1))
  unfolding fresh
  other-order p hp d =
      in_order N (fresh N K k wide known p) (λ b n. places_of p (side_rows N K k b n)) turn K ∙ ap (range 0) (other-total N K k wide known p hp d)
    where
      turn : (b n : ℕ) → n < N → places_of p (side_rows N K k b n) ≡ range (used N (fresh N K k wide known p) b n) (fresh N K k wide known p b)
      turn b n l =
          ap (places_of p) (side-is N K k wide known b n)
          ∙ number-order K p (starts N K k wide known b n) (starts-length N K k wide known b n) (All-imp (λ A h. h.long) (side_sets-lack N K k wide known b))
          ∙ ap (λ s. range s (with p (side_sets N K k b))) (starts-at N K k wide known p b n hp)

  wanted-order : flat_map (λ b. flat_map (λ n. places_of k (wanted_rows N K k b n)) (range 0 N)) (range 0 K) ≡ range 0 (N ^ K)
  unfolding wanted_rows
  wanted-order =
      in_order N (joins N K k) (λ b n. places_of k (wanted_rows N K k b n))
      (λ b n l. join-order k (used N (joins N K k) b n) (sources-long N K k wide known b n)
      ∙ ap (range (used N (joins N K k) b n)) (sources-length N K k wide known b n l)) K
      ∙ ap (range 0) (ap (λ s. N * s) (wanted-total N K k wide known) ∙ sym (pow-succ' N (K - 1)) ∙ ap (λ j. N ^ j) one_less)
    where
      one_less : suc (K - 1) ≡ K
      one_less = omega arith

  -- block by block, and server by server in each, the places that a message gives are 0, 1, 2, and so on: all N^K of the wanted message, N^(K-1) of another
  pub places-in-order : (p : ℕ) → p < K → flat_map (λ b. flat_map (new_places N K k p b) (range 0 N)) (range 0 K) ≡ range 0 (cond (eqb p k) (N ^ K) (N ^ (K - 1)))
  unfolding new_places
  places-in-order p hp = go (eqb p k) refl
    where
      go : (t : Bool) → eqb p k ≡ t
          → flat_map (λ b. flat_map (λ n. places_of p (cond t (wanted_rows N K k b n) (side_rows N K k b n))) (range 0 N)) (range 0 K)
          ≡ range 0 (cond t (N ^ K) (N ^ (K - 1)))
      go true e = ap (λ q. flat_map (λ b. flat_map (λ n. places_of q (wanted_rows N K k b n)) (range 0 N)) (range 0 K)) (eqb-true p k e) ∙ wanted-order
      go false e = other-order p hp (eqb-false p k e)
