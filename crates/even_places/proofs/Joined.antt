-- The sets of a query's rows are the same at every server and for every wanted message (`same_layout`), and the rows of a set with the
-- wanted message are joined from the other servers' rows of the set without it (`joined`).
use Prim.Native.Nat.{ℕ, zero, suc, ◌*◌, ◌-◌, ◌^◌, ◌<◌}
use native.Mathlib.Nat.{zero-mul, one-mul, mul-one, mul_assoc, mul-add, suc-mul, pow-zero, pow-succ'}
use native.Mathlib.Omega.{arith}
use mathlib.Core.Path.{◌≡◌, refl, sym, ap, ◌∙◌, fun_ext}
use mathlib.Core.List.{List, ◌∷◌, ◌++◌, map, append-nil, flat_map}
use mathlib.Core.Bool.{Bool, true, false, not, true≢false, false≢true}
use mathlib.Core.Option.{none, some}
use lib.ListN.{length, set, replicate, length-set}
use Rattle.lists.specs.Sums.{bit, keep, sum}
use Rattle.lists.specs.Ranges.{range}
use Rattle.lists.proofs.Keep.{keep_append, keep-nothing, keep-flat_map}
use Rattle.lists.proofs.Joined.{flat_map-all, map-flat_map}
use Rattle.lists.proofs.Sums.{sum-append, sum-mul, sum-ext, sum-all, sum-flat_map, sum_same}
use Rattle.lists.proofs.Each.{All-imp}
use Rattle.lists.proofs.Bits.{bit-either}
use Rattle.even_places.specs.Rule.{has, ones_in, sets, others, is_some, same, of_set, by_set, rows, layout, alike}
use Rattle.even_places.specs.Counting.{used, side_rows, sources, joins, wanted_rows, block, counted_rows}
use Rattle.even_places.proofs.Process.{rows-by-counting}
use Rattle.even_places.proofs.Rows.{join-sum, others-sum}
use Rattle.even_places.proofs.SetLaws.{set_of, same_alike, alike-one, alike-carry, alike-join, ones-drop, set_of-set}
use Rattle.even_places.proofs.SetLaws.{number-sets, keep-sets, same_not, join-keep, join-have, has-drop}
use Rattle.even_places.proofs.BlockRows.{sets-fit, sets-zero, has-none, starts, starts-length, side_sets-sum}
use Rattle.even_places.proofs.BlockRows.{side-is, side_sets-lack, side-lacks, sources-lack}

set_of-none : (K : ℕ) → set_of (replicate K none) ≡ replicate K false
unfolding set_of is_some
set_of-none zero = refl
set_of-none (suc K) = ap (λ B. false ∷ B) (set_of-none K)

module _ (N K k : ℕ) (wide : 1 < N) (known : k < K) where
  side-sets : (f : List Bool → ℕ) (b n : ℕ) → sum (λ r. f (set_of r)) (side_rows N K k b n) ≡ (N - 1) ^ b * sum (λ A. bit (not (has k A)) * f A) (sets K (suc b))
  side-sets f b n =
      rw (side-is N K k wide known b n)
      (number-sets f K (starts N K k wide known b n) (starts-length N K k wide known b n) (All-imp (λ A l. l.long) (side_sets-lack N K k wide known b)))
      ∙ side_sets-sum N K k wide known f b

  sources-sets : (f : List Bool → ℕ) (b n : ℕ) → n < N
      → sum (λ r. f (set_of r)) (sources N K k b n) ≡ (N - 1) ^ b * sum (λ A. bit (not (has k A)) * f A) (sets K b)
  unfolding sources sum bit
  sources-sets f zero n l =
      omega (
        arith,
        ap f (set_of-none K),
        ap (λ s. s * sum w (sets K 0)) (pow-zero (N - 1)),
        one-mul (sum w (sets K 0)),
        ap (sum w) (sets-zero K),
        ap (λ t. bit (not t) * f (replicate K false)) (has-none K k),
        one-mul (f (replicate K false)),
      )
    where
      w : List Bool → ℕ
      w A = bit (not (has k A)) * f A
  sources-sets f (suc b) n l =
      sum-flat_map (λ r. f (set_of r)) (side_rows N K k b) (others N n)
      ∙ sum-ext (λ m. sum (λ r. f (set_of r)) (side_rows N K k b m)) (λ m. c) (side-sets f b) (others N n)
      ∙ omega (arith, others-sum (λ m. c) N n l, sum_same c N, suc-mul (N - 1) c, ap (λ s. s * c) up)
      ∙ sym (mul_assoc (N - 1) ((N - 1) ^ b) (sum (λ A. bit (not (has k A)) * f A) (sets K (suc b))))
      ∙ ap (λ s. s * sum (λ A. bit (not (has k A)) * f A) (sets K (suc b))) (sym (pow-succ' (N - 1) b))
    where
      c : ℕ
      c = (N - 1) ^ b * sum (λ A. bit (not (has k A)) * f A) (sets K (suc b))

      up : suc (N - 1) ≡ N
      up = omega arith

  -- every server has (N - 1)^b rows of each set of block b
  pub group-size : (b n : ℕ) (A : List Bool) → n < N → length A ≡ K → ones_in A ≡ suc b → sum (λ r. bit (same A r)) (block N K k b n) ≡ (N - 1) ^ b
  unfolding block wanted_rows bit
  group-size b n A l long many =
      sum-append (λ r. bit (same A r)) (side_rows N K k b n) (wanted_rows N K k b n)
      ∙ omega (arith, in-side, in-wanted, ap (λ s. x * s) (bit-either (has k A)), mul-add x (bit (not (has k A))) (bit (has k A)), mul-one x)
    where
      x : ℕ
      x = (N - 1) ^ b

      in-side : sum (λ r. bit (same A r)) (side_rows N K k b n) ≡ x * bit (not (has k A))
      in-side =
          sum-ext (λ r. bit (same A r)) (λ r. bit (alike A (set_of r))) (λ r. ap bit (same_alike A r)) (side_rows N K k b n)
          ∙ side-sets (λ B. bit (alike A B)) b n
          ∙ ap (λ s. x * s)
          (sum-ext (λ B. bit (not (has k B)) * bit (alike A B)) (λ B. bit (not (has k A)) * bit (alike A B))
          (λ B. alike-carry (λ C. bit (not (has k C))) A B) (sets K (suc b))
          ∙ sum-mul (bit (not (has k A))) (λ B. bit (alike A B)) (sets K (suc b))
          ∙ ap (λ s. bit (not (has k A)) * s) (alike-one A K (suc b) long many)
          ∙ mul-one (bit (not (has k A))))

      less : (t : Bool) → has k A ≡ t → bit t * sum (λ B. bit (alike (set A k false) B)) (sets K b) ≡ bit t
      less true e = ap (λ s. 1 * s) (alike-one (set A k false) K b (length-set A k false ∙ long) (omega (arith, ones-drop A k e, many)))
      less false e = zero-mul (sum (λ B. bit (alike (set A k false) B)) (sets K b))

      in-wanted : sum (λ r. bit (same A r)) (wanted_rows N K k b n) ≡ x * bit (has k A)
      in-wanted =
          join-sum (λ r. bit (same A r)) (λ r. bit (alike A (set (set_of r) k true))) k
          (λ r y. ap bit (same_alike A (set r k (some y)) ∙ ap (alike A) (set_of-set r k y))) (used N (joins N K k) b n) (sources N K k b n)
          ∙ sources-sets (λ B. bit (alike A (set B k true))) b n l
          ∙ ap (λ s. x * s)
          (sum-all (λ B. bit (not (has k B)) * bit (alike A (set B k true))) (λ B. bit (has k A) * bit (alike (set A k false) B))
          (All-imp (λ B h. alike-join A B k (long ∙ sym h.0) (omega (arith, long))) (sets-fit K b))
          ∙ sum-mul (bit (has k A)) (λ B. bit (alike (set A k false) B)) (sets K b)
          ∙ less (has k A) refl)

  -- the sets of a query's rows depend on N and K alone
  pub same_layout : (n : ℕ) → n < N → map set_of (rows N K k n) ≡ layout N K
  unfolding counted_rows layout by_set
  same_layout n l =
      ap (map set_of) (rows-by-counting N K k wide known n l)
      ∙ map-flat_map set_of (λ b. by_set (sets K (suc b)) (block N K k b n)) (range 0 K)
      ∙ ap (λ g. flat_map g (range 0 K)) (fun_ext (λ b.
      map-flat_map set_of (λ A. of_set A (block N K k b n)) (sets K (suc b))
      ∙ flat_map-all (λ A. map set_of (of_set A (block N K k b n))) (replicate ((N - 1) ^ b))
      (All-imp (λ A h. keep-sets A (block N K k b n) ∙ ap (λ j. replicate j A) (group-size b n A l h.0 h.1)) (sets-fit K (suc b)))))

  -- the rows of a set with k are wanted rows, those of a set without it side rows
  pub with-k : (b n : ℕ) (A : List Bool) → has k A ≡ true → of_set A (block N K k b n) ≡ of_set A (wanted_rows N K k b n)
  unfolding block of_set is_some
  with-k b n A e =
      keep_append (same A) (side_rows N K k b n) (wanted_rows N K k b n)
      ∙ ap (λ s. s ++ keep (same A) (wanted_rows N K k b n))
      (keep-nothing (same A) (All-imp (λ r h. same_not A r k (λ q. true≢false (sym e ∙ q ∙ ap is_some h.lack))) (side-lacks N K k wide known b n)))

  pub without-k : (b n : ℕ) (A : List Bool) → has k A ≡ false → of_set A (block N K k b n) ≡ of_set A (side_rows N K k b n)
  unfolding block wanted_rows of_set is_some
  without-k b n A e =
      keep_append (same A) (side_rows N K k b n) (wanted_rows N K k b n)
      ∙ ap (λ s. keep (same A) (side_rows N K k b n) ++ s)
      (keep-nothing (same A)
      (All-imp (λ r h. same_not A r k (λ q. false≢true (sym e ∙ q ∙ h)))
      (join-have K k b (used N (joins N K k) b n) known (sources-lack N K k wide known b n))))
      ∙ append-nil (keep (same A) (side_rows N K k b n))

  -- server n's rows of a set with k are, without k, the rows of the set without k at the other servers, in order
  pub joined : (b n : ℕ) (A : List Bool) → has k A ≡ true
      → map (λ r. set r k none) (of_set A (block N K k (suc b) n)) ≡ flat_map (λ m. of_set (set A k false) (block N K k b m)) (others N n)
  unfolding wanted_rows of_set sources
  joined b n A e =
      ap (map (λ r. set r k none)) (with-k (suc b) n A e)
      ∙ join-keep A K k (suc b) (used N (joins N K k) (suc b) n) e known (sources-lack N K k wide known (suc b) n)
      ∙ keep-flat_map (same (set A k false)) (side_rows N K k b) (others N n)
      ∙ ap (λ g. flat_map g (others N n)) (fun_ext (λ m. sym (without-k b m (set A k false) (has-drop A k))))
