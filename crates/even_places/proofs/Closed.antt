-- The places in closed form, by block, server, set, and number within the set: in rows without the wanted message (`side-at`), and the
-- wanted message's own (`wanted-at`, `wanted-first`).
use Prim.Native.Nat.{ℕ, zero, suc, ◌+◌, ◌*◌, ◌-◌, ◌^◌, ◌<◌}
use native.Mathlib.Nat.{mul-zero, zero-mul, mul-one, suc-mul, not-suc-le-zero, pow-zero}
use native.Mathlib.Omega.{arith}
use mathlib.Core.Path.{◌≡◌, sym, ap, ◌∙◌}
use mathlib.Core.List.{List, [], ◌++◌, flat_map}
use mathlib.Core.Bool.{Bool, true, false, not}
use mathlib.Core.Option.{Option, none, some}
use lib.ListN.{length, get_or, set, replicate, length-replicate, get_or-append, length-set, length-map}
use lib.Seq.{get_or-append-add, get_or-set_same}
use Rattle.lists.specs.Sums.{bit, keep, keep_if, sum, All, all_nil, all_cons}
use Rattle.lists.specs.Ranges.{range}
use Rattle.lists.proofs.Keep.{keep_append}
use Rattle.lists.proofs.Each.{All-imp}
use Rattle.lists.proofs.Sums.{sum-mul, sum-ext, sum-keep}
use Rattle.even_places.specs.Rule.{has, ones_in, sets, Row, join, side_sets, same, of_set, alike}
use Rattle.even_places.specs.Counting.{with, used, side_rows, sources, joins, wanted_rows, block}
use Rattle.even_places.proofs.SetLaws.{alike-one, alike-carry, join-keep, ones-drop, has-drop, join-append}
use Rattle.even_places.proofs.BlockRows.{fresh, starts, starts-length, starts-at, side-is, side-length, side-lacks, lone-lacks}
use Rattle.even_places.proofs.Joined.{with-k, without-k}
use Rattle.even_places.proofs.Others.{others_below, others-length}
use Rattle.even_places.proofs.Positions.{group-length}
use Rattle.even_places.proofs.RepeatedSets.{before, run-of-set, join-of-set}

module _ (N K k : ℕ) (wide : 1 < N) (known : k < K) where
  lone-once : (b : ℕ) (A : List Bool) → length A ≡ K → ones_in A ≡ suc b → has k A ≡ false
      → sum (λ B. bit (alike A B)) (keep (λ B. not (has k B)) (sets K (suc b))) ≡ 1
  unfolding bit
  lone-once b A long many lack =
      sum-keep (λ B. bit (alike A B)) (λ B. not (has k B)) (sets K (suc b))
      ∙ sum-ext (λ B. bit (not (has k B)) * bit (alike A B)) (λ B. bit (not (has k A)) * bit (alike A B)) (λ B. alike-carry (λ C. bit (not (has k C))) A B)
      (sets K (suc b))
      ∙ sum-mul (bit (not (has k A))) (λ B. bit (alike A B)) (sets K (suc b))
      ∙ rw (alike-one A K (suc b) long many, lack)

  -- the place of p in the row numbered r of set A, which lacks k, at server n
  pub side-at : (b n r p : ℕ) (A : List Bool) → length A ≡ K → ones_in A ≡ suc b → has k A ≡ false → p < K → has p A ≡ true → r < (N - 1) ^ b
      → get_or (get_or (of_set A (block N K k b n)) r []) p none
      ≡ some (used N (λ j. with p (side_sets N K k j)) b n + (N - 1) ^ b * with p (before A (keep (λ B. not (has k B)) (sets K (suc b)))) + r)
  unfolding side_sets fresh
  side-at b n r p A long many lack hp g l =
      ap (λ s. get_or (get_or s r []) p none) (without-k N K k wide known b n A lack)
      ∙ ap (λ s. get_or (get_or (of_set A s) r []) p none) (side-is N K k wide known b n)
      ∙ run-of-set K A p ((N - 1) ^ b) r (starts N K k wide known b n) (starts-length N K k wide known b n)
      (All-imp (λ B h. h.long) (lone-lacks N K k wide known b)) (omega (arith, lone-once b A long many lack)) g l
      ∙ ap (λ s. some (s + (N - 1) ^ b * with p (before A (keep (λ B. not (has k B)) (sets K (suc b)))) + r)) (starts-at N K k wide known p b n hp)

  -- the place of k in the row numbered j (N-1)^b + r of set A at server n
  pub wanted-at : (b n j r : ℕ) (A : List Bool) → n < N → length A ≡ K → ones_in A ≡ suc (suc b) → has k A ≡ true → j < N - 1 → r < (N - 1) ^ b
      → get_or (get_or (of_set A (block N K k (suc b) n)) (j * (N - 1) ^ b + r) []) k none
      ≡ some (used N (joins N K k) (suc b) n + j * length (side_sets N K k b)
      + (N - 1) ^ b * length (before (set A k false) (keep (λ B. not (has k B)) (sets K (suc b)))) + r)
  unfolding wanted_rows sources side_sets of_set flat_map
  wanted-at b n j r A l long many g hj hr =
      ap (λ s. get_or (get_or s (j * q + r) []) k none) (with-k N K k wide known (suc b) n A g)
      ∙ go (others_below N n) (used N (joins N K k) (suc b) n) j (omega (arith, others-length N n l))
    where
      q : ℕ
      q = (N - 1) ^ b

      S : ℕ
      S = length (side_sets N K k b)

      A' : List Bool
      A' = set A k false

      P : ℕ
      P = q * length (before A' (keep (λ B. not (has k B)) (sets K (suc b))))

      ones' : ones_in A' ≡ suc b
      ones' = omega (arith, ones-drop A k g, many)

      one : (x m : ℕ) → get_or (get_or (of_set A (join k x (side_rows N K k b m))) r []) k none ≡ some (x + P + r)
      one x m =
          ap (λ s. get_or (get_or (of_set A (join k x s)) r []) k none) (side-is N K k wide known b m)
          ∙ join-of-set K k (suc b) known A x q r (starts N K k wide known b m) (starts-length N K k wide known b m) (lone-lacks N K k wide known b)
          (omega (arith, lone-once b A' (length-set A k false ∙ long) ones' (has-drop A k))) g hr

      size : (x m : ℕ) → m < N → length (of_set A (join k x (side_rows N K k b m))) ≡ q
      size x m h =
          sym (length-map (of_set A (join k x (side_rows N K k b m))) (λ s. set s k none))
          ∙ ap length (join-keep A K k (suc b) x g known (side-lacks N K k wide known b m) ∙ sym (without-k N K k wide known b m A' (has-drop A k)))
          ∙ group-length N K k wide known b m A' h (length-set A k false ∙ long) ones'

      more : (x m : ℕ) (ms : List ℕ)
          → of_set A (join k x (side_rows N K k b m ++ flat_map (side_rows N K k b) ms))
          ≡ of_set A (join k x (side_rows N K k b m)) ++ of_set A (join k (x + length (side_rows N K k b m)) (flat_map (side_rows N K k b) ms))
      more x m ms =
          ap (of_set A) (join-append k x (side_rows N K k b m) (flat_map (side_rows N K k b) ms))
          ∙ keep_append (same A) (join k x (side_rows N K k b m)) (join k (x + length (side_rows N K k b m)) (flat_map (side_rows N K k b) ms))

      go : {ms : List ℕ} → All (λ m. m < N) ms → (x i : ℕ) → i < length ms
          → get_or (get_or (of_set A (join k x (flat_map (side_rows N K k b) ms))) (i * q + r) []) k none ≡ some (x + i * S + P + r)
      go all_nil x i h = absurd (not-suc-le-zero h)
      go (all_cons {x = m} {xs = ms} f a) x zero h =
          let F = of_set A (join k x (side_rows N K k b m)) in
          let G = of_set A (join k (x + length (side_rows N K k b m)) (flat_map (side_rows N K k b) ms)) in
          let e : 0 * q + r ≡ r = omega (arith, zero-mul q) in
          ap (λ s. get_or (get_or s (0 * q + r) []) k none) (more x m ms)
          ∙ ap (λ i. get_or (get_or (F ++ G) i []) k none) e
          ∙ ap (λ s. get_or s k none) (get_or-append F G [] r (omega (arith, size x m f)))
          ∙ one x m
          ∙ ap some (omega (arith, zero-mul S))
      go (all_cons {x = m} {xs = ms} f a) x (suc i) h =
          let F = of_set A (join k x (side_rows N K k b m)) in
          let G = of_set A (join k (x + length (side_rows N K k b m)) (flat_map (side_rows N K k b) ms)) in
          let e : suc i * q + r ≡ length F + (i * q + r) = omega (arith, suc-mul i q, size x m f) in
          ap (λ s. get_or (get_or s (suc i * q + r) []) k none) (more x m ms)
          ∙ ap (λ j. get_or (get_or (F ++ G) j []) k none) e
          ∙ ap (λ s. get_or s k none) (get_or-append-add F G (i * q + r) [])
          ∙ go a (x + length (side_rows N K k b m)) i (omega arith)
          ∙ ap some (omega (arith, side-length N K k wide known b m, suc-mul i S))

  -- in the first block, server n's one row of k alone has place n
  pub wanted-first : (n : ℕ) (A : List Bool) → n < N → length A ≡ K → ones_in A ≡ 1 → has k A ≡ true
      → get_or (get_or (of_set A (block N K k 0 n)) 0 []) k none ≡ some n
  unfolding wanted_rows sources of_set keep keep_if join used joins sum range
  wanted-first n A l long many g = ap (λ s. get_or (get_or s 0 []) k none) (with-k N K k wide known 0 n A g) ∙ go (same A row) size
    where
      row : Row
      row = set (replicate K none) k (some (used N (joins N K k) 0 n))

      size : length (of_set A (wanted_rows N K k 0 n)) ≡ 1
      size = ap length (sym (with-k N K k wide known 0 n A g)) ∙ group-length N K k wide known 0 n A l long many ∙ pow-zero (N - 1)

      go : (t : Bool) → length (keep_if t row []) ≡ 1 → get_or (get_or (keep_if t row []) 0 []) k none ≡ some n
      go true s =
          get_or-set_same (replicate K none) k (some (used N (joins N K k) 0 n)) none (omega (arith, length-replicate {A = Option ℕ} K none))
          ∙ ap some (omega (arith, mul-zero N, mul-one n))
      go false s = absurd (omega arith)
