-- The counters before a set are its ranks (`rank-side`, `rank-wanted`), and the counters of all sets the numbers of places
-- (`side-total`, `wanted-total`), in the closed forms of the rule.
use Prim.Native.Nat.{ℕ, zero, suc, ◌-◌, ◌*◌, ◌^◌, ◌≤◌, ◌<◌}
use native.Mathlib.Nat.{mul_assoc, pow-zero, pow-succ'}
use native.Mathlib.Omega.{arith}
use mathlib.Core.Path.{◌≡◌, refl, sym, ap, ◌∙◌, fun_ext}
use mathlib.Core.Logic.{◌≢◌}
use mathlib.Core.List.{List, ◌∷◌, ◌++◌, map}
use mathlib.Core.Bool.{Bool, true, false, not, beq, ◌&&◌}
use lib.Dec.{eqb}
use lib.ListN.{length, set, length-set, length-map}
use lib.Seq.{get_or-set_other}
use borrow.Author.Tests.{eq-eqb}
use Rattle.lists.specs.Sums.{bit, keep, keep_if, sum}
use Rattle.lists.proofs.Sums.{sum-append, sum-map, sum-ext, sum-all, sum_one, sum-keep, sum-keep-most}
use Rattle.lists.proofs.Each.{All-imp, All-keep, All-every}
use Rattle.lists.proofs.Keep.{keep-and, keep_append}
use Rattle.lists.proofs.Mapped.{map-append}
use Rattle.even_places.specs.Rule.{has, ones_in, sets, side_sets, all_sets, alike}
use Rattle.even_places.specs.Counting.{with, joins}
use Rattle.even_places.proofs.SetLaws.{alike-one, ones-drop}
use Rattle.even_places.proofs.BlockRows.{sets-zero, has-none, side_sets-sum}
use Rattle.even_places.proofs.RepeatedSets.{before}
use Rattle.even_places.proofs.Ranked.{taken_out, of-block, before-seam}
use Rattle.even_ranks.proofs.Counters.{of_kind}

beq-false : (t : Bool) → beq false t ≡ not t
beq-false true = refl
beq-false false = refl

beq-true : (t : Bool) → beq true t ≡ t
beq-true true = refl
beq-true false = refl

beq-self : (t : Bool) → beq t t ≡ true
beq-self true = refl
beq-self false = refl

module _ (K k : ℕ) (wanted : k < K) where
  of-kind : (t : Bool) (b : ℕ) → b < K → keep (of_kind k t b) (all_sets K) ≡ keep (λ A. beq t (has k A)) (sets K (suc b))
  unfolding of_kind
  of-kind t b h =
      keep-and (λ A. beq t (has k A)) (λ A. eqb (suc b) (ones_in A)) (all_sets K) ∙ ap (keep (λ A. beq t (has k A))) (of-block K b h)

  -- the sets of block b without k, and with it
  without : (b : ℕ) → b < K → keep (of_kind k false b) (all_sets K) ≡ keep (λ A. not (has k A)) (sets K (suc b))
  without b h = of-kind false b h ∙ ap (λ t. keep t (sets K (suc b))) (fun_ext (λ A. beq-false (has k A)))

  having : (b : ℕ) → b < K → keep (of_kind k true b) (all_sets K) ≡ keep (has k) (sets K (suc b))
  having b h = of-kind true b h ∙ ap (λ t. keep t (sets K (suc b))) (fun_ext (λ A. beq-true (has k A)))

  -- the sets of block b with k, without it
  reduced : (b : ℕ) → b < K → map (λ A. set A k false) (keep (of_kind k true b) (all_sets K)) ≡ keep (λ A. not (has k A)) (sets K b)
  reduced b h = ap (map (λ A. set A k false)) (having b h) ∙ taken_out K k b wanted

  -- each of them has k
  pub with-wanted : (b : ℕ) (D : List (List Bool)) → with k (keep (of_kind k true b) D) ≡ length (keep (of_kind k true b) D)
  unfolding with of_kind bit
  with-wanted b D =
      sum-all (λ A. bit (has k A)) (λ A. 1)
      (All-imp (λ A h. ap bit (first (has k A) (eqb (suc b) (ones_in A)) h.1)) (All-keep (of_kind k true b) (All-every {P = λ A. Unit} (λ A. tt) D)))
      ∙ sum_one (keep (of_kind k true b) D)
    where
      first : (t u : Bool) → beq true t && u ≡ true → t ≡ true
      first true u e = refl
      first false u e = e

  pub with-reduced : (p : ℕ) (X : List (List Bool)) → p ≢ k → with p (map (λ A. set A k false) X) ≡ with p X
  unfolding with has
  with-reduced p X d =
      sum-map (λ A. bit (has p A)) (λ A. set A k false) X
      ∙ sum-ext (λ A. bit (has p (set A k false))) (λ A. bit (has p A)) (λ A. ap bit (get_or-set_other A k p false false d)) X

  -- so many sets lack k as have it in the block after
  counted-out : (b : ℕ) → b < K → length (keep (λ A. not (has k A)) (sets K b)) ≡ with k (keep (of_kind k true b) (all_sets K))
  counted-out b h =
      ap length (sym (reduced b h)) ∙ length-map (keep (of_kind k true b) (all_sets K)) (λ A. set A k false) ∙ sym (with-wanted b (all_sets K))

  -- A stands among all sets, after those of D
  module _ (D L : List (List Bool)) (A : List Bool) (split : D ++ A ∷ L ≡ all_sets K) (b : ℕ) (low : b < K) (long : length A ≡ K) (many : ones_in A ≡ suc b) where
    parted : (t : Bool) → has k A ≡ t → keep (of_kind k t b) (all_sets K) ≡ keep (of_kind k t b) D ++ A ∷ keep (of_kind k t b) L
    unfolding keep keep_if of_kind
    parted t e =
        ap (keep (of_kind k t b)) (sym split)
        ∙ keep_append (of_kind k t b) D (A ∷ L)
        ∙ ap (λ u. keep (of_kind k t b) D ++ keep_if u A (keep (of_kind k t b) L)) is-kind
      where
        is-kind : of_kind k t b A ≡ true
        is-kind = rw (e, beq-self t) (eq-eqb (suc b) (ones_in A) (sym many))

    pub rank-side : has k A ≡ false → before A (keep (λ B. not (has k B)) (sets K (suc b))) ≡ keep (of_kind k false b) D
    rank-side e = ap (before A) here ∙ before-seam A (keep (of_kind k false b) D) (keep (of_kind k false b) L) once
      where
        here : keep (λ B. not (has k B)) (sets K (suc b)) ≡ keep (of_kind k false b) D ++ A ∷ keep (of_kind k false b) L
        here = sym (without b low) ∙ parted false e

        once : sum (λ B. bit (alike A B)) (keep (of_kind k false b) D ++ A ∷ keep (of_kind k false b) L) ≤ 1
        once = rw (← here) (omega (arith, alike-one A K (suc b) long many, sum-keep-most (λ B. bit (alike A B)) (λ B. not (has k B)) (sets K (suc b))))

    pub rank-wanted : has k A ≡ true → before (set A k false) (keep (λ B. not (has k B)) (sets K b)) ≡ map (λ B. set B k false) (keep (of_kind k true b) D)
    rank-wanted e = ap (before A') here ∙ before-seam A' (map out (keep (of_kind k true b) D)) (map out (keep (of_kind k true b) L)) once
      where
        out : List Bool → List Bool
        out B = set B k false

        A' : List Bool
        A' = set A k false

        here : keep (λ B. not (has k B)) (sets K b) ≡ map out (keep (of_kind k true b) D) ++ A' ∷ map out (keep (of_kind k true b) L)
        here = sym (reduced b low) ∙ ap (map out) (parted true e) ∙ map-append out (keep (of_kind k true b) D) (A ∷ keep (of_kind k true b) L)

        once : sum (λ B. bit (alike A' B)) (map out (keep (of_kind k true b) D) ++ A' ∷ map out (keep (of_kind k true b) L)) ≤ 1
        once =
            rw (← here)
            (omega (
              arith,
              alike-one A' K b (length-set A k false ∙ long) (omega (arith, ones-drop A k e, many)),
              sum-keep-most (λ B. bit (alike A' B)) (λ B. not (has k B)) (sets K b),
            ))

    -- A itself is not before A
    pub rank_below : has k A ≡ true → with k (keep (of_kind k true b) D) < with k (keep (of_kind k true b) (all_sets K))
    unfolding with sum bit
    rank_below e =
        rw (parted true e) (omega (arith, sum-append (λ B. bit (has k B)) (keep (of_kind k true b) D) (A ∷ keep (of_kind k true b) L), ap bit e))

  -- what each server takes of a message in block b, and how many rows it joins
  module _ (N : ℕ) (wide : 1 < N) where
    pub side-total : (p b : ℕ) → b < K → with p (side_sets N K k b) ≡ (N - 1) ^ b * with p (keep (of_kind k false b) (all_sets K))
    unfolding with
    side-total p b h =
        side_sets-sum N K k wide wanted (λ A. bit (has p A)) b
        ∙ ap (λ s. (N - 1) ^ b * s)
        (sym (sum-keep (λ A. bit (has p A)) (λ A. not (has k A)) (sets K (suc b))) ∙ ap (sum (λ A. bit (has p A))) (sym (without b h)))

    pub sources-total : (b : ℕ) → suc b < K → length (side_sets N K k b) ≡ (N - 1) ^ b * with k (keep (of_kind k true (suc b)) (all_sets K))
    sources-total b h =
        sym (sum_one (side_sets N K k b))
        ∙ side_sets-sum N K k wide wanted (λ A. 1) b
        ∙ ap (λ s. (N - 1) ^ b * s)
        (sym (sum-keep (λ A. 1) (λ A. not (has k A)) (sets K (suc b))) ∙ sum_one (keep (λ A. not (has k A)) (sets K (suc b))) ∙ counted-out (suc b) h)

    pub wanted-total : (b : ℕ) → b < K → joins N K k b ≡ (N - 1) ^ b * with k (keep (of_kind k true b) (all_sets K))
    unfolding joins keep keep_if
    wanted-total zero h = sym (rw (pow-zero (N - 1), ← counted-out 0 h, sets-zero K, has-none K k) refl)
    wanted-total (suc b) h =
        ap (λ s. (N - 1) * s) (sources-total b h)
        ∙ sym (mul_assoc (N - 1) ((N - 1) ^ b) (with k (keep (of_kind k true (suc b)) (all_sets K))))
        ∙ ap (λ s. s * with k (keep (of_kind k true (suc b)) (all_sets K))) (sym (pow-succ' (N - 1) b))
