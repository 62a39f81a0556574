-- The place that the counters give to each message of a row is the one that the rule gives it (`cell-is`). Rests on the places in
-- closed form (Closed of even_places) and on what the counters tell (Ranking).
use Prim.Native.Nat.{ℕ, zero, suc, ◌+◌, ◌-◌, ◌*◌, ◌/◌, ◌%◌, ◌^◌, ◌≤◌, ◌<◌}
use native.Mathlib.Nat.{pow-zero, pow-succ', one-le-pow, div-add-mod', div-lt_iff_lt-mul, mod-lt}
use native.Mathlib.Omega.{arith}
use native.Mathlib.Decide.{ℕ_discrete}
use mathlib.Core.Path.{◌≡◌, refl, sym, ap, ◌∙◌, subst}
use mathlib.Core.Logic.{◌≢◌}
use mathlib.Core.List.{List, [], ◌∷◌, ◌++◌, map}
use mathlib.Core.Bool.{Bool, true, false, cond, not, ◌&&◌, false≢true}
use mathlib.Core.Option.{Option, none, some}
use lib.Dec.{ltb}
use lib.ListN.{length, get_or, set, length-set, length-map}
use lib.Seq.{get_or-set_other}
use borrow.Author.Tests.{eq-eqb, ne_eqb, lt-ltb, le-ltb}
use Rattle.lists.specs.Parts.{cut}
use Rattle.lists.specs.Sums.{bit, keep, All}
use Rattle.lists.proofs.Cuts.{cut_at}
use Rattle.lists.proofs.Each.{All-front, All-back, All-head}
use Rattle.even_places.specs.Rule.{has, ones_in, sets, others, side_sets, of_set, all_sets}
use Rattle.even_places.specs.Counting.{with, used, joins, block}
use Rattle.even_places.proofs.SetLaws.{ones-drop, has-drop, has-lone}
use Rattle.even_places.proofs.Positions.{joined_at}
use Rattle.even_places.proofs.RepeatedSets.{before}
use Rattle.even_places.proofs.Closed.{side-at, wanted-at, wanted-first}
use Rattle.even_places.proofs.AllSets.{IsSet, all-sets, ones-most}
use Rattle.even_ranks.specs.Counts.{counter, no_counts, counters_of, counted_all, totals_of}
use Rattle.even_ranks.specs.Walk.{origin_place, is_joined, plain, joined, origin_of}
use Rattle.even_ranks.proofs.Placed.{place-side, place-first, place-wanted, wanted-one}
use Rattle.even_ranks.proofs.Counters.{of_kind, counts-tell}
use Rattle.even_ranks.proofs.Ranking.{with-wanted, with-reduced, rank-side, rank-wanted, rank_below}

module _ (N K k : ℕ) (wide : 1 < N) (wanted : k < K) (few : K ≤ 8) where
  -- A stands among all sets, after those of D; `ranks` are its messages' counters then
  module _ (D L : List (List Bool)) (A : List Bool) (split : D ++ A ∷ L ≡ all_sets K) where
    known : IsSet K A
    known = All-head (All-back D (A ∷ L) (subst (All (IsSet K)) (sym split) (all-sets K)))

    ranks : List ℕ
    ranks = cut (counters_of k A) (length A) (counted_all k D no_counts)

    ranks-tell : (b p : ℕ) → ones_in A ≡ suc b → p < K → get_or ranks p 0 ≡ with p (keep (of_kind k (has k A) b) D)
    unfolding ranks counters_of counter
    ranks-tell b p many hp =
        cut_at (counters_of k A) (length A) p (counted_all k D no_counts) (omega (arith, known.long))
        ∙ ap (λ i. get_or (counted_all k D no_counts) i 0)
        (let e : bit (has k A) * 64 + (ones_in A - 1) * 8 + 0 + p ≡ bit (has k A) * 64 + b * 8 + p = omega arith in e)
        ∙ counts-tell K k few (All-front D (A ∷ L) (subst (All (IsSet K)) (sym split) (all-sets K))) (has k A) b p (omega (arith, ones-most A, known.long)) hp

    module _ (n : ℕ) (server : n < N) where
      At : ℕ → ℕ → ℕ → Option ℕ
      At b i p = get_or (get_or (of_set A (block N K k b n)) i []) p none

      -- the row's set lacks k
      side-cell : (b i p : ℕ) → ones_in A ≡ suc b → has k A ≡ false → i < (N - 1) ^ b → p < K → has p A ≡ true → p ≢ k
          → At b i p ≡ some (origin_place N k (totals_of K k) ranks (plain N n (ones_in A) i) p)
      unfolding At origin_place plain
      side-cell b i p many lack hi hp g d =
          side-at N K k wide wanted b n i p A known.long many lack hp g hi
          ∙ ap some
          (rw (ne_eqb p k d, (let e : ones_in A - 1 ≡ b = omega arith in e), place-side N K k wide wanted few b p n (get_or ranks p 0) i low hp d)
          (ap (λ s. used N (λ j. with p (side_sets N K k j)) b n + (N - 1) ^ b * s + i) rank))
        where
          low : b < K
          low = omega (arith, ones-most A, known.long)

          rank : with p (before A (keep (λ B. not (has k B)) (sets K (suc b)))) ≡ get_or ranks p 0
          rank = ap (with p) (rank-side K k wanted D L A split b low known.long many lack)
              ∙ sym (ranks-tell b p many hp ∙ ap (λ t. with p (keep (of_kind k t b) D)) lack)

      -- the row is of k alone
      first_cell : (i : ℕ) → ones_in A ≡ 1 → has k A ≡ true → i < (N - 1) ^ 0 → At 0 i k ≡ some (origin_place N k (totals_of K k) ranks (plain N n (ones_in A) i) k)
      unfolding At origin_place plain
      first_cell i many g hi =
          ap (λ j. At 0 j k) zeroth
          ∙ wanted-first N K k wide wanted n A server known.long many g
          ∙ ap some
          (sym (rw (eq-eqb k k refl, (let e : ones_in A - 1 ≡ 0 = omega arith in e))
          (place-first N K k wide wanted few n (get_or ranks k 0) i none_before zeroth)))
        where
          zeroth : i ≡ 0
          zeroth = omega (arith, pow-zero (N - 1))

          none_before : get_or ranks k 0 ≡ 0
          none_before =
              ranks-tell 0 k many wanted
              ∙ ap (λ t. with k (keep (of_kind k t 0) D)) g
              ∙ omega (arith, wanted-one N K k wide wanted few, rank_below K k wanted D L A split 0 (omega arith) known.long many g)

      -- the row is joined: the j-th other server's row numbered r, with k
      module _ (b i : ℕ) (many : ones_in A ≡ suc (suc b)) (has-k : has k A ≡ true) (hi : i < (N - 1) ^ suc b) where
        q : ℕ
        q = (N - 1) ^ b

        j : ℕ
        j = i / q

        r : ℕ
        r = i % q

        whole : j * q + r ≡ i
        unfolding j r
        whole = div-add-mod' i q

        low : suc b < K
        low = omega (arith, ones-most A, known.long)

        r-low : r < q
        unfolding r q
        r-low = mod-lt i (one-le-pow b (N - 1) (omega arith))

        j-low : j < N - 1
        unfolding j q
        j-low = (div-lt_iff_lt-mul (one-le-pow b (N - 1) (omega arith))).1 (omega (arith, pow-succ' (N - 1) b))

        -- with the counters of the sets with k
        joined-ranks : (p : ℕ) → p < K → get_or ranks p 0 ≡ with p (keep (of_kind k true (suc b)) D)
        joined-ranks p hp = ranks-tell (suc b) p many hp ∙ ap (λ t. with p (keep (of_kind k t (suc b)) D)) has-k

        ranked : before (set A k false) (keep (λ B. not (has k B)) (sets K (suc b))) ≡ map (λ B. set B k false) (keep (of_kind k true (suc b)) D)
        ranked = rank-wanted K k wanted D L A split (suc b) low known.long many has-k

        one_less : ones_in A - 1 ≡ suc b
        one_less = omega arith

        two-less : ones_in A - 2 ≡ b
        two-less = omega arith

        wanted-cell : At (suc b) i k ≡ some (origin_place N k (totals_of K k) ranks (joined N n (ones_in A) i) k)
        unfolding At origin_place joined q j r
        wanted-cell =
            ap (λ s. At (suc b) s k) (sym whole)
            ∙ wanted-at N K k wide wanted b n j r A server known.long many has-k j-low r-low
            ∙ ap some
            (rw (eq-eqb k k refl, one_less, two-less, place-wanted N K k wide wanted few b n j (get_or ranks k 0) r low)
            (ap (λ s. used N (joins N K k) (suc b) n + j * length (side_sets N K k b) + q * s + r) rank))
          where
            rank : length (before (set A k false) (keep (λ B. not (has k B)) (sets K (suc b)))) ≡ get_or ranks k 0
            rank =
                ap length ranked
                ∙ length-map (keep (of_kind k true (suc b)) D) (λ B. set B k false)
                ∙ sym (joined-ranks k wanted ∙ with-wanted K k wanted (suc b) D)

        other-cell : (p : ℕ) → p < K → has p A ≡ true → p ≢ k → At (suc b) i p ≡ some (origin_place N k (totals_of K k) ranks (joined N n (ones_in A) i) p)
        unfolding At origin_place joined q j r has
        other-cell p hp g d =
            ap (λ s. At (suc b) s p) (sym whole)
            ∙ sym (get_or-set_other (get_or (of_set A (block N K k (suc b) n)) (j * q + r) []) k p none none d)
            ∙ ap (λ s. get_or s p none) (joined_at N K k wide wanted b n j r A server has-k known.long many j-low r-low)
            ∙ side-at N K k wide wanted b m r p A' (length-set A k false ∙ known.long) (omega (arith, ones-drop A k has-k)) (has-drop A k) hp
            (get_or-set_other A k p false false d ∙ g) r-low
            ∙ ap some
            (rw (ne_eqb p k d, two-less, place-side N K k wide wanted few b p m (get_or ranks p 0) r (omega (arith, low)) hp d)
            (ap (λ s. used N (λ j. with p (side_sets N K k j)) b m + q * s + r) rank))
          where
            A' : List Bool
            A' = set A k false

            m : ℕ
            m = get_or (others N n) j 0

            rank : with p (before A' (keep (λ B. not (has k B)) (sets K (suc b)))) ≡ get_or ranks p 0
            rank = ap (with p) ranked ∙ with-reduced K k wanted p (keep (of_kind k true (suc b)) D) d ∙ sym (joined-ranks p hp)

      -- every cell of a row
      pub cell-is : (b i p : ℕ) → ones_in A ≡ suc b → i < (N - 1) ^ b → p < K → has p A ≡ true
          → get_or (get_or (of_set A (block N K k b n)) i []) p none
          ≡ some (origin_place N k (totals_of K k) (cut (counters_of k A) (length A) (counted_all k D no_counts)) (origin_of N k n A i) p)
      unfolding At ranks origin_of is_joined
      cell-is b i p many hi hp g = go (has k A) refl (ℕ_discrete p k) b many hi
        where
          go : (t : Bool) → has k A ≡ t → Dec (p ≡ k) → (c : ℕ) → ones_in A ≡ suc c → i < (N - 1) ^ c
              → At c i p ≡ some (origin_place N k (totals_of K k) ranks (cond (t && ltb 1 (ones_in A)) (joined N n (ones_in A) i) (plain N n (ones_in A) i)) p)
          go false e (yes f) c m h = absurd (false≢true (sym e ∙ ap (λ s. has s A) (sym f) ∙ g))
          go false e (no d) c m h = side-cell c i p m e h hp g d
          go true e (yes f) zero m h = rw (le-ltb 1 (ones_in A) (omega arith), f) (first_cell i m e h)
          go true e (no d) zero m h = absurd (false≢true (sym (has-lone A k p m e d) ∙ g))
          go true e (yes f) (suc c) m h = rw (lt-ltb 1 (ones_in A) (omega arith), f) (wanted-cell c i m e h)
          go true e (no d) (suc c) m h = rw (lt-ltb 1 (ones_in A) (omega arith)) (other-cell c i m e h p hp g d)
