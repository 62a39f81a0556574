-- What the counters hold: for each block, kind and message how many of the counted sets have the message (`counts-tell`). Rests on
-- where a set's counters lie (`room`).
use Prim.Native.Nat.{ℕ, suc, ◌+◌, ◌-◌, ◌*◌, ◌≤◌, ◌<◌}
use native.Mathlib.Nat.{zero-mul, one-mul}
use native.Mathlib.Omega.{arith}
use native.Mathlib.Decide.{dec_lt}
use mathlib.Core.Path.{◌≡◌, refl, sym, ap, ◌∙◌}
use mathlib.Core.List.{List}
use mathlib.Core.Bool.{Bool, true, false, beq, ◌&&◌}
use lib.Arith.{lt_of_le-ne}
use lib.Dec.{eqb}
use lib.ListN.{length, get_or, length-replicate, get_or-replicate}
use borrow.Author.Tests.{eqb-true, eqb-false}
use Rattle.lists.specs.Parts.{cut, put}
use Rattle.lists.specs.Sums.{bit, keep, sum, All, all_nil, all_cons}
use Rattle.lists.proofs.Cuts.{cut-length, cut_at}
use Rattle.lists.proofs.Puts.{put-length}
use Rattle.lists.proofs.ReadBack.{get_or-put-inside, get_or-put-before, get_or-put-after}
use Rattle.lists.proofs.Sums.{sum-keep}
use Rattle.even_places.specs.Rule.{has, ones_in, after}
use Rattle.even_places.specs.Counting.{with}
use Rattle.even_places.proofs.Rows.{after-at, after-length}
use Rattle.even_places.proofs.AllSets.{IsSet, ones-most}
use Rattle.even_ranks.specs.Counts.{counter, no_counts, counters_of, set_counted, counted_all}

-- A is of block b, and has k or not as t says
unfoldable pub of_kind : ℕ → Bool → ℕ → List Bool → Bool
of_kind k t b A = beq t (has k A) && eqb (suc b) (ones_in A)

module _ (K k : ℕ) (few : K ≤ 8) where
  -- the counters of A's block and kind lie inside the table
  pub room : (A : List Bool) (counts : List ℕ) → IsSet K A → length counts ≡ 128 → counters_of k A + length A ≤ length counts
  unfolding counters_of counter bit
  room A counts h e = go (has k A)
    where
      go : (t : Bool) → bit t * 64 + (ones_in A - 1) * 8 + 0 + length A ≤ length counts
      go true = omega (arith, h.long, ones-most A)
      go false = omega (arith, h.long, ones-most A)

  module _ (A : List Bool) (counts : List ℕ) (known : IsSet K A) (wide : length counts ≡ 128) where
    part : List ℕ
    part = cut (counters_of k A) (length A) counts

    part_length : length A ≡ length part
    unfolding part
    part_length = sym (cut-length (counters_of k A) (length A) counts (room A counts known wide))

    made : List ℕ
    made = after A part

    made-length : length made ≡ length A
    unfolding made
    made-length = after-length A part part_length ∙ sym part_length

    made-fits : counters_of k A + length made ≤ length counts
    made-fits = omega (arith, made-length, room A counts known wide)

    pub counted-length : length (set_counted k A counts) ≡ 128
    unfolding set_counted made part
    counted-length = put-length (counters_of k A) made counts made-fits ∙ wide

    at-is : (v : Bool) → has k A ≡ v → counters_of k A ≡ bit v * 64 + (ones_in A - 1) * 8 + 0
    unfolding counters_of counter
    at-is v e = ap (λ u. bit u * 64 + (ones_in A - 1) * 8 + 0) e

    inside : (i p : ℕ) → i ≡ counters_of k A + p → p < K → get_or (set_counted k A counts) i 0 ≡ bit (has p A) + get_or counts i 0
    unfolding set_counted made part
    inside i p e hp =
        ap (λ j. get_or (put (counters_of k A) made counts) j 0) e
        ∙ get_or-put-inside (counters_of k A) made counts made-fits p (omega (arith, made-length, known.long))
        ∙ after-at A part p part_length
        ∙ ap (λ x. bit (has p A) + x) (cut_at (counters_of k A) (length A) p counts (omega (arith, known.long)) ∙ ap (λ j. get_or counts j 0) (sym e))

    low : (i : ℕ) → i < counters_of k A → get_or (set_counted k A counts) i 0 ≡ get_or counts i 0
    unfolding set_counted made part
    low i h = get_or-put-before (counters_of k A) made counts made-fits i h

    high : (i : ℕ) → counters_of k A + length A ≤ i → get_or (set_counted k A counts) i 0 ≡ get_or counts i 0
    unfolding set_counted made part
    high i h = rw e (get_or-put-after (counters_of k A) made counts made-fits (i - (counters_of k A + length made)))
      where
        e : i ≡ counters_of k A + length made + (i - (counters_of k A + length made))
        e = omega (arith, made-length)

    counted-at : (t : Bool) (b p : ℕ) → b < 8 → p < K
        → get_or (set_counted k A counts) (counter t b p) 0 ≡ bit (of_kind k t b A) * bit (has p A) + get_or counts (counter t b p) 0
    unfolding of_kind counter bit
    counted-at t b p hb hp = go t (has k A) refl (eqb (suc b) (ones_in A)) refl
      where
        Says : Bool → Bool → Type 0
        Says t u = get_or (set_counted k A counts) (counter t b p) 0 ≡ bit u * bit (has p A) + get_or counts (counter t b p) 0

        here : (t : Bool) → has k A ≡ t → suc b ≡ ones_in A → Says t true
        here t e f =
            inside (counter t b p) p (omega (arith, at-is t e)) hp ∙ ap (λ x. x + get_or counts (counter t b p) 0) (sym (one-mul (bit (has p A))))

        none : (t : Bool) → get_or (set_counted k A counts) (counter t b p) 0 ≡ get_or counts (counter t b p) 0 → Says t false
        none t e = e ∙ omega (arith, zero-mul (bit (has p A)))

        apart : (t : Bool) → has k A ≡ t → (suc b ≡ ones_in A → ⊥) → Dec (suc b < ones_in A) → Says t false
        apart t e d (yes l) = none t (low (counter t b p) (omega (arith, at-is t e)))
        apart t e d (no l) = none t (high (counter t b p) (omega (arith, at-is t e, known.long, known.some, above)))
          where
            above : ones_in A < suc b
            above = lt_of_le-ne (omega arith) (λ q. d (sym q))

        go : (t v : Bool) → has k A ≡ v → (u : Bool) → eqb (suc b) (ones_in A) ≡ u → Says t (beq t v && u)
        go true true e true f = here true e (eqb-true (suc b) (ones_in A) f)
        go true true e false f = apart true e (eqb-false (suc b) (ones_in A) f) (dec_lt (suc b) (ones_in A))
        go false false e true f = here false e (eqb-true (suc b) (ones_in A) f)
        go false false e false f = apart false e (eqb-false (suc b) (ones_in A) f) (dec_lt (suc b) (ones_in A))
        go true false e u f = none true (high (counter true b p) (omega (arith, at-is false e, known.long, ones-most A)))
        go false true e u f = none false (low (counter false b p) (omega (arith, at-is true e)))

  pub counted_all-length : {D : List (List Bool)} (counts : List ℕ) → All (IsSet K) D → length counts ≡ 128 → length (counted_all k D counts) ≡ 128
  unfolding counted_all
  counted_all-length counts all_nil wide = wide
  counted_all-length counts (all_cons {x = A} h a) wide = counted_all-length (set_counted k A counts) a (counted-length A counts h wide)

  counted_all-sum : {D : List (List Bool)} (counts : List ℕ) → All (IsSet K) D → length counts ≡ 128 → (t : Bool) (b p : ℕ) → b < 8 → p < K
      → get_or (counted_all k D counts) (counter t b p) 0 ≡ sum (λ A. bit (of_kind k t b A) * bit (has p A)) D + get_or counts (counter t b p) 0
  unfolding counted_all sum
  counted_all-sum counts all_nil wide t b p hb hp = omega arith
  counted_all-sum counts (all_cons {x = A} {xs = D} h a) wide t b p hb hp =
      omega (arith, counted_all-sum (set_counted k A counts) a (counted-length A counts h wide) t b p hb hp, counted-at A counts h wide t b p hb hp)

  -- after the sets D, the counter of p tells how many of its kind have p
  pub counts-tell : {D : List (List Bool)} → All (IsSet K) D → (t : Bool) (b p : ℕ) → b < 8 → p < K
      → get_or (counted_all k D no_counts) (counter t b p) 0 ≡ with p (keep (of_kind k t b) D)
  unfolding with no_counts counter bit
  counts-tell {D} a t b p hb hp =
      counted_all-sum no_counts a (length-replicate {A = ℕ} 128 0) t b p hb hp
      ∙ omega (arith, sum-keep (λ A. bit (has p A)) (of_kind k t b) D, get_or-replicate {A = ℕ} 128 (counter t b p) 0 0 (small t))
    where
      small : (u : Bool) → bit u * 64 + b * 8 + p < 128
      small true = omega arith
      small false = omega arith
