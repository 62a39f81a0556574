-- Recovery: the servers' honest answers to row i are the short code's, to its rows by the short key of block i, so they give the wanted message's block i
-- (`block-recovered`), and the blocks are the message: `round-recovered`.
use mathlib.Core.Path.{◌≡◌, sym, ap, ◌∙◌}
use mathlib.Core.List.{List, []}
use Prim.Native.Nat.{ℕ, ◌+◌, ◌-◌, ◌*◌, ◌<◌}
use native.Mathlib.Nat.{mul_assoc, add-mul, add-zero}
use native.Mathlib.Omega.{arith}
use lib.ListN.{length, get_or}
use Rattle.lists.specs.Below.{Below}
use Rattle.lists.specs.Inserts.{insert_at}
use Rattle.lists.specs.Parts.{cut}
use Rattle.lists.proofs.Arranged.{Permutation}
use Rattle.lists.proofs.Below.{all_below-below}
use Rattle.lists.proofs.Cuts.{cut-join, flat_map-part}
use Rattle.lists.proofs.Inserts.{insert-length, insert-below}
use Rattle.lists.proofs.Joined.{joined-equal}
use Rattle.lists.proofs.Mapped.{mapped_at}
use Rattle.parameters.specs.Bounds.{blocks}
use Rattle.symbol.specs.Sum.{Sum}
use Rattle.symbol.specs.Group.{AbelianGroup}
use Rattle.scheme.specs.Scheme.{honest_answers}
use Rattle.short_scheme.specs.Short.{short_query, strided_answer, short_recover}
use Rattle.short_scheme.specs.Rows.{RowStored}
use Rattle.short_scheme.proofs.Recovery.{row-recovered}
use Rattle.round_scheme.specs.Round.{short_key, round_query, row_length, length_before, row_answer, round_answer, answers_to, round_recover, round_scheme}
use Rattle.round_scheme.proofs.Queries.{admitted-rows, short-long, short-good, query-row, query-admitted}
use Rattle.round_scheme.proofs.Stored.{digits-in-block}
use Rattle.round_scheme.proofs.Lengths.{row-long}

module _ (sum : Sum) (N K S : ℕ) (group : AbelianGroup sum S) (wide : 0 < N) (some : 0 < S) (store : List ℕ)
    (whole : length store ≡ K * (blocks N K * ((N - 1) * S))) (bytes : Below 256 store) (wanted : ℕ) (known : wanted < K)
    (key : List ℕ) (all : Permutation (blocks N K) key) where
  abbrev honest : List (List ℕ)
  honest = honest_answers (round_scheme sum N K S) N store wanted key

  abbrev asked : ℕ → List ℕ
  asked n = round_query N K wanted n key

  honest-at : (n : ℕ) → n < N → get_or honest n [] ≡ round_answer sum N K S store (asked n)
  unfolding honest_answers
  honest-at n h = mapped_at (λ server. round_answer sum N K S store (asked server)) [] N n h

  module _ (i : ℕ) (inside : i < blocks N K) where
    -- the part of server n's answer that answers row i
    part_at : (n : ℕ) → n < N
        → get_or (answers_to N K S wanted key honest i) n []
        ≡ strided_answer sum (i * (N - 1)) (blocks N K * (N - 1)) S store (short_query N wanted n (short_key N K key i))
    unfolding answers_to length_before round_answer row_answer
    part_at n there =
        let query = asked n in
        mapped_at (λ m. cut (length_before K S (asked m) i) (row_length K S (asked m) i) (get_or honest m [])) [] N n there
        ∙ ap (cut (length_before K S query i) (row_length K S query i)) (honest-at n there)
        ∙ flat_map-part (row_answer sum N K S store query) (row_length K S query) (blocks N K)
        (row-long sum N K S group.plus-length store whole query (admitted-rows N K n query (query-admitted N K wide key all wanted n known there))) i inside
        ∙ ap (strided_answer sum (i * (N - 1)) (blocks N K * (N - 1)) S store) (query-row N K wide key all wanted n known there i inside)

    stored : (d : ℕ) → d < N → RowStored (i * (N - 1)) (blocks N K * (N - 1)) S store (insert_at wanted d (short_key N K key i))
    stored d h =
        let short = short_key N K key i in
        digits-in-block N K S store whole i inside (insert_at wanted d short)
        (omega (arith, insert-length wanted d short, short-long N K wide key all i))
        (insert-below N wanted d short h (all_below-below N short (short-good N K wide key all i inside)))

    place : (i * (N - 1) + wanted * (blocks N K * (N - 1))) * S ≡ (i + wanted * blocks N K) * ((N - 1) * S)
    place =
        ap (λ (n : ℕ). (i * (N - 1) + n) * S) (sym (mul_assoc wanted (blocks N K) (N - 1)))
        ∙ ap (λ (n : ℕ). n * S) (sym (add-mul i (wanted * blocks N K) (N - 1)))
        ∙ mul_assoc (i + wanted * blocks N K) (N - 1) S

    block-recovered : short_recover sum N S (short_key N K key i) (answers_to N K S wanted key honest i)
        ≡ cut ((i + wanted * blocks N K) * ((N - 1) * S)) ((N - 1) * S) store
    block-recovered =
        row-recovered sum (i * (N - 1)) (blocks N K * (N - 1)) N S group store some bytes wanted (short_key N K key i)
        (omega (arith, short-long N K wide key all i)) stored (answers_to N K S wanted key honest i) part_at
        ∙ ap (λ (n : ℕ). cut n ((N - 1) * S) store) place

  pub round-recovered : round_recover sum N K S wanted key honest ≡ cut (wanted * (blocks N K * ((N - 1) * S))) (blocks N K * ((N - 1) * S)) store
  unfolding round_recover
  round-recovered =
      let size = (N - 1) * S in
      let from = wanted * blocks N K in
      joined-equal (λ i. short_recover sum N S (short_key N K key i) (answers_to N K S wanted key honest i)) (λ i. cut (i * size) size store) 0 from (blocks N K)
      (λ i h.
      ap (λ j. short_recover sum N S (short_key N K key j) (answers_to N K S wanted key honest j)) (add-zero i) ∙ block-recovered i h)
      ∙ cut-join size from (blocks N K) store
      ∙ ap (λ n. cut n (blocks N K * size) store) (mul_assoc wanted (blocks N K) size)
