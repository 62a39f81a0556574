-- The parts of a query that are lent: a whole row (`row-lent`), what a query that is too short has of one (`row-short-lent`, `row-past`), and a row without
-- its first digit (`rest-lent`).
use mathlib.Core.Path.{◌≡◌, sym, ap, ◌∙◌}
use mathlib.Core.List.{List}
use Prim.Native.Nat.{ℕ, ◌+◌, ◌-◌, ◌*◌, ◌≤◌}
use native.Mathlib.Nat.{add-sub_cancel_left}
use native.Mathlib.Omega.{arith}
use lib.ListN.{length, take, drop, length-drop, drop_of_length-le}
use lib.Seq.{take_all, take-nil}
use Rattle.lists.specs.Below.{all_below}
use Rattle.lists.specs.Inserts.{remove_at}
use Rattle.lists.specs.Parts.{cut}
use Rattle.lists.proofs.Cuts.{cut-cut, cut-length, to_end}
use Rattle.short_scheme.specs.Short.{short_answer_length}
use Rattle.round_scheme.specs.Round.{row, row_length}

module _ (K : ℕ) (query : List ℕ) (i : ℕ) where
  pub row-lent : take (i * K + K - i * K) (drop (i * K) query) ≡ row K query i
  unfolding row
  row-lent = ap (λ (n : ℕ). take n (drop (i * K) query)) (add-sub_cancel_left (i * K) K)

  pub row-short-lent : length query - i * K ≤ K → take (length query - i * K) (drop (i * K) query) ≡ row K query i
  unfolding row
  row-short-lent h = to_end query (i * K) ∙ sym (take_all K (drop (i * K) query) (omega (arith, length-drop (i * K) query)))

  pub row-past : (S : ℕ) → length query ≤ i * K → row_length K S query i ≡ 0
  unfolding row_length row short_answer_length all_below
  row-past S h = ap (λ (l : List ℕ). short_answer_length S l) (ap (take K) (drop_of_length-le query h) ∙ take-nil K)

  -- the first digit's place is i * K
  pub rest-lent : 1 ≤ K → i * K + K ≤ length query → take (i * K + K - (i * K + 1)) (drop (i * K + 1) query) ≡ remove_at 0 (row K query i)
  unfolding row
  rest-lent some room =
      let whole = cut (i * K) K query in
      let e : i * K + K - (i * K + 1) ≡ K - 1 = omega arith in
      ap (λ (n : ℕ). take n (drop (i * K + 1) query)) e
      ∙ sym (cut-cut 1 (K - 1) (i * K) K query (omega arith))
      ∙ take_all (K - 1) (drop 1 whole) (omega (arith, length-drop 1 whole, cut-length (i * K) K query room))
