-- Recovery: the honest answers in the order of the parts are those of the short code, by the other digits (`honest-parts`), so the message is recovered
-- as there: `message-turned`.
use mathlib.Core.Path.{◌≡◌, ap, ◌∙◌}
use mathlib.Core.Bool.{true}
use mathlib.Core.List.{List, []}
use Prim.Native.Nat.{ℕ, ◌-◌, ◌*◌, ◌<◌}
use native.Mathlib.Omega.{arith}
use lib.ListN.{length, get_or}
use Rattle.lists.specs.Parts.{cut}
use Rattle.lists.specs.Below.{all_below, Below}
use Rattle.lists.proofs.Mapped.{mapped_at, map_range}
use Rattle.symbol.specs.Sum.{Sum}
use Rattle.symbol.specs.Group.{AbelianGroup}
use Rattle.scheme.specs.Scheme.{honest_answers}
use Rattle.short_scheme.specs.Short.{short_query, short_answer, short_recover, short_scheme}
use Rattle.short_scheme.proofs.Recovery.{message-recovered}
use Rattle.turn_code.specs.Turn.{turn_of, other_digits, part_of, player_of, turn_query, by_part, turn_recover, turn_scheme}
use Rattle.turn_code.proofs.Keys.{others-length, others-good, turn_below}
use Rattle.turn_code.proofs.Parts.{player-below, plays-part}

module _ (sum : Sum) (N K S : ℕ) (store : List ℕ) (wanted : ℕ) (key : List ℕ) where
  -- the answer of the short code's server n
  abbrev answered : ℕ → List ℕ
  answered n = short_answer sum N S store (short_query N wanted n (other_digits key))

  pub honest-parts : 0 < N → turn_of key < N
      → by_part N key (honest_answers (turn_scheme sum N K S) N store wanted key) ≡ honest_answers (short_scheme sum N K S) N store wanted (other_digits key)
  unfolding by_part honest_answers turn_query
  honest-parts some low =
      map_range 0 N (λ part. get_or (honest_answers (turn_scheme sum N K S) N store wanted key) (player_of N key part) []) answered
      (λ part from to.
      mapped_at (λ n. answered (part_of N key n)) [] N (player_of N key part) (player-below N key some part)
      ∙ ap answered (plays-part N key some low part (omega (arith, to))))

  pub message-turned : AbelianGroup sum S → length store ≡ K * ((N - 1) * S) → 0 < S → Below 256 store → 0 < N → wanted < K → length key ≡ K
      → all_below N key ≡ true
      → turn_recover sum N S key (honest_answers (turn_scheme sum N K S) N store wanted key) ≡ cut (wanted * ((N - 1) * S)) ((N - 1) * S) store
  unfolding turn_recover
  message-turned group whole symbol bytes some known long good =
      let short : length (other_digits key) ≡ K - 1 = omega (arith, others-length key, long) in
      ap (short_recover sum N S (other_digits key)) (honest-parts some (turn_below N key good (omega arith)))
      ∙ message-recovered sum N K S group store whole symbol bytes wanted known (other_digits key) short (others-good N key good)
