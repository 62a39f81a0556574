-- Recovery from the answer buffer: what is written of each symbol (`from-length`, `write-more`), and that the symbols are those of the rule,
-- wherever the answers lie in the buffer (`recovered-placed`); that those in slots lie in it: `slots-placed`.
use mathlib.Core.Path.{◌≡◌, sym, ap, ap₂, ◌∙◌}
use mathlib.Core.Bool.{Bool, true, false, cond}
use mathlib.Core.List.{List, [], flat_map}
use Prim.Native.Nat.{ℕ, suc, ◌+◌, ◌-◌, ◌*◌, ◌%◌, ◌≤◌, ◌<◌}
use native.Mathlib.Nat.{mod-lt, suc-mul}
use native.Mathlib.Numerals.{add-one}
use native.Mathlib.Omega.{arith}
use lib.ListN.{length, get_or, drop}
use Rattle.lists.specs.Parts.{cut, lay}
use Rattle.lists.specs.Ranges.{range}
use Rattle.lists.specs.Below.{Below}
use Rattle.lists.proofs.Below.{below-take, below-drop}
use Rattle.lists.proofs.Cuts.{cut-length, slot-end}
use Rattle.lists.proofs.Laid.{lay-nil, lay-next}
use Rattle.lists.proofs.Filled.{FilledBy}
use Rattle.symbol.specs.Sum.{Sum, less}
use Rattle.symbol.specs.Group.{AbelianGroup}
use Rattle.symbol.proofs.Less.{less-length}
use Rattle.symbol.proofs.Totals.{minus-zeros}
use Rattle.short_scheme.specs.Short.{or_zeros, recovered}
use Rattle.short_scheme.proofs.Answers.{or-zeros-some}
use Rattle.short_rows.specs.Steps.{Placed, from_places}

module _ (sum : Sum) (N S T : ℕ) (group : AbelianGroup sum S) (starts answers : List ℕ) (placed : Placed N S starts answers) (known : T < N) where
  turned : (d : ℕ) → (d + T) % N < N
  turned d = mod-lt (d + T) (omega arith)

  pub from-length : (empty : Bool) (d : ℕ) → length (from_places sum N S T empty starts answers d) ≡ S
  from-length empty d =
      let from = get_or starts ((d + T) % N) 0 in
      let other = get_or starts T 0 in
      less-length sum S group.minus-length empty (cut from S answers) (cut other S answers)
      (cut-length from S answers (placed.inside ((d + T) % N) (turned d))) (cut-length other S answers (placed.inside T known))

  -- an empty answer of server T counts as zeros
  taken-away : Below 256 answers → (empty : Bool) (from : ℕ) → length (cut from S answers) ≡ S
      → sum.minus (cut from S answers) (or_zeros S (cut (get_or starts T 0) (cond empty 0 S) answers))
      ≡ less sum empty (cut from S answers) (cut (get_or starts T 0) S answers)
  unfolding less or_zeros
  taken-away bytes true from long =
      minus-zeros sum S group (record { long = long; bytes = below-take 256 S (drop from answers) (below-drop 256 from answers bytes) })
  taken-away bytes false from long =
      let other = cut-length (get_or starts T 0) S answers (placed.inside T known) in
      ap (sum.minus (cut from S answers)) (or-zeros-some S (cut (get_or starts T 0) S answers) (omega (arith, placed.some)))

  -- the symbol of digit d by the rule, if the two servers' answers lie where `starts` says
  pub recovered-placed : Below 256 answers → (parts : List (List ℕ)) (empty : Bool) (d : ℕ)
      → get_or parts ((d + T) % N) [] ≡ cut (get_or starts ((d + T) % N) 0) S answers
      → get_or parts T [] ≡ cut (get_or starts T 0) (cond empty 0 S) answers
      → recovered sum N S T parts d ≡ from_places sum N S T empty starts answers d
  unfolding recovered
  recovered-placed bytes parts empty d e f =
      let from = get_or starts ((d + T) % N) 0 in
      let long : length (cut from S answers) ≡ S = cut-length from S answers (placed.inside ((d + T) % N) (turned d)) in
      ap₂ sum.minus (ap (or_zeros S) e ∙ or-zeros-some S (cut from S answers) (omega (arith, placed.some))) (ap (or_zeros S) f)
      ∙ taken-away bytes empty from long

-- starts of slots that all lie in the answer buffer
pub slots-placed : (N S : ℕ) (starts answers : List ℕ) → N ≤ 16 → 0 < S → S ≤ 1048576 → length starts ≡ 16 → FilledBy (λ i. i * S) N starts
    → N * S ≤ length answers → Placed N S starts answers
slots-placed N S starts answers few some small long slots room = record {
  few = few;
  some = some;
  small = small;
  known = omega arith;
  inside = λ i h. omega (arith, slots.holds i h, slot-end i N S h);
}

-- nothing is left to write
pub write_done : (f : ℕ → List ℕ) (N S d : ℕ) (message : List ℕ) → N ≤ d → lay ((d - 1) * S) (flat_map f (range d (N - d))) message ≡ message
unfolding range flat_map
write_done f N S d message h =
    ap (λ (n : ℕ). lay ((d - 1) * S) (flat_map f (range d n)) message) (let e : N - d ≡ 0 = omega arith in e) ∙ lay-nil ((d - 1) * S) message

-- a turn of the loop: one symbol more is written, and the symbols left give the whole as before
pub write-more : (f : ℕ → List ℕ) (N S d : ℕ) (message : List ℕ) {message' whole : List ℕ} → 0 < d → d < N → length (f d) ≡ S
    → message' ≡ lay ((d - 1) * S) (f d) message → lay ((d - 1) * S) (flat_map f (range d (N - d))) message ≡ whole
    → lay ((d + 1 - 1) * S) (flat_map f (range (d + 1) (N - (d + 1)))) message' ≡ whole
unfolding range flat_map
write-more f N S d message {message'} low h long written e =
    let rest = flat_map f (range (suc d) (N - suc d)) in
    let count : suc (N - suc d) ≡ N - d = omega arith in
    let place : (d + 1 - 1) * S ≡ (d - 1) * S + length (f d) =
    ap (λ (n : ℕ). n * S) (let e : d + 1 - 1 ≡ suc (d - 1) = omega arith in e) ∙ suc-mul (d - 1) S ∙ ap (λ (n : ℕ). (d - 1) * S + n) (sym long) in
    ap (λ (m : ℕ). lay ((d + 1 - 1) * S) (flat_map f (range m (N - m))) message') (add-one d)
    ∙ lay-next ((d - 1) * S) ((d + 1 - 1) * S) (f d) rest message message' place written
    ∙ ap (λ (n : ℕ). lay ((d - 1) * S) (flat_map f (range d n)) message) count
    ∙ e
