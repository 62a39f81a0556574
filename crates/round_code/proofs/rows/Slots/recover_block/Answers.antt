-- `round_code::rows::Slots::recover_block` meets its contract: the rest of the message from byte `at` on is lent, and nothing is written past its end.
use mathlib.Core.Path.{◌≡◌, sym, ap, ap₂, ◌∙◌}
use mathlib.Core.Bool.{Bool}
use mathlib.Core.List.{List, ◌++◌, flat_map}
use Prim.Native.Nat.{ℕ, ◌-◌}
use lib.Dec.{eqb}
use lib.ListN.{length, take, drop}
use Rattle.lists.specs.Parts.{lay}
use Rattle.lists.specs.Ranges.{range}
use Rattle.lists.proofs.Cuts.{to_end}
use Rattle.lists.proofs.Laid.{lay-rest}
use Rattle.symbol.specs.Operations.{sum_of}
use Rattle.short_scheme.specs.Short.{key_sum}
use Rattle.short_rows.specs.Steps.{from_places}
use Rattle.round_scheme.specs.Round.{digits}
use Rattle.round_code.specs.Steps.{row_starts, block_from}
use Rattle.round_code.proofs.ShortKeys.{entry-zeros}
use Rattle.round_code.proofs.Starts.{starts-placed}
use Rattle.round_code.proofs.rows.Slots.recover_block.Goals as goal

pub recover_row-requires-clause-placed : goal.recover_row-requires-clause-placed
recover_row-requires-clause-placed c = let a = c.args in
    let r = c.requires in
    rw c.row_starts-starts.ensures (starts-placed a.self.now.servers a.self.now.size a.self.now.slot a.before a.behind a.self.now.answers.now r.round_numbers.servers-high r.s_nonzero.0 r.s_nonzero.2
    r.s_bound.0 r.s_bound.1 r.s_bound.2)

pub returns : goal.returns
unfolding block_from
returns c = let a = c.args in
    let message = a.message.now in
    let f : ℕ → Bool → List ℕ → List ℕ =
    λ t empty begin. flat_map (from_places (sum_of a.self.now.op) a.self.now.servers a.self.now.size t empty begin a.self.now.answers.now) (range 1 (a.self.now.servers - 1)) in
    let block = block_from (sum_of a.self.now.op) a.self.now.servers a.self.now.messages a.self.now.size a.entry (row_starts a.self.now.slot a.before a.behind) a.self.now.answers.now in
    let short = digits a.self.now.servers (a.self.now.messages - 1) a.entry in
    let same : f c.asked_none.result (eqb a.entry 0) c.row_starts-starts.result ≡ block =
    ap (λ (t : ℕ). f t (eqb a.entry 0) c.row_starts-starts.result) c.asked_none.ensures
    ∙ ap₂ (λ (empty : Bool) (begin : List ℕ). f (key_sum a.self.now.servers short) empty begin)
    (sym (entry-zeros a.self.now.servers a.self.now.messages a.entry c.requires.round_numbers c.requires.bound)) c.row_starts-starts.ensures in
    ap (λ (l : List ℕ). take a.at message ++ (l ++ drop (length message - a.at) (drop a.at message)))
    (c.recover_row.ensures ∙ ap₂ (λ (l m : List ℕ). lay 0 l m) same (to_end message a.at))
    ∙ lay-rest a.at block message
