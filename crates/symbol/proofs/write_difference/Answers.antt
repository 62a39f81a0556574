-- `symbol::write_difference` meets its contract: the first bytes of the difference are the difference of the symbols' first bytes, and as
-- many are written as the message has room for.
use Rattle.std.proofs.Common.{◌≡◌, ℕ, ◌+◌, ◌-◌, min, List, ◌++◌, length, take, drop, refl, sym, ap, ◌∙◌}
use Rattle.lists.proofs.Laid.{lay-part}
use Rattle.symbol.specs.Sum.{less}
use Rattle.symbol.specs.Operations.{sum_of}
use Rattle.symbol.proofs.Operations.{group_of, prefixes-of}
use Rattle.symbol.proofs.Less.{less-length, less-take}
use Rattle.symbol.proofs.write_difference.Goals as goal

pub returns : goal.returns
returns c = let size = c.min-size.result in
    let a = c.args in
    let whole = less (sum_of a.op) a.alone a.first.now a.other.now in
    let long : length whole ≡ length a.first.now =
    less-length (sum_of a.op) (length a.first.now) (group_of a.op (length a.first.now)).minus-length a.alone
    a.first.now a.other.now refl c.requires in
    ap (λ (l : List ℕ). take a.at a.message.now ++ (l ++ drop (a.at + size - a.at) (drop a.at a.message.now)))
    (c.difference.ensures ∙ less-take (sum_of a.op) (prefixes-of a.op) a.alone size a.first.now a.other.now)
    ∙ lay-part a.at size whole a.message.now (c.min-size.ensures ∙ ap (λ (n : ℕ). min n (length a.message.now - a.at)) (sym long))
