-- `answer_unit::AnswerUnit::read` meets its contract: it goes by its verdict.
use mathlib.Core.Path.{sym, ◌∙◌}
use lib.ListN.{length}
use Rattle.answer_unit.proofs.Chains.{unit-takes, set-up-passed, access-passed}
use Rattle.answer_unit.proofs.Steps.{read-by}
use Rattle.answer_unit.proofs.AnswerUnit.read.Goals as goal

pub returns-in-Err : goal.returns-in-Err
returns-in-Err c = let a = c.args in
    let v = c.access_verdict-verdict in
    rw (read-by a.self a.register a.store.now c.access_verdict-verdict.result c.access_verdict-verdict.ensures, c.in-Err.is)

pub shown-requires : goal.shown-requires
shown-requires c = let a = c.args in
    let u = a.self in
    let p = access-passed u a.register (length a.store.now) (sym c.access_verdict-verdict.ensures ∙ c.in_default.is) in
    let s = set-up-passed u.catalogue u.server p.set-up in
    record {
      register_bound = p.known;
      waiting_le_symbol = p.waiting-fits;
      symbol_bound = (unit-takes u.catalogue s.takes).small;
    }

pub returns : goal.returns
returns c = let a = c.args in
    let v = c.access_verdict-verdict in
    rw (
      read-by a.self a.register a.store.now c.access_verdict-verdict.result c.access_verdict-verdict.ensures,
      c.in_default.is,
      c.shown.ensures,
      c.after_read.ensures,
    )
