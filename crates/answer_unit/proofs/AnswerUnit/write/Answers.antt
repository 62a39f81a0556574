-- `answer_unit::AnswerUnit::write` meets its contract: it goes by its verdict.
use mathlib.Core.Path.{sym, ◌∙◌}
use lib.ListN.{length}
use Rattle.answer_unit.proofs.Chains.{access-passed}
use Rattle.answer_unit.proofs.Steps.{write-by}
use Rattle.answer_unit.proofs.AnswerUnit.write.Goals as goal

pub returns-in-Err : goal.returns-in-Err
returns-in-Err c = let a = c.args in
    let v = c.access_verdict-verdict in
    rw (write-by a.self a.register a.value a.store.now c.access_verdict-verdict.result c.access_verdict-verdict.ensures, c.in-Err.is)

pub after_write-requires : goal.after_write-requires
after_write-requires c = let a = c.args in
    let p = access-passed a.self a.register (length a.store.now) (sym c.access_verdict-verdict.ensures ∙ c.in_default.is) in
    record {
      register_bound = p.known;
      held_bound = p.held_fits;
    }

pub returns : goal.returns
returns c = let a = c.args in
    let v = c.access_verdict-verdict in
    rw (
      write-by a.self a.register a.value a.store.now c.access_verdict-verdict.result c.access_verdict-verdict.ensures,
      c.in_default.is,
      c.after_write.ensures,
    )
