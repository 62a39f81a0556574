-- `server::answer` meets its contract: it asks for the verdict before it writes, and an accepted one says all that the code's answer needs.
use mathlib.Core.Path.{sym, ◌∙◌}
use lib.ListN.{length}
use Rattle.refusal.proofs.Passed.{passed}
use Rattle.codes.specs.Codes.{scheme_of}
use Rattle.server.proofs.Laws.{Answers, answer-passed, answer-refused, answer-done}
use Rattle.server.proofs.answer.Goals as goal

pub returns-in_err-verdict : goal.returns-in_err-verdict
returns-in_err-verdict c = let a = c.args in
    let asked = c.verdict in
    rw (passed _ _ c.from_residual.ensures.1) (answer-refused scheme_of a.c a.today a.server a.store.now a.query.now a.out.now c.verdict.result c.in_err-verdict.field-0.0 c.verdict.ensures c.in_err-verdict.was)

pub answer-requires : goal.answer-requires
answer-requires c = let passed : let a = c.args in
    Answers scheme_of a.c a.today a.server (length a.store.now) a.query.now (length a.out.now) =
    let a = c.args in
    answer-passed scheme_of a.c a.today a.server (length a.store.now) a.query.now (length a.out.now)
    (sym c.verdict.ensures ∙ c.in_ok-verdict.was) in
    let p = passed in record {
      admitted = p.admitted;
      query_value = p.admits;
      store_len = p.store_long;
      query_in_bounds = p.roomy;
    }

pub answer_length-requires : goal.answer_length-requires
answer_length-requires c = let passed : let a = c.args in
    Answers scheme_of a.c a.today a.server (length a.store.now) a.query.now (length a.out.now) =
    let a = c.args in
    answer-passed scheme_of a.c a.today a.server (length a.store.now) a.query.now (length a.out.now)
    (sym c.verdict.ensures ∙ c.in_ok-verdict.was) in
    (passed).admitted

pub returns : goal.returns
returns c = let a = c.args in
    let asked = c.verdict in
    answer-done scheme_of a.c a.today a.server a.store.now a.query.now a.out.now c.verdict.result c.answer_length.result _
    c.verdict.ensures c.in_ok-verdict.was c.answer_length.ensures c.answer.ensures
