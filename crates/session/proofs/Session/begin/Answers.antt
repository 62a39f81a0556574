-- `session::Session::begin` meets its contract: it goes by its verdict.
use native.Mathlib.Omega.{arith}
use mathlib.Core.Path.{refl, sym, ◌∙◌}
use Rattle.codes.specs.Codes.{scheme_of}
use Rattle.session.proofs.Begin.{begin-passed, begin-refused, begin-done}
use Rattle.session_checks.proofs.Keys.{sizes-small}
use Rattle.session.proofs.Session.begin.Goals as goal

pub returns-in-Err : goal.returns-in-Err
returns-in-Err c = let args = c.args in
    let v = c.begin_verdict-verdict in
    rw c.blank.ensures (begin-refused scheme_of args.catalogue args.wanted args.key.now c.begin_verdict-verdict.result _ c.begin_verdict-verdict.ensures c.in-Err.is)

pub new_session-requires : goal.new_session-requires
new_session-requires c = let args = c.args in
    let v = c.begin_verdict-verdict in
    let begins = begin-passed scheme_of args.catalogue args.wanted args.key.now (sym c.begin_verdict-verdict.ensures ∙ c.in_default.is) in
    omega (arith, begins.valid.long, (sizes-small args.catalogue (scheme_of args.catalogue).sizes begins.admitted refl).key)

pub returns : goal.returns
returns c = let args = c.args in
    let v = c.begin_verdict-verdict in
    rw c.new_session.ensures (begin-done scheme_of args.catalogue args.wanted args.key.now c.begin_verdict-verdict.result c.begin_verdict-verdict.ensures c.in_default.is)
