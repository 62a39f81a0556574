-- `session::Session::take` meets its contract: it goes by its verdict, and the answer fits the server's slot and its meter.
use native.Mathlib.Omega.{arith}
use mathlib.Core.Path.{sym, ap, ◌∙◌}
use Prim.Native.Nat.{◌*◌}
use lib.ListN.{length}
use Rattle.lists.specs.Parts.{put}
use Rattle.lists.proofs.Cuts.{slot-end}
use Rattle.parameters.specs.declared.Sizes.{Sizes}
use Rattle.codes.specs.Codes.{scheme_of}
use Rattle.session.proofs.Take.{take-passed, take-goes}
use Rattle.session.proofs.Places.{key-places}
use Rattle.session_checks.proofs.Keys.{sizes-small}
use Rattle.session.proofs.Promised.{slot-holds, meter-holds}
use Rattle.session.proofs.Session.take.Goals as goal

pub returns-in-Err : goal.returns-in-Err
returns-in-Err c = let args = c.args in
    let v = c.take_verdict-verdict in
    (take-goes scheme_of args.self args.server args.answer.now args.answers.now).refused c.take_verdict-verdict.result _ c.take_verdict-verdict.ensures c.in-Err.is

pub sizes_of-sizes-requires : goal.sizes_of-sizes-requires
sizes_of-sizes-requires c = let args = c.args in
    let v = c.take_verdict-verdict in
    (take-passed scheme_of args.self args.server (length args.answer.now) (length args.answers.now)
    (sym c.take_verdict-verdict.ensures ∙ c.in_default.is)).sound.admitted

pub overflow_mul-server : goal.overflow_mul-server
overflow_mul-server c = let args = c.args in
    let v = c.take_verdict-verdict in
    let sizes = c.sizes_of-sizes in
    let t = take-passed scheme_of args.self args.server (length args.answer.now) (length args.answers.now)
    (sym c.take_verdict-verdict.ensures ∙ c.in_default.is) in
    omega (
      arith,
      slot-end args.server args.self.catalogue.servers c.sizes_of-sizes.result.slot t.below,
      (sizes-small args.self.catalogue c.sizes_of-sizes.result t.sound.admitted c.sizes_of-sizes.ensures).slots,
    )

pub put_answer-requires : goal.put_answer-requires
put_answer-requires c = let args = c.args in
    let v = c.take_verdict-verdict in
    let sizes = c.sizes_of-sizes in
    let t = take-passed scheme_of args.self args.server (length args.answer.now) (length args.answers.now)
    (sym c.take_verdict-verdict.ensures ∙ c.in_default.is) in
    let long = key-places args.self _ c.well_formed.0 in
    slot-holds args.self long c.sizes_of-sizes.result c.sizes_of-sizes.ensures args.server (length args.answer.now) (length args.answers.now) t

pub mark_taken-requires : goal.mark_taken-requires
mark_taken-requires c = let args = c.args in
    let v = c.take_verdict-verdict in
    let sizes = c.sizes_of-sizes in
    let accepted = sym c.take_verdict-verdict.ensures ∙ c.in_default.is in
    let t = take-passed scheme_of args.self args.server (length args.answer.now) (length args.answers.now) accepted in
    let long = key-places args.self _ c.well_formed.0 in record {
      server_bound = omega (arith, t.below, (sizes-small args.self.catalogue c.sizes_of-sizes.result t.sound.admitted c.sizes_of-sizes.ensures).servers);
      bytes_bound = meter-holds args.self long args.server (length args.answer.now) (length args.answers.now) accepted;
    }

pub returns : goal.returns
returns c = let args = c.args in
    let v = c.take_verdict-verdict in
    rw c.mark_taken.ensures
    ((take-goes scheme_of args.self args.server args.answer.now args.answers.now).done c.take_verdict-verdict.result _ c.take_verdict-verdict.ensures c.in_default.is
    (c.put_answer.ensures
    ∙ ap (λ (sizes : Sizes). put (args.server * sizes.slot) args.answer.now args.answers.now) c.sizes_of-sizes.ensures))
