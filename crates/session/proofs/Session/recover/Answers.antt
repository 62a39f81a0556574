-- `session::Session::recover` meets its contract: it goes by its verdict.
use mathlib.Core.Path.{sym, ◌∙◌}
use lib.ListN.{length}
use Rattle.codes.specs.Codes.{scheme_of}
use Rattle.session.proofs.Places.{key-places}
use Rattle.session.proofs.Recover.{recover-passed, recover-goes}
use Rattle.session.proofs.Session.recover.Goals as goal

pub returns-in-Err : goal.returns-in-Err
returns-in-Err c = let args = c.args in
    let v = c.recover_verdict-verdict in
    (recover-goes scheme_of args.self args.answers.now args.message.now).refused c.recover_verdict-verdict.result _ c.recover_verdict-verdict.ensures c.in-Err.is

pub write_message-requires : goal.write_message-requires
write_message-requires c = let args = c.args in
    let v = c.recover_verdict-verdict in
    let r = recover-passed scheme_of args.self (length args.answers.now) (length args.message.now) (sym c.recover_verdict-verdict.ensures ∙ c.in_default.is) in
    record {
      admitted = r.sound.admitted;
      places_len = key-places args.self _ c.well_formed.0;
      wanted_lt_messages = r.sound.inside;
      places_value = r.sound.good;
      c_in_bounds = r.slots-fit;
      wanted_in_bounds = r.roomy;
    }

pub returns : goal.returns
returns c = let args = c.args in
    let v = c.recover_verdict-verdict in
    (recover-goes scheme_of args.self args.answers.now args.message.now).done c.recover_verdict-verdict.result _ c.recover_verdict-verdict.ensures c.in_default.is
    c.write_message.ensures
