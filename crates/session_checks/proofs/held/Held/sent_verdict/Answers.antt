-- `session_checks::held::Held::sent_verdict` meets its contract: the verdict on marks and meters decides, and else whether the server's meter has room.
use mathlib.Core.Path.{refl, sym, ◌∙◌}
use mathlib.Core.List.{[], ◌∷◌}
use native.Mathlib.Omega.{arith}
use Rattle.refusal.proofs.Passed.{passed}
use Rattle.refusal.proofs.Chain.{chain-after}
use Rattle.codes.specs.Codes.{scheme_of}
use Rattle.session_checks.specs.Holding.{history_of}
use Rattle.session_checks.specs.Checks.{full_fault}
use Rattle.session_checks.proofs.Keys.{sizes-small}
use Rattle.session_checks.proofs.held.Held.sent_verdict.Goals as goal

pub returns-in_err-history_verdict : goal.returns-in_err-history_verdict
returns-in_err-history_verdict c = let args = c.args in
    let past = history_of args.self in
    let full = full_fault args.self.meters args.server (scheme_of args.self.catalogue).sizes.query ∷ [] in
    passed _ _ c.from_residual.ensures.1 ∙ chain-after past full _ _ c.history_verdict.ensures (rw c.in_err-history_verdict.was)

pub meter_full-requires : goal.meter_full-requires
meter_full-requires c = let pre = c.requires in
    record {
      server_bound = c.requires.server_bound;
      query_bound = omega (arith, c.requires.checked.query_value, (sizes-small c.args.self.catalogue (scheme_of c.args.self.catalogue).sizes c.requires.checked.admitted refl).query);
    }

pub returns-then-meter_full : goal.returns-then-meter_full
returns-then-meter_full c = let args = c.args in
    let past = history_of args.self in
    let full = full_fault args.self.meters args.server (scheme_of args.self.catalogue).sizes.query ∷ [] in
    chain-after past full _ _ c.history_verdict.ensures
    (rw (c.in_ok-history_verdict.was, ← c.requires.checked.query_value, sym c.meter_full.ensures ∙ c.if-meter_full.true))

pub returns : goal.returns
returns c = let args = c.args in
    let past = history_of args.self in
    let full = full_fault args.self.meters args.server (scheme_of args.self.catalogue).sizes.query ∷ [] in
    chain-after past full _ _ c.history_verdict.ensures
    (rw (c.in_ok-history_verdict.was, ← c.requires.checked.query_value, sym c.meter_full.ensures ∙ c.if-meter_full.false))
