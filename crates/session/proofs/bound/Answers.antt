-- `session::bound` meets its contract: it goes by the catalogue's verdict, and N slots are few bytes.
use mathlib.Core.Path.{sym, ap, ◌∙◌}
use Prim.Native.Nat.{◌*◌}
use native.Mathlib.Omega.{arith}
use Rattle.refusal.proofs.Passed.{passed}
use Rattle.parameters.specs.declared.Sizes.{Sizes}
use Rattle.codes.specs.Codes.{scheme_of}
use Rattle.session_checks.proofs.Keys.{sizes-small}
use Rattle.session.proofs.ByteBound.{bound-done, bound-refused}
use Rattle.session.proofs.bound.Goals as goal
use Rattle.std.specs.Prelude.{Ok}

pub returns-in_err-verdict : goal.returns-in_err-verdict
returns-in_err-verdict c = let v = c.verdict in
    passed _ _ c.from_residual.ensures.1 ∙ sym (bound-refused scheme_of c.args.catalogue c.verdict.result _ c.verdict.ensures c.in_err-verdict.was)

pub sizes_of-sizes-requires : goal.sizes_of-sizes-requires
sizes_of-sizes-requires c = sym c.verdict.ensures ∙ c.in_ok-verdict.was

pub overflow_mul-result : goal.overflow_mul-result
overflow_mul-result c = let admitted = sym c.verdict.ensures ∙ c.in_ok-verdict.was in
    omega (arith, (sizes-small c.args.catalogue c.sizes_of-sizes.result admitted c.sizes_of-sizes.ensures).slots)

pub returns : goal.returns
returns c = let catalogue = c.args.catalogue in
    let v = c.verdict in
    ap (λ (sizes : Sizes). Ok (catalogue.servers * sizes.slot)) c.sizes_of-sizes.ensures
    ∙ sym (bound-done scheme_of catalogue c.verdict.result c.verdict.ensures c.in_ok-verdict.was)
