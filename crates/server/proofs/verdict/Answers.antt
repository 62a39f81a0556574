-- `server::verdict` meets its contract: its tests are the links of the chain, in their order.
use mathlib.Core.Path.{◌≡◌, refl, sym, ap, ◌∙◌}
use mathlib.Core.Bool.{true}
use borrow.Author.Tests.{not-true, not-false}
use Rattle.std.specs.Prelude.{Err}
use Rattle.parameters.specs.declared.Sizes.{Sizes}
use Rattle.refusal.proofs.Passed.{passed}
use Rattle.catalogue.specs.Catalogue.{Admitted}
use Rattle.catalogue.specs.Days.{Served}
use Rattle.catalogue.proofs.Faults.{after-catalogue}
use Rattle.codes.specs.Codes.{scheme_of}
use Rattle.codes.proofs.Measured.{measured, unmeasured}
use Rattle.server.specs.Answering.{answer_verdict}
use Rattle.server.proofs.Laws.{answer-accepted}
use Rattle.server.proofs.Refusals.{day-refused, server-refused, query-refused, store-refused, room-refused}
use Rattle.server.proofs.verdict.Goals as goal

pub returns-in_err-sizes : goal.returns-in_err-sizes
unfolding answer_verdict
returns-in_err-sizes c = let value = c.args.c in
    let refused = unmeasured value c.sizes.result c.in_err-sizes.field-0.0 c.sizes.ensures c.in_err-sizes.was in
    passed _ _ c.from_residual.ensures.1 ∙ after-catalogue value _ refl (Err c.in_err-sizes.field-0.0) _ (sym refused) refl

pub returns-in_err-day_verdict : goal.returns-in_err-day_verdict
returns-in_err-day_verdict c = let admitted : Admitted c.args.c =
    (measured c.args.c c.sizes.result c.in_ok-sizes.sizes c.sizes.ensures c.in_ok-sizes.was).0 in
    let a = c.args in
    let asked = c.day_verdict in
    passed _ _ c.from_residual-in_err-day_verdict.ensures.1 ∙ day-refused scheme_of a.c a.today a.server a.stored a.query.now a.room (admitted)
    c.in_err-day_verdict.field-0.0 (sym c.day_verdict.ensures ∙ c.in_err-day_verdict.was)

pub returns-then-c-server : goal.returns-then-c-server
returns-then-c-server c = let admitted : Admitted c.args.c =
    (measured c.args.c c.sizes.result c.in_ok-sizes.sizes c.sizes.ensures c.in_ok-sizes.was).0 in
    let served : let a = c.args in Served a.c a.today =
    sym c.day_verdict.ensures ∙ c.in_ok-day_verdict.was in
    let a = c.args in
    server-refused scheme_of a.c a.today a.server a.stored a.query.now a.room (admitted) (served) c.if-c-server.true

pub admits-requires : goal.admits-requires
admits-requires c = let admitted : Admitted c.args.c =
    (measured c.args.c c.sizes.result c.in_ok-sizes.sizes c.sizes.ensures c.in_ok-sizes.was).0 in
    admitted

pub returns-then-not-admits : goal.returns-then-not-admits
returns-then-not-admits c = let admitted : Admitted c.args.c =
    (measured c.args.c c.sizes.result c.in_ok-sizes.sizes c.sizes.ensures c.in_ok-sizes.was).0 in
    let served : let a = c.args in Served a.c a.today =
    sym c.day_verdict.ensures ∙ c.in_ok-day_verdict.was in
    let a = c.args in
    let asked = c.admits in
    query-refused scheme_of a.c a.today a.server a.stored a.query.now a.room (admitted) (served)
    c.if-c-server.false (sym c.admits.ensures ∙ not-true c.admits.result c.if-not-admits.true-raw)

pub returns-then-stored-sizes : goal.returns-then-stored-sizes
returns-then-stored-sizes c = let admitted : Admitted c.args.c =
    (measured c.args.c c.sizes.result c.in_ok-sizes.sizes c.sizes.ensures c.in_ok-sizes.was).0 in
    let store-size : c.in_ok-sizes.sizes.store ≡ (scheme_of c.args.c).sizes.store =
    ap (λ (s : Sizes). s.store) (measured c.args.c c.sizes.result c.in_ok-sizes.sizes c.sizes.ensures c.in_ok-sizes.was).1 in
    let served : let a = c.args in Served a.c a.today =
    sym c.day_verdict.ensures ∙ c.in_ok-day_verdict.was in
    let good : let a = c.args in
    (scheme_of a.c).admits a.server a.query.now ≡ true =
    sym c.admits.ensures ∙ not-false c.admits.result c.if-not-admits.false-raw in
    let a = c.args in
    store-refused scheme_of a.c a.today a.server a.stored a.query.now a.room (admitted) (served)
    c.if-c-server.false (good) (λ e. c.if-stored-sizes.true (e ∙ sym (store-size)))

pub answer_length-requires : goal.answer_length-requires
answer_length-requires c = let admitted : Admitted c.args.c =
    (measured c.args.c c.sizes.result c.in_ok-sizes.sizes c.sizes.ensures c.in_ok-sizes.was).0 in
    admitted

pub returns-then-room-answer_length : goal.returns-then-room-answer_length
returns-then-room-answer_length c = let admitted : Admitted c.args.c =
    (measured c.args.c c.sizes.result c.in_ok-sizes.sizes c.sizes.ensures c.in_ok-sizes.was).0 in
    let store-size : c.in_ok-sizes.sizes.store ≡ (scheme_of c.args.c).sizes.store =
    ap (λ (s : Sizes). s.store) (measured c.args.c c.sizes.result c.in_ok-sizes.sizes c.sizes.ensures c.in_ok-sizes.was).1 in
    let served : let a = c.args in Served a.c a.today =
    sym c.day_verdict.ensures ∙ c.in_ok-day_verdict.was in
    let good : let a = c.args in
    (scheme_of a.c).admits a.server a.query.now ≡ true =
    sym c.admits.ensures ∙ not-false c.admits.result c.if-not-admits.false-raw in
    let a = c.args in
    room-refused scheme_of a.c a.today a.server a.stored a.query.now a.room (admitted) (served)
    c.if-c-server.false (good) (c.if-stored-sizes.false ∙ store-size)
    (rw c.answer_length.ensures at c.if-room-answer_length.true)

pub returns : goal.returns
returns c = let admitted : Admitted c.args.c =
    (measured c.args.c c.sizes.result c.in_ok-sizes.sizes c.sizes.ensures c.in_ok-sizes.was).0 in
    let store-size : c.in_ok-sizes.sizes.store ≡ (scheme_of c.args.c).sizes.store =
    ap (λ (s : Sizes). s.store) (measured c.args.c c.sizes.result c.in_ok-sizes.sizes c.sizes.ensures c.in_ok-sizes.was).1 in
    let served : let a = c.args in Served a.c a.today =
    sym c.day_verdict.ensures ∙ c.in_ok-day_verdict.was in
    let good : let a = c.args in
    (scheme_of a.c).admits a.server a.query.now ≡ true =
    sym c.admits.ensures ∙ not-false c.admits.result c.if-not-admits.false-raw in
    let a = c.args in
    sym (answer-accepted scheme_of a.c a.today a.server a.stored a.query.now a.room (record {
      admitted = admitted;
      served = served;
      below = c.if-c-server.false;
      admits = good;
      store_long = c.if-stored-sizes.false ∙ store-size;
      roomy = rw c.answer_length.ensures at c.if-room-answer_length.false;
    }))
