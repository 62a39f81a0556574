-- `correction::verdict` meets its contract: its tests are the links of the chain, in their order.
use mathlib.Core.Path.{◌≡◌, refl, sym, ap, ◌∙◌}
use mathlib.Core.Bool.{true}
use borrow.Author.Tests.{not-true, not-false}
use Rattle.std.specs.Prelude.{Err}
use Rattle.parameters.specs.declared.Sizes.{Sizes}
use Rattle.refusal.proofs.Passed.{passed}
use Rattle.catalogue.specs.Catalogue.{Admitted}
use Rattle.catalogue.proofs.Faults.{after-catalogue}
use Rattle.codes.specs.Codes.{scheme_of}
use Rattle.codes.proofs.Measured.{measured, unmeasured}
use Rattle.correction.specs.Calls.{outside_of, outside, correct_verdict}
use Rattle.correction.proofs.Verdicts.{correct-accepted, server-refused, query-refused, store-refused, edit-refused, length-refused}
use Rattle.correction.proofs.verdict.Goals as goal

pub returns-in_err-sizes : goal.returns-in_err-sizes
unfolding correct_verdict
returns-in_err-sizes c = let value = c.args.c in
    let refused = unmeasured value c.sizes.result c.in_err-sizes.field-0.0 c.sizes.ensures c.in_err-sizes.was in
    passed _ _ c.from_residual.ensures.1 ∙ after-catalogue value _ refl (Err c.in_err-sizes.field-0.0) _ (sym refused) refl

pub returns-then-c-server : goal.returns-then-c-server
returns-then-c-server c = let sized : let value = c.args.c in (Admitted value) × (c.in_ok-sizes.sizes ≡ (scheme_of value).sizes) =
    measured c.args.c c.sizes.result c.in_ok-sizes.sizes c.sizes.ensures c.in_ok-sizes.was in
    let a = c.args in
    server-refused a.c a.server a.stored a.query.now a.edit a.saved (sized).0 c.if-c-server.true

pub admits-requires : goal.admits-requires
admits-requires c = let sized : let value = c.args.c in (Admitted value) × (c.in_ok-sizes.sizes ≡ (scheme_of value).sizes) =
    measured c.args.c c.sizes.result c.in_ok-sizes.sizes c.sizes.ensures c.in_ok-sizes.was in
    (sized).0

pub returns-then-not-admits : goal.returns-then-not-admits
returns-then-not-admits c = let sized : let value = c.args.c in (Admitted value) × (c.in_ok-sizes.sizes ≡ (scheme_of value).sizes) =
    measured c.args.c c.sizes.result c.in_ok-sizes.sizes c.sizes.ensures c.in_ok-sizes.was in
    let a = c.args in
    let asked = c.admits in
    query-refused a.c a.server a.stored a.query.now a.edit a.saved (sized).0 c.if-c-server.false
    (sym c.admits.ensures ∙ not-true c.admits.result c.if-not-admits.true-raw)

pub returns-then-stored-sizes : goal.returns-then-stored-sizes
returns-then-stored-sizes c = let sized : let value = c.args.c in (Admitted value) × (c.in_ok-sizes.sizes ≡ (scheme_of value).sizes) =
    measured c.args.c c.sizes.result c.in_ok-sizes.sizes c.sizes.ensures c.in_ok-sizes.was in
    let store-size : c.in_ok-sizes.sizes.store ≡ (scheme_of c.args.c).sizes.store =
    ap (λ (s : Sizes). s.store) (sized).1 in
    let good : let a = c.args in
    (scheme_of a.c).admits a.server a.query.now ≡ true =
    sym c.admits.ensures ∙ not-false c.admits.result c.if-not-admits.false-raw in
    let a = c.args in
    store-refused a.c a.server a.stored a.query.now a.edit a.saved (sized).0 c.if-c-server.false
    (good) (λ e. c.if-stored-sizes.true (e ∙ sym (store-size)))

pub returns-then-is_outside : goal.returns-then-is_outside
returns-then-is_outside c = let sized : let value = c.args.c in (Admitted value) × (c.in_ok-sizes.sizes ≡ (scheme_of value).sizes) =
    measured c.args.c c.sizes.result c.in_ok-sizes.sizes c.sizes.ensures c.in_ok-sizes.was in
    let store-size : c.in_ok-sizes.sizes.store ≡ (scheme_of c.args.c).sizes.store =
    ap (λ (s : Sizes). s.store) (sized).1 in
    let good : let a = c.args in
    (scheme_of a.c).admits a.server a.query.now ≡ true =
    sym c.admits.ensures ∙ not-false c.admits.result c.if-not-admits.false-raw in
    let told-outside : let a = c.args in
    c.is_outside.result ≡ outside a.c a.edit =
    let a = c.args in
    c.is_outside.ensures ∙ ap (λ (s : Sizes). outside_of a.c.messages s.symbols a.c.symbol a.edit) (sized).1 in
    let a = c.args in
    edit-refused a.c a.server a.stored a.query.now a.edit a.saved (sized).0
    c.if-c-server.false
    (good) (c.if-stored-sizes.false ∙ store-size) (sym (told-outside) ∙ c.if-is_outside.true)

pub answer_length-requires : goal.answer_length-requires
answer_length-requires c = let sized : let value = c.args.c in (Admitted value) × (c.in_ok-sizes.sizes ≡ (scheme_of value).sizes) =
    measured c.args.c c.sizes.result c.in_ok-sizes.sizes c.sizes.ensures c.in_ok-sizes.was in
    (sized).0

pub returns-then-saved-answer_length : goal.returns-then-saved-answer_length
returns-then-saved-answer_length c = let sized : let value = c.args.c in (Admitted value) × (c.in_ok-sizes.sizes ≡ (scheme_of value).sizes) =
    measured c.args.c c.sizes.result c.in_ok-sizes.sizes c.sizes.ensures c.in_ok-sizes.was in
    let store-size : c.in_ok-sizes.sizes.store ≡ (scheme_of c.args.c).sizes.store =
    ap (λ (s : Sizes). s.store) (sized).1 in
    let good : let a = c.args in
    (scheme_of a.c).admits a.server a.query.now ≡ true =
    sym c.admits.ensures ∙ not-false c.admits.result c.if-not-admits.false-raw in
    let told-outside : let a = c.args in
    c.is_outside.result ≡ outside a.c a.edit =
    let a = c.args in
    c.is_outside.ensures ∙ ap (λ (s : Sizes). outside_of a.c.messages s.symbols a.c.symbol a.edit) (sized).1 in
    let a = c.args in
    length-refused a.c a.server a.stored a.query.now a.edit a.saved (sized).0
    c.if-c-server.false
    (good) (c.if-stored-sizes.false ∙ store-size) (sym (told-outside) ∙ c.if-is_outside.false)
    (λ e. c.if-saved-answer_length.true (e ∙ sym c.answer_length.ensures))

pub returns : goal.returns
returns c = let sized : let value = c.args.c in (Admitted value) × (c.in_ok-sizes.sizes ≡ (scheme_of value).sizes) =
    measured c.args.c c.sizes.result c.in_ok-sizes.sizes c.sizes.ensures c.in_ok-sizes.was in
    let store-size : c.in_ok-sizes.sizes.store ≡ (scheme_of c.args.c).sizes.store =
    ap (λ (s : Sizes). s.store) (sized).1 in
    let good : let a = c.args in
    (scheme_of a.c).admits a.server a.query.now ≡ true =
    sym c.admits.ensures ∙ not-false c.admits.result c.if-not-admits.false-raw in
    let told-outside : let a = c.args in
    c.is_outside.result ≡ outside a.c a.edit =
    let a = c.args in
    c.is_outside.ensures ∙ ap (λ (s : Sizes). outside_of a.c.messages s.symbols a.c.symbol a.edit) (sized).1 in
    let a = c.args in
    sym (correct-accepted a.c a.server a.stored a.query.now a.edit a.saved (record {
      admitted = (sized).0;
      below = c.if-c-server.false;
      admits = good;
      store_long = c.if-stored-sizes.false ∙ store-size;
      inside = sym (told-outside) ∙ c.if-is_outside.false;
      saved-long = c.if-saved-answer_length.false ∙ c.answer_length.ensures;
    }))
