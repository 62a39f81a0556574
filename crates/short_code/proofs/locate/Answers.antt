-- `short_code::locate` meets its contract: the one row names the symbol exactly if the message's digit does.
use mathlib.Core.Path.{sym, ap, ◌∙◌}
use mathlib.Core.Bool.{Bool, cond}
use Prim.Native.Nat.{suc}
use native.Mathlib.Numerals.{add-one}
use borrow.Author.Tests.{eq-eqb, ne_eqb}
use lib.ListN.{get_or}
use Rattle.std.specs.Prelude.{Some, None}
use Rattle.short_scheme.proofs.Located.{short-located}
use Rattle.short_code.proofs.locate.Goals as goal

pub returns-then-query-message : goal.returns-then-query-message
returns-then-query-message c = let a = c.args in
    let digit = get_or a.query.now a.message 0 in
    sym (short-located a.s a.symbol a.message a.query.now
    ∙ ap (λ (t : Bool). cond t (Some 0) None) (eq-eqb digit (suc a.symbol) (c.if-query-message.true ∙ add-one a.symbol)))

pub returns : goal.returns
returns c = let a = c.args in
    let digit = get_or a.query.now a.message 0 in
    sym (short-located a.s a.symbol a.message a.query.now
    ∙ ap (λ (t : Bool). cond t (Some 0) None) (ne_eqb digit (suc a.symbol) (λ e. c.if-query-message.false (e ∙ sym (add-one a.symbol)))))
