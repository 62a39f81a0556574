-- `session_checks::held::Held::meters_good` meets its contract: after i turns the meters of the first i places are good.
use mathlib.Core.Path.{◌≡◌, sym, ap, ◌∙◌}
use mathlib.Core.Bool.{Bool, false, ◌&&◌, and-false}
use native.Mathlib.Omega.{arith}
use borrow.Author.Tests.{not-true, not-false}
use Rattle.lists.proofs.Both.{true-both}
use Rattle.lists.proofs.Every.{every-none, every_more, every-false}
use Rattle.codes.specs.Codes.{scheme_of}
use Rattle.session_parts.specs.Marks.{marked}
use Rattle.session_parts.specs.Meters.{counted, sent_good, got_good, meters_good}
use Rattle.session_parts.proofs.Marks.{taken-below}
use Rattle.session_checks.specs.Checks.{answer_bytes}
use Rattle.session_checks.proofs.Keys.{query-some}
use Rattle.session_checks.proofs.held.Held.meters_good.Goals as goal

-- one of two tests fails
first-bad : (t u : Bool) → t ≡ false → t && u ≡ false
first-bad t u e = ap (λ (x : Bool). x && u) e

second-bad : (t u : Bool) → u ≡ false → t && u ≡ false
second-bad t u e = ap (λ (x : Bool). t && x) e ∙ and-false t

pub loop-i-init : goal.loop-i-init
loop-i-init c = every-none _

pub sent_good-requires : goal.sent_good-requires
sent_good-requires c = omega (arith, c.requires.checked.query_value, query-some c.args.self.catalogue c.requires.checked.admitted)

pub returns-then-not-sent_good : goal.returns-then-not-sent_good
unfolding meters_good
returns-then-not-sent_good c = let args = c.args in
    let i = c.loop-i.i in
    let bad : sent_good (scheme_of args.self.catalogue).sizes.query (marked args.self.issued.now i) (counted args.self.meters.sent i) ≡ false =
    rw c.requires.checked.query_value at (sym c.sent_good.ensures ∙ not-true _ c.if-not-sent_good.true-raw) in
    sym (every-false 16 _ i (omega arith) (first-bad _ _ bad))

pub got_good-requires : goal.got_good-requires
got_good-requires c = let pre = c.requires in
    let args = c.args in
    let below = taken-below args.self.catalogue.servers args.self.issued.now args.self.taken.now c.requires.taken_value c.loop-i.i (omega arith) in
    record { checked = c.requires.checked; server_bound = omega arith; server_lt_servers = below }

pub returns-then-not-got_good : goal.returns-then-not-got_good
unfolding meters_good
returns-then-not-got_good c = let args = c.args in
    let i = c.loop-i.i in
    let sent = sent_good (scheme_of args.self.catalogue).sizes.query (marked args.self.issued.now i) (counted args.self.meters.sent i) in
    let bad : got_good (answer_bytes scheme_of args.self.catalogue args.self.wanted args.self.key.now i) (marked args.self.taken.now i) (counted args.self.meters.got i) ≡ false =
    sym c.got_good.ensures ∙ not-true _ c.if-not-got_good.true-raw in
    sym (every-false 16 _ i (omega arith) (second-bad sent _ bad))

pub loop-i-preserved : goal.loop-i-preserved
loop-i-preserved c =
    every_more c.loop-i.i _ c.loop-i.invariant
    (true-both (sym c.sent_good.ensures ∙ not-false _ c.if-not-sent_good.false-raw)
    (sym c.got_good.ensures ∙ not-false _ c.if-not-got_good.false-raw))

pub returns : goal.returns
unfolding meters_good
returns c = let e : c.loop-i.i ≡ 16 = omega arith in
    sym (rw (e, c.requires.checked.query_value) at c.loop-i.invariant)
