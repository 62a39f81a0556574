-- `session_checks::held::Held::meters_good` meets its contract: after i turns the meters of the first i places are good.
use mathlib.Core.Path.{◌≡◌}
use mathlib.Core.Bool.{true, ◌&&◌}
use Rattle.lists.specs.Ranges.{every}
use Rattle.codes.specs.Codes.{scheme_of}
use Rattle.session_parts.specs.Marks.{marked}
use Rattle.session_parts.specs.Meters.{counted, sent_good, got_good}
use Rattle.session_checks.specs.Checks.{answer_bytes}
use Rattle.session_checks.proofs.held.Held.meters_good.Given as goal

abbrev pub invariant-loop-i : goal.invariant-loop-i
invariant-loop-i l =
    (every l.i
    (λ place. sent_good l.self.query (marked l.issued place) (counted l.sent place)
    && got_good (answer_bytes scheme_of l.self.catalogue l.self.wanted l.self.key.now place) (marked l.taken place) (counted l.self.meters.got place))
    ≡ true)
