-- `other_server` meets its contract: the other servers are those below `server`, then those above it.
use mathlib.Core.Path.{sym, ◌∙◌}
use native.Mathlib.Numerals.{add-one}
use Rattle.even_places.proofs.Others.{others-low, others-high}
use Rattle.even_layout.proofs.other_server.Goals as goal

pub returns-then-turn-server : goal.returns-then-turn-server
returns-then-turn-server c = λ n known turn. sym (others-low n c.args.server c.args.turn known c.if-turn-server.true)

pub returns-else-turn-server : goal.returns-else-turn-server
returns-else-turn-server c = λ n known turn. add-one c.args.turn ∙ sym (others-high n c.args.server c.args.turn known c.if-turn-server.false turn)
