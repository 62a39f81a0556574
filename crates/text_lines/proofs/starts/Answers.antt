-- `text_lines::starts` meets its contract: the library's test is the same, byte by byte.
use mathlib.Core.Path.{◌∙◌}
use Rattle.text_lines.proofs.Begins.{begins-pointwise}
use Rattle.text_lines.proofs.starts.Goals as goal

pub returns : goal.returns
returns c = c.starts_with.ensures.value ∙ begins-pointwise c.args.name.now c.args.text.now
