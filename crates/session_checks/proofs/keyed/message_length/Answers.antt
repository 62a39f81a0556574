-- `session_checks::keyed::message_length` meets its contract: the length goes by the size of the catalogue's messages.
use mathlib.Core.Path.{ap, ◌∙◌}
use Rattle.parameters.specs.declared.Sizes.{Sizes}
use Rattle.lengths.specs.Lengths.{length_of}
use Rattle.session_checks.proofs.keyed.message_length.Goals as goal

pub returns : goal.returns
returns c = let args = c.args in
    c.length_of.ensures ∙ ap (λ (sizes : Sizes). length_of args.c.lengths sizes.message args.wanted) c.sizes_of-sizes.ensures
