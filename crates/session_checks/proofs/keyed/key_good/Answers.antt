-- `session_checks::keyed::key_good` meets its contract: the places that are used fit, and are what is handed on.
use mathlib.Core.Path.{sym, ap, ◌∙◌}
use lib.ListN.{take}
use Rattle.parameters.specs.declared.Sizes.{Sizes}
use Rattle.codes.specs.Codes.{scheme_of}
use Rattle.session_checks.proofs.Keys.{key-count, key-length}
use Rattle.session_checks.proofs.keyed.key_good.Goals as goal

pub slice_bounds-key_good-end : goal.slice_bounds-key_good-end
slice_bounds-key_good-end c = let args = c.args in
    sym (key-count args.c args.places.now c.requires.places_len c.sizes_of-sizes.result c.requires.admitted c.sizes_of-sizes.ensures)

pub key_good-requires : goal.key_good-requires
key_good-requires c = let args = c.args in
    record {
      admitted = c.requires.admitted;
      key_len = key-length args.c args.places.now c.requires.places_len c.sizes_of-sizes.result c.requires.admitted c.sizes_of-sizes.ensures;
    }

pub returns : goal.returns
returns c = let args = c.args in
    c.key_good.ensures ∙ ap (λ (sizes : Sizes). (scheme_of args.c).key_good (take sizes.key args.places.now)) c.sizes_of-sizes.ensures
