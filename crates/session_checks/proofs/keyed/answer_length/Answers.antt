-- `session_checks::keyed::answer_length` meets its contract: the code says the length for the key's places that are used.
use mathlib.Core.Path.{sym, ap, ◌∙◌}
use lib.ListN.{take}
use Rattle.parameters.specs.declared.Sizes.{Sizes}
use Rattle.codes.specs.Codes.{scheme_of}
use Rattle.session_checks.proofs.Keys.{key-count, key-valid}
use Rattle.session_checks.proofs.keyed.answer_length.Goals as goal

pub slice_bounds-expected_length-end : goal.slice_bounds-expected_length-end
slice_bounds-expected_length-end c = let args = c.args in
    sym (key-count args.c args.places.now c.requires.places_len c.sizes_of-sizes.result c.requires.admitted c.sizes_of-sizes.ensures)

pub expected_length-requires : goal.expected_length-requires
expected_length-requires c = let args = c.args in
    let pre = c.requires in
    let sizes = c.sizes_of-sizes in
    record {
      admitted = c.requires.admitted;
      wanted_lt_messages = c.requires.wanted_lt_messages;
      valid = key-valid args.c args.places.now c.requires.places_len c.sizes_of-sizes.result c.requires.admitted c.sizes_of-sizes.ensures c.requires.places_value;
    }

pub returns : goal.returns
returns c = let args = c.args in
    let code = scheme_of args.c in
    c.expected_length.ensures
    ∙ ap (λ (sizes : Sizes). code.answer_length (code.query args.wanted args.server (take sizes.key args.places.now))) c.sizes_of-sizes.ensures
