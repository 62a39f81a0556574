-- `session_checks::keyed::write_query` meets its contract: the code writes the query of the key's places that are used, of the length that it has.
use mathlib.Core.Path.{sym, ap, ◌∙◌}
use lib.ListN.{take}
use Rattle.lists.specs.Parts.{put}
use Rattle.parameters.specs.declared.Sizes.{Sizes}
use Rattle.codes.specs.Codes.{scheme_of}
use Rattle.session_checks.proofs.Keys.{key-count, key-valid}
use Rattle.session_checks.proofs.keyed.write_query.Goals as goal

pub slice_bounds-query-end : goal.slice_bounds-query-end
slice_bounds-query-end c = let args = c.args in
    sym (key-count args.c args.places.now c.requires.places_len c.sizes_of-sizes.result c.requires.admitted c.sizes_of-sizes.ensures)

pub query-requires : goal.query-requires
query-requires c = let args = c.args in
    let pre = c.requires in
    let sizes = c.sizes_of-sizes in
    record {
      admitted = c.requires.admitted;
      wanted_lt_messages = c.requires.wanted_lt_messages;
      valid = key-valid args.c args.places.now c.requires.places_len c.sizes_of-sizes.result c.requires.admitted c.sizes_of-sizes.ensures c.requires.places_value;
      c_in_bounds = c.requires.c_in_bounds;
    }

pub returns : goal.returns
returns c = let args = c.args in
    let sizes-right = c.sizes_of-sizes.ensures in record {
      value = ap (λ (sizes : Sizes). sizes.query) sizes-right;
      query_after = c.query.ensures
          ∙ ap (λ (sizes : Sizes). put 0 ((scheme_of args.c).query args.wanted args.server (take sizes.key args.places.now)) args.query.now)
          sizes-right;
    }
