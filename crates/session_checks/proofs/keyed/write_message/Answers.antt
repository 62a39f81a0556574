-- `session_checks::keyed::write_message` meets its contract: the code writes the part of the message that it is lent, by the key's places that are used.
use mathlib.Core.Path.{sym, ap, ap₂, ◌∙◌}
use mathlib.Core.List.{List, ◌++◌}
use Prim.Native.Nat.{ℕ, ◌≤◌}
use native.Mathlib.Omega.{arith}
use lib.ListN.{length, take, drop}
use lib.Seq.{length-take-le}
use Rattle.lists.specs.Parts.{put}
use Rattle.lists.proofs.Laid.{lay-front}
use Rattle.parameters.specs.declared.Sizes.{Sizes}
use Rattle.scheme.specs.Scheme.{recover_in}
use Rattle.codes.specs.Codes.{scheme_of}
use Rattle.session_checks.proofs.Keys.{key-count, key-valid}
use Rattle.session_checks.proofs.keyed.write_message.Goals as goal

pub slice_bounds-recover-end : goal.slice_bounds-recover-end
slice_bounds-recover-end c = let args = c.args in
    sym (key-count args.c args.places.now c.requires.places_len c.sizes_of-sizes.result c.requires.admitted c.sizes_of-sizes.ensures)

pub slice_bounds-recover-end-2 : goal.slice_bounds-recover-end-2
slice_bounds-recover-end-2 c = let fits : c.message_length-length.result ≤ length c.args.message.now =
    omega (arith, c.message_length-length.ensures, c.requires.wanted_in_bounds) in
    fits

pub slice_bounds-recover-end-3 : goal.slice_bounds-recover-end-3
slice_bounds-recover-end-3 c = let fits : c.message_length-length.result ≤ length c.args.message.now =
    omega (arith, c.message_length-length.ensures, c.requires.wanted_in_bounds) in
    sym (length-take-le c.message_length-length.result c.args.message.now (fits))

pub recover-requires : goal.recover-requires
recover-requires c = let args = c.args in
    let pre = c.requires in
    let sizes = c.sizes_of-sizes in
    record {
      admitted = c.requires.admitted;
      wanted_lt_messages = c.requires.wanted_lt_messages;
      valid = key-valid args.c args.places.now c.requires.places_len c.sizes_of-sizes.result c.requires.admitted c.sizes_of-sizes.ensures c.requires.places_value;
      c_in_bounds = c.requires.c_in_bounds;
    }

pub returns : goal.returns
returns c = let fits : c.message_length-length.result ≤ length c.args.message.now =
    omega (arith, c.message_length-length.ensures, c.requires.wanted_in_bounds) in
    let args = c.args in
    let size = c.message_length-length.result in
    let message = args.message.now in
    ap (λ (l : List ℕ). l ++ drop size message) c.recover.ensures
    ∙ lay-front size (recover_in (scheme_of args.c) args.c.servers args.wanted (take c.sizes_of-sizes.result.key args.places.now)
    args.answers.now) message (fits)
    ∙ ap₂ (λ (n : ℕ) (sizes : Sizes). put 0
    (take n (recover_in (scheme_of args.c) args.c.servers args.wanted (take sizes.key args.places.now) args.answers.now)) message)
    c.message_length-length.ensures c.sizes_of-sizes.ensures
