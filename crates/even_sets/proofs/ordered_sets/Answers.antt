-- `even_sets::ordered_sets` meets its contract: after i turns the sets from i on are still to be written.
use mathlib.Core.Path.{◌≡◌, refl, ap, ap₂, ◌∙◌}
use mathlib.Core.List.{List, [], ◌∷◌, map}
use Prim.Native.Nat.{ℕ, ◌+◌, ◌/◌, ◌%◌, ◌≤◌, ◌<◌}
use native.Mathlib.Numerals.{add-one}
use native.Mathlib.Omega.{arith}
use lib.ListN.{length, get_or, drop, set, replicate, length-map, drop_of_length-le}
use lib.Seq.{drop-cons}
use Rattle.lists.proofs.Writing.{pending-start, pending-byte, pending-as, pending_done}
use Rattle.lists.proofs.Puts.{put-padded}
use Rattle.even_places.specs.Rule.{byte_of, all_sets}
use Rattle.even_sets.proofs.Blocks.{subsets-few, all-length, listed-entry}
use Rattle.even_sets.proofs.ordered_sets.Goals as goal

pub loop-i-init : goal.loop-i-init
loop-i-init c = let k = c.args.k in
    let room : 0 + length (map byte_of (all_sets k)) ≤ length (replicate {A = ℕ} 256 0) =
    omega (arith, length-map (all_sets k) byte_of, all-length k, subsets-few k c.requires) in
    pending-start room

pub loop-i-preserved : goal.loop-i-preserved
loop-i-preserved c = let first = c.power-first in
    let table = c.listed_sets-table in
    let k = c.args.k in
    let i = c.loop-i.i in
    let bytes = map byte_of (all_sets k) in
    let inside : i < length (all_sets k) = omega (arith, c.power-first.ensures, all-length k) in
    let next : drop i bytes ≡ get_or bytes i 0 ∷ drop (i + 1) bytes = rw (add-one i) (drop-cons bytes i 0 (omega (arith, length-map (all_sets k) byte_of))) in
    let read =
    ap₂ (λ (rows : List (List ℕ)) (n : ℕ). get_or (get_or rows ((n + i) / 8) []) ((n + i) % 8) 0) c.listed_sets-table.ensures c.power-first.ensures
    ∙ listed-entry k i [] c.requires inside in
    pending-as refl refl (ap (set c.loop-i.sets i) read) (pending-byte (rw next at c.loop-i.invariant))

pub returns : goal.returns
returns c = let k = c.args.k in
    let bytes = map byte_of (all_sets k) in
    let none = drop_of_length-le bytes {i = c.loop-i.i} (omega (arith, c.power-first.ensures, all-length k, length-map (all_sets k) byte_of)) in
    pending_done (rw none at c.loop-i.invariant) ∙ put-padded bytes 256
