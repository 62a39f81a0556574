-- `session_parts::padded_key` meets its contract: behind the key the zeros stay.
use Rattle.std.proofs.Common.{◌≡◌, ℕ, List, ◌++◌, length, ap₂, arith, take_all}
use Rattle.lists.proofs.Replicate.{drop-replicate}
use Rattle.parameters.specs.Measures.{key_places}
use Rattle.session_parts.proofs.padded_key.Goals as goal

pub returns : goal.returns
returns c = let a = c.args in
    let copied : c.copy_from_slice.new.self ≡ a.key.now = grind (arith, take_all) in
    ap₂ (λ (a b : List ℕ). a ++ b) copied (drop-replicate (length a.key.now) key_places 0)
