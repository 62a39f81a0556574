-- How long the parts of an output's lines are: what stands before a query (`head-length`), and a refusal's line (`refusal-most`).
use mathlib.Core.Path.{◌≡◌, refl}
use mathlib.Core.Bool.{true}
use mathlib.Core.List.{◌++◌}
use Prim.Native.Nat.{ℕ, ◌+◌, ◌<◌}
use native.Mathlib.Omega.{arith}
use borrow.Author.Tests.{ltb-true}
use lib.Dec.{ltb}
use lib.ListN.{length, length-append}
use Rattle.lists.specs.Ascii.{ascii}
use Rattle.text_lines.specs.Decimal.{decimal}
use Rattle.refusal.specs.declared.Refusal.{Refusal}
use Rattle.refusal.specs.Numbers.{number_of}
use Rattle.refusal.proofs.Numbers.{at_each}
use Rattle.printing.specs.Output.{query_head}

pub head-length : (server : ℕ) → length (query_head server) ≡ 16 + length (decimal server)
head-length server =
    let e = length-append (ascii "mirror=") (decimal server ++ ascii " request=") in
    let f = length-append (decimal server) (ascii " request=") in
    omega arith

-- a refusal's number has at most two digits
pub refusal-most : (refusal : Refusal) → number_of refusal < 100
refusal-most refusal = ltb-true (number_of refusal) 100 (at_each (λ (r : Refusal). ltb (number_of r) 100) (λ (r : Refusal). true) refl refusal)
