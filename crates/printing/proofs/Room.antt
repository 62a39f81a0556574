-- The page has room for every output (`lines_fit`): the queries of an admitted catalogue have at most 2,048 bytes together.
-- Rests on the sizes of admitted catalogues being small.
use mathlib.Core.Path.{◌≡◌, ap, ◌∙◌}
use mathlib.Core.List.{List}
use Prim.Native.Nat.{ℕ, ◌+◌, ◌*◌, ◌≤◌}
use native.Mathlib.Nat.{mul-add, mul_left_comm}
use native.Mathlib.Omega.{arith}
use lib.ListN.{length, replicate, length-replicate}
use Rattle.parameters.specs.Measures.{key_places}
use Rattle.catalogue.specs.declared.Catalogue.{Catalogue}
use Rattle.catalogue.specs.Catalogue.{Admitted}
use Rattle.catalogue.proofs.Admitted.{admitted-numbers, admitted-small}
use Rattle.codes.specs.Codes.{scheme_of}
use Rattle.codes.proofs.Promises.{scheme-sizes}
use Rattle.printing.specs.Output.{page_bytes}

spread : (N q : ℕ) → N * (19 + 4 * q) ≡ N * 19 + 4 * (N * q)
spread N q = mul-add N 19 (4 * q) ∙ ap (λ (n : ℕ). N * 19 + n) (mul_left_comm N 4 q)

-- so many lines of 19 bytes without their queries, and so many numbers of at most three digits and a space
pub lines_fit : (c : Catalogue) → Admitted c → c.servers * (19 + 4 * (scheme_of c).sizes.query) ≤ page_bytes
lines_fit c a =
    let n = admitted-numbers c a in
    let q : c.servers * (scheme_of c).sizes.query ≤ key_places = rw (scheme-sizes c) (admitted-small c a).queries in
    let s = spread c.servers (scheme_of c).sizes.query in
    omega arith

-- a key and a query fit into so many zeros
pub places-many : (zeros : List ℕ) → zeros ≡ replicate key_places 0 → length zeros ≡ key_places
places-many zeros blank = ap length blank ∙ length-replicate {A = ℕ} key_places 0

pub key_fits : (c : Catalogue) → Admitted c → (scheme_of c).sizes.key ≤ key_places
key_fits c a = rw (scheme-sizes c) (admitted-small c a).key

pub query-fits : (c : Catalogue) → Admitted c → (scheme_of c).sizes.query ≤ key_places
query-fits c a = rw (scheme-sizes c) (admitted-small c a).query
