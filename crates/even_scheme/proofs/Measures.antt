-- Sizes: those that the laws of a scheme ask for (`key_fits`, `store-whole`), and the rows of a query as document 01 counts them and
-- as the place rule makes them (`rows-counted`).
use Prim.Native.Nat.{ℕ, ◌*◌, ◌^◌, ◌≤◌, ◌<◌}
use native.Mathlib.Nat.{mul-le-mul}
use native.Mathlib.Omega.{arith}
use mathlib.Core.Path.{◌≡◌, refl, sym}
use mathlib.Core.Bool.{true}
use Rattle.parameters.specs.Bounds.{even_fits}
use Rattle.parameters.specs.Measures.{even_sizes, even_rows, key_places, most_servers}
use Rattle.parameters.proofs.Bounds.{even-bounds}
use Rattle.symbol.specs.Sum.{Sum}
use Rattle.even_places.specs.Rule.{row_count}
use Rattle.even_places.proofs.Counts.{row-count-is}
use Rattle.even_scheme.specs.Even.{even_scheme}

pub rows-counted : (N K : ℕ) → 1 < N → 0 < K → even_rows N K ≡ row_count N K
unfolding even_rows
rows-counted N K wide some-message = sym (row-count-is N K wide some-message)

module _ (sum : Sum) (N K S : ℕ) (fits : even_fits N K S ≡ true) where
  pub servers-some : 0 < N
  servers-some = let b = even-bounds N K S fits in omega arith

  pub servers-fit : N ≤ most_servers
  servers-fit = (even-bounds N K S fits).servers-high

  pub key_fits : (even_scheme sum N K S).sizes.key ≤ key_places
  unfolding even_sizes
  key_fits =
      let b = even-bounds N K S fits in
      let most : K * N ^ K ≤ 8 * 256 = mul-le-mul b.messages-high b.symbols-high in
      omega arith

  pub store-whole : (even_scheme sum N K S).sizes.store ≡ K * (even_scheme sum N K S).sizes.message
  unfolding even_sizes
  store-whole = refl
