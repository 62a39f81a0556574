-- Every admitted catalogue's code has the rows that a query asks for, as `Asks` says: `asks_of`.
use mathlib.Core.Path.{◌≡◌}
use mathlib.Core.Bool.{true}
use Prim.Native.Nat.{ℕ}
use native.Mathlib.Omega.{arith}
use Rattle.parameters.proofs.Bounds.{even-bounds, round-bounds}
use Rattle.symbol.specs.Sum.{Sum}
use Rattle.symbol.specs.Operations.{sum_of}
use Rattle.catalogue.specs.declared.Code.{Code}
use Rattle.catalogue.specs.declared.Code.TheVariants.{Short, Even, Turn, Round}
use Rattle.catalogue.specs.declared.Catalogue.{Catalogue}
use Rattle.catalogue.specs.Catalogue.{fits, Admitted}
use Rattle.catalogue.proofs.Admitted.{admitted-fits}
use Rattle.codes.specs.Codes.{scheme_by, scheme_of}
use Rattle.scheme.specs.Asks.{Asks}
use Rattle.codes.specs.Asked.{rows_by, rows_of}
use Rattle.short_scheme.proofs.Asks.{short-asks}
use Rattle.turn_code.proofs.Asks.{turn-asks}
use Rattle.round_scheme.proofs.Asks.{round-asks}
use Rattle.even_scheme.proofs.Asks.{even-asks}

asks-by : (code : Code) (by : Sum) (N K S : ℕ) → fits code N K S ≡ true → Asks by K S (scheme_by code by N K S) (rows_by code N K)
asks-by Short by N K S e = short-asks by N K S
asks-by Even by N K S e = let b = even-bounds N K S e in even-asks by N K S b.servers-low b.messages-low
asks-by Turn by N K S e = turn-asks by N K S
asks-by Round by N K S e = let b = round-bounds N K S e in round-asks by N K S (omega (arith, b.servers-low))

pub asks_of : (c : Catalogue) → Admitted c → Asks (sum_of c.sum) c.messages c.symbol (scheme_of c) (rows_of c)
unfolding scheme_of rows_of
asks_of c a = asks-by c.code (sum_of c.sum) c.servers c.messages c.symbol (admitted-fits c a)
