-- Every admitted catalogue's scheme keeps its promises: `promises`, by the laws of the code that the catalogue names, over the group that
-- its symbols are combined in. Its sizes are the catalogue's: `scheme-sizes`.
use mathlib.Core.Path.{◌≡◌, refl}
use mathlib.Core.Bool.{true}
use Prim.Native.Nat.{ℕ}
use Rattle.parameters.specs.Bounds.{short_fits, even_fits, round_fits}
use Rattle.symbol.specs.Sum.{Sum}
use Rattle.symbol.specs.Group.{AbelianGroup}
use Rattle.symbol.specs.Operations.{sum_of}
use Rattle.symbol.proofs.Operations.{group_of}
use Rattle.scheme.specs.Laws.{Laws}
use Rattle.catalogue.specs.declared.Code.{Code}
use Rattle.catalogue.specs.declared.Code.TheVariants.{Short, Even, Turn, Round}
use Rattle.catalogue.specs.declared.Catalogue.{Catalogue}
use Rattle.catalogue.specs.Catalogue.{fits, Admitted, sizes_by, sizes_of}
use Rattle.catalogue.proofs.Admitted.{admitted-fits}
use Rattle.short_scheme.specs.Short.{short_scheme}
use Rattle.short_scheme.proofs.Promises.{short-laws}
use Rattle.even_scheme.specs.Even.{even_scheme}
use Rattle.even_scheme.proofs.Promises.{even-laws}
use Rattle.turn_code.specs.Turn.{turn_scheme}
use Rattle.turn_code.proofs.Promises.{turn-laws}
use Rattle.round_scheme.specs.Round.{round_scheme}
use Rattle.round_scheme.proofs.Promises.{round-laws}
use Rattle.codes.specs.Codes.{scheme_by, scheme_of}

laws-by : (code : Code) (sum : Sum) (N K S : ℕ) → AbelianGroup sum S → fits code N K S ≡ true → Laws N K (scheme_by code sum N K S)
laws-by Short = short-laws
laws-by Even = even-laws
laws-by Turn = turn-laws
laws-by Round = round-laws

pub promises : (c : Catalogue) → Admitted c → Laws c.servers c.messages (scheme_of c)
unfolding scheme_of
promises c a =
    laws-by c.code (sum_of c.sum) c.servers c.messages c.symbol (group_of c.sum c.symbol) (admitted-fits c a)

sizes-by : (code : Code) (sum : Sum) (N K S : ℕ) → (scheme_by code sum N K S).sizes ≡ sizes_by code N K S
sizes-by Short sum N K S = refl
sizes-by Even sum N K S = refl
sizes-by Turn sum N K S = refl
sizes-by Round sum N K S = refl

pub scheme-sizes : (c : Catalogue) → (scheme_of c).sizes ≡ sizes_of c
unfolding scheme_of sizes_of
scheme-sizes c = sizes-by c.code (sum_of c.sum) c.servers c.messages c.symbol

-- ---- what the code of an admitted catalogue says of its numbers

pub admitted-short : (c : Catalogue) → Admitted c → c.code ≡ Short → short_fits c.servers c.messages c.symbol ≡ true
admitted-short c a e = rw e at (admitted-fits c a)

pub admitted-turn : (c : Catalogue) → Admitted c → c.code ≡ Turn → short_fits c.servers c.messages c.symbol ≡ true
admitted-turn c a e = rw e at (admitted-fits c a)

pub admitted-even : (c : Catalogue) → Admitted c → c.code ≡ Even → even_fits c.servers c.messages c.symbol ≡ true
admitted-even c a e = rw e at (admitted-fits c a)

pub admitted-round : (c : Catalogue) → Admitted c → c.code ≡ Round → round_fits c.servers c.messages c.symbol ≡ true
admitted-round c a e = rw e at (admitted-fits c a)

-- ---- the scheme of a catalogue whose code is known

pub scheme-short : (c : Catalogue) → c.code ≡ Short → scheme_of c ≡ short_scheme (sum_of c.sum) c.servers c.messages c.symbol
unfolding scheme_of
scheme-short c e = rw e

pub scheme-even : (c : Catalogue) → c.code ≡ Even → scheme_of c ≡ even_scheme (sum_of c.sum) c.servers c.messages c.symbol
unfolding scheme_of
scheme-even c e = rw e

pub scheme-turn : (c : Catalogue) → c.code ≡ Turn → scheme_of c ≡ turn_scheme (sum_of c.sum) c.servers c.messages c.symbol
unfolding scheme_of
scheme-turn c e = rw e

pub scheme-round : (c : Catalogue) → c.code ≡ Round → scheme_of c ≡ round_scheme (sum_of c.sum) c.servers c.messages c.symbol
unfolding scheme_of
scheme-round c e = rw e
