-- The numbers that the answer unit gives: `set-up-numbers`, `access-numbers`, `eighteen-first`, `never-set-up`.
use mathlib.Core.Path.{◌≡◌, refl, ◌∙◌}
use mathlib.Core.Bool.{Bool, true, false, ◌&&◌}
use borrow.Author.Tests.{lt-ltb, le-ltb}
use Rattle.lists.specs.Distinct.{stands}
use Rattle.refusal.specs.Chain.{refused}
use Rattle.refusal.proofs.Within.{faults-within}
use Rattle.parameters.specs.Bounds.{short_fits}
use Rattle.catalogue.specs.Catalogue.{in_bounds, zero_catalogue}
use Rattle.answer_unit.specs.Unit.{fresh, zero_unit}
use Rattle.answer_unit.specs.Registers.{unit_takes, set_up_faults, set_up_verdict, access_faults, access_verdict}
use Rattle.answer_unit.proofs.Chains.{set-up-chain, access-chain}
use Rattle.unit_laws.specs.Numbers.{SetUpNumbers, AccessNumbers, EighteenFirst, NeverSetUp}

pub set-up-numbers : SetUpNumbers
unfolding set_up_verdict stands
set-up-numbers c server = faults-within _ (set_up_faults c server) _ refl refl

pub access-numbers : AccessNumbers
unfolding access_verdict stands
access-numbers u register stored = faults-within _ (access_faults u register stored) _ refl refl

pub eighteen-first : EighteenFirst
eighteen-first u register stored above = access-chain u register stored ∙ rw (lt-ltb 5 register above)

-- the zeros break the bounds of the short code
zero-out : (t : Bool) → (t && in_bounds zero_catalogue) ≡ false
unfolding short_fits
zero-out true = refl
zero-out false = refl

zero-refused : set_up_verdict zero_catalogue 0 ≡ refused 2
zero-refused = set-up-chain zero_catalogue 0 ∙ rw (zero-out (unit_takes zero_catalogue))

pub never-set-up : NeverSetUp
unfolding zero_unit fresh
never-set-up register stored known = access-chain zero_unit register stored ∙ rw (le-ltb 5 register known, zero-refused)
