-- The numbers that the answer unit can give, for every input (document 02, item 12).
use Rattle.std.specs.Prelude.{true, false, List, [], ◌∷◌, ◌⊎◌, ◌≡◌, ℕ, ◌≤◌, ◌<◌}
use Rattle.refusal.specs.Verdicts.{accepted}
use Rattle.refusal.specs.Chain.{refused}
use Rattle.refusal.specs.Within.{Within}
use Rattle.catalogue.specs.declared.Catalogue.{Catalogue}
use Rattle.answer_unit.specs.declared.AnswerUnit.{AnswerUnit}
use Rattle.answer_unit.specs.Unit.{zero_unit}
use Rattle.answer_unit.specs.Registers.{set_up_verdict, set_up, access_verdict, write_register}
use Rattle.unit_laws.specs.Runs.{Access, run, Placed}
use Rattle.unit_laws.specs.Claims.{Starts}

abbrev pub SetUpNumbers : Type 0
SetUpNumbers = (c : Catalogue) (server : ℕ) → Within (2 ∷ 17 ∷ 3 ∷ []) (set_up_verdict c server)

abbrev pub AccessNumbers : Type 0
AccessNumbers = (u : AnswerUnit) (register stored : ℕ) → Within (18 ∷ 2 ∷ 17 ∷ 3 ∷ 8 ∷ 11 ∷ []) (access_verdict u register stored)

-- 18 comes before anything else, of every unit value
abbrev pub EighteenFirst : Type 0
EighteenFirst = (u : AnswerUnit) (register stored : ℕ) → 5 < register → access_verdict u register stored ≡ refused 18

-- a unit that was never set up: the zeros are no catalogue
abbrev pub NeverSetUp : Type 0
NeverSetUp = (register stored : ℕ) → register ≤ 5 → access_verdict zero_unit register stored ≡ refused 2

-- how the last start ended, by the refused bit and register 4: the bit is clear and the number 0, or the bit is set and the number 7
abbrev pub Told : AnswerUnit → Type 0
Told u = ((u.refused ≡ false) × (u.refusal ≡ 0)) ⊎ ((u.refused ≡ true) × (u.refusal ≡ 7))

-- a start is answered or refused 7, and by no other number
abbrev pub OnlySeven : Type 0
OnlySeven = (u : AnswerUnit) (value : ℕ) (store : List ℕ) → Placed u → Starts u value store → Told (write_register u 0 value store).unit

-- after a set-up and any run of accesses the two agree
abbrev pub AlwaysTold : Type 0
AlwaysTold = (c : Catalogue) (server : ℕ) (accesses : List Access) → set_up_verdict c server ≡ accepted → Told (run (set_up c server).unit accesses)
