-- A read that is done gives what its register shows (`done-read`), and is done at each register or at none (`any-register`, `first-register`); the bits
-- that the registers show (`waiting-bit`, `refused-bit`, `overrun-bit`), and the line by them: `line-seen`.
use mathlib.Core.Path.{◌≡◌, refl, sym}
use mathlib.Core.Bool.{Bool, true, false, ◌&&◌}
use mathlib.Core.List.{List}
use Prim.Native.Nat.{ℕ, ◌+◌, ◌≤◌}
use native.Mathlib.Omega.{arith}
use lib.ListN.{length}
use Rattle.answer_unit.specs.declared.AnswerUnit.{AnswerUnit}
use Rattle.answer_unit.specs.Unit.{bit, weigh, waits}
use Rattle.answer_unit.specs.Registers.{shown, access_verdict, read_by, read_register, line}
use Rattle.answer_unit.proofs.Chains.{access-passed, access-accepted}
use Rattle.answer_unit.proofs.Steps.{read-by}
use Rattle.unit_laws.specs.Claims.{LineSeen}
use Rattle.refusal.specs.Verdicts.{accepted}

waiting-of : (w r o : Bool) → bit 1 (weigh w 1 + weigh r 2 + weigh o 4) ≡ w
waiting-of true true true = refl
waiting-of true true false = refl
waiting-of true false true = refl
waiting-of true false false = refl
waiting-of false true true = refl
waiting-of false true false = refl
waiting-of false false true = refl
waiting-of false false false = refl

refused-of : (w r o : Bool) → bit 2 (weigh w 1 + weigh r 2 + weigh o 4) ≡ r
refused-of true true true = refl
refused-of true true false = refl
refused-of true false true = refl
refused-of true false false = refl
refused-of false true true = refl
refused-of false true false = refl
refused-of false false true = refl
refused-of false false false = refl

overrun-of : (w r o : Bool) → bit 4 (weigh w 1 + weigh r 2 + weigh o 4) ≡ o
overrun-of true true true = refl
overrun-of true true false = refl
overrun-of true false true = refl
overrun-of true false false = refl
overrun-of false true true = refl
overrun-of false true false = refl
overrun-of false false true = refl
overrun-of false false false = refl

flag-of : (f : Bool) → bit 1 (weigh f 1) ≡ f
flag-of true = refl
flag-of false = refl

enable-of : (e : Bool) → bit 2 (weigh e 2) ≡ e
enable-of true = refl
enable-of false = refl

-- accessible at one register, accessible at all
other-register : (u : AnswerUnit) (register other stored : ℕ) → other ≤ 5 → access_verdict u register stored ≡ accepted
    → access_verdict u other stored ≡ accepted
other-register u register other stored known done =
    let a = access-passed u register stored done in
    access-accepted u other stored (record {
      known = known;
      set-up = a.set-up;
      store_long = a.store_long;
      held_fits = a.held_fits;
      waiting-fits = a.waiting-fits;
    })

pub first-register : (u : AnswerUnit) (register stored : ℕ) → access_verdict u register stored ≡ accepted → access_verdict u 0 stored ≡ accepted
first-register u register stored = other-register u register 0 stored (omega arith)

module _ (u : AnswerUnit) (store : List ℕ) (done : access_verdict u 0 (length store) ≡ accepted) where
  pub any-register : (register : ℕ) → register ≤ 5 → access_verdict u register (length store) ≡ accepted
  any-register register known = other-register u 0 register (length store) known done

  pub done-read : (register : ℕ) → register ≤ 5 → read_register u register store ≡ read_by u register accepted
  done-read register known = read-by u register store accepted (sym (any-register register known))

  pub waiting-bit : bit 1 (read_register u 1 store).byte ≡ waits u
  unfolding shown
  waiting-bit = rw (done-read 1 (omega arith)) (waiting-of (waits u) u.refused u.overrun)

  pub refused-bit : bit 2 (read_register u 1 store).byte ≡ u.refused
  unfolding shown
  refused-bit = rw (done-read 1 (omega arith)) (refused-of (waits u) u.refused u.overrun)

  pub overrun-bit : bit 4 (read_register u 1 store).byte ≡ u.overrun
  unfolding shown
  overrun-bit = rw (done-read 1 (omega arith)) (overrun-of (waits u) u.refused u.overrun)

  pub number_read : (read_register u 4 store).byte ≡ u.refusal
  unfolding shown
  number_read = rw (done-read 4 (omega arith))

  pub flag-read : (read_register u 5 store).byte ≡ weigh u.flag 1
  unfolding shown
  flag-read = rw (done-read 5 (omega arith))

  enable-read : (read_register u 0 store).byte ≡ weigh u.enable 2
  unfolding shown
  enable-read = rw (done-read 0 (omega arith))

  pub line-is : line u ≡ (bit 1 (read_register u 5 store).byte && bit 2 (read_register u 0 store).byte)
  line-is = rw (flag-read, enable-read, flag-of u.flag, enable-of u.enable)

pub line-seen : LineSeen
line-seen = line-is
