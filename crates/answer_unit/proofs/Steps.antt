-- Steps of the proofs: a unit of which no byte waits is not changed by a read (`none-taken`), a bit's place is no more than its weight (`weigh-small`),
-- the last register (`the-fifth`), a start without an overrun ends by what answering gave (`ended_so`), and set-up, reads and writes go by their
-- verdicts (`set-up-by`, `read-by`, `write-by`).
use mathlib.Core.Path.{◌≡◌, refl, sym, ap, ◌∙◌}
use mathlib.Core.Bool.{Bool, true, false}
use mathlib.Core.List.{List}
use Prim.Native.Nat.{ℕ, ◌-◌, ◌≤◌}
use native.Mathlib.Omega.{arith}
use lib.ListN.{length}
use Rattle.calendar.specs.declared.Day.{Day}
use Rattle.calendar.specs.Calendar.{no_day}
use Rattle.std.specs.Prelude.{Ok, Err}
use Rattle.refusal.specs.Verdicts.{Verdict, Outcome}
use Rattle.catalogue.specs.declared.Catalogue.{Catalogue}
use Rattle.codes.specs.Codes.{scheme_of}
use Rattle.server.specs.Answering.{DidAnswer, answering}
use Rattle.answer_unit.specs.declared.AnswerUnit.{AnswerUnit}
use Rattle.answer_unit.specs.Unit.{weigh, asked, with_answer}
use Rattle.answer_unit.specs.Registers.{advance, ended_by, answer_of, set_up_verdict, set_up_by, set_up, access_verdict, read_by, read_register, write_by}
use Rattle.answer_unit.specs.Registers.{write_register}

pub weigh-small : (there : Bool) (weight : ℕ) → weigh there weight ≤ weight
weigh-small true weight = omega arith
weigh-small false weight = omega arith

pub none-taken : (u : AnswerUnit) → u.waiting ≤ 0 → u ≡ advance u
none-taken u e =
    let same : u.waiting ≡ u.waiting - 1 = omega (arith, e) in ap (λ (n : ℕ). with_answer u u.refused u.refusal n u.answer) same

past : (n : ℕ) → (n ≡ 0 → ⊥) → (n ≡ 1 → ⊥) → 2 ≤ n
past n a b = omega (arith, a, b)

from-two : (n : ℕ) → 2 ≤ n → (n ≡ 2 → ⊥) → (n ≡ 3 → ⊥) → 4 ≤ n
from-two n two c d = omega (arith, two, c, d)

pub the-fifth : (n : ℕ) → n ≤ 5 → (n ≡ 0 → ⊥) → (n ≡ 1 → ⊥) → (n ≡ 2 → ⊥) → (n ≡ 3 → ⊥) → (n ≡ 4 → ⊥) → n ≡ 5
the-fifth n most a b c d e =
    let two : 2 ≤ n = past n a b in
    let four : 4 ≤ n = from-two n two c d in
    omega (arith, most, four, e)

-- with other places for the answer, and then by an outcome
abbrev into : AnswerUnit → List ℕ → AnswerUnit
into u after = with_answer u u.refused u.refusal u.waiting after

ended-into : (u : AnswerUnit) (after : List ℕ) (outcome : Outcome) → ended_by (into u after) outcome after ≡ ended_by u outcome after
ended-into u after (Ok size) = refl
ended-into u after (Err refusal) = refl

pub ended_so : (u : AnswerUnit) (store : List ℕ) (day : Day) (result : Outcome) (after : List ℕ) → u.overrun ≡ false → day ≡ no_day
    → DidAnswer (answering scheme_of u.catalogue day u.server store (asked u) u.answer) result after
    → ended_by (into u after) result after ≡ answer_of u store
unfolding answer_of
ended_so u store day result after e d did = ended-into u after result ∙ rw (e, did.outcome, did.buffer, d)

pub set-up-by : (c : Catalogue) (server : ℕ) (v : Verdict) → v ≡ set_up_verdict c server → set_up c server ≡ set_up_by c server v
unfolding set_up
set-up-by c server v e = ap (set_up_by c server) (sym e)

module _ (u : AnswerUnit) (register : ℕ) where
  pub read-by : (store : List ℕ) (v : Verdict) → v ≡ access_verdict u register (length store) → read_register u register store ≡ read_by u register v
  unfolding read_register
  read-by store v e = ap (read_by u register) (sym e)

  pub write-by : (value : ℕ) (store : List ℕ) (v : Verdict) → v ≡ access_verdict u register (length store)
      → write_register u register value store ≡ write_by u register value store v
  unfolding write_register
  write-by value store v e = ap (write_by u register value store) (sym e)
