-- Reading out gives the bytes that wait, in order, and then stops (`read_out_lem`), and leaves a unit of which nothing waits: `emptied-so`.
use mathlib.Core.Path.{◌≡◌, refl, ap, ◌∙◌}
use mathlib.Core.List.{List, [], ◌∷◌}
use Prim.Native.Nat.{ℕ, zero, suc, ◌-◌, ◌≤◌, ◌<◌}
use native.Mathlib.Omega.{arith}
use lib.ListN.{length, get_or}
use lib.Seq.{drop-cons}
use borrow.Author.Tests.{lt-ltb, le-ltb}
use Rattle.lists.specs.Parts.{cut}
use Rattle.answer_unit.specs.declared.AnswerUnit.{AnswerUnit}
use Rattle.answer_unit.specs.Registers.{shown, advance, after_read, access_verdict}
use Rattle.unit_laws.specs.Runs.{read_out, emptied, Sound}
use Rattle.unit_laws.specs.Claims.{Keeps}
use Rattle.unit_laws.proofs.Seen.{done-read, waiting-bit}
use Rattle.unit_laws.proofs.Kept.{same, chained, advanced, answer-room, still-done}
use Rattle.refusal.specs.Verdicts.{accepted}

-- with nothing waiting nothing is read
none_out : (most : ℕ) (u : AnswerUnit) (store : List ℕ) → access_verdict u 0 (length store) ≡ accepted → u.waiting ≡ 0 → read_out most u store ≡ []
unfolding read_out
none_out zero u store done none = refl
none_out (suc most) u store done none =
    let few : u.waiting ≤ 0 = omega (arith, none) in rw (waiting-bit u store done, le-ltb 0 u.waiting few)

-- with bytes waiting the next is read, and then the others
next-out : (most : ℕ) (u : AnswerUnit) (store : List ℕ) → access_verdict u 0 (length store) ≡ accepted → 0 < u.waiting
    → read_out (suc most) u store ≡ get_or u.answer (u.catalogue.symbol - u.waiting) 0 ∷ read_out most (advance u) store
unfolding read_out shown after_read
next-out most u store done some =
    rw (waiting-bit u store done, done-read u store done 3 (omega arith), lt-ltb 0 u.waiting some)

-- one byte more of a part
longer : (bytes : List ℕ) (S j : ℕ) → suc j ≤ S → S ≤ length bytes
    → get_or bytes (S - suc j) 0 ∷ cut (S - j) j bytes ≡ cut (S - suc j) (suc j) bytes
longer bytes S j low high =
    let next : S - j ≡ suc (S - suc j) = omega (arith, low) in
    let inside : S - suc j < length bytes = omega (arith, low, high) in
    rw (drop-cons bytes (S - suc j) 0 inside, next)

-- the unit after one byte more is as accessible
still : (u : AnswerUnit) (store : List ℕ) → Sound u → access_verdict u 0 (length store) ≡ accepted → access_verdict (advance u) 0 (length store) ≡ accepted
still u store sound = still-done u (advance u) (length store) (advanced u sound)

pub read_out_lem : (most k : ℕ) (u : AnswerUnit) (store : List ℕ) → Sound u → access_verdict u 0 (length store) ≡ accepted
    → u.waiting ≡ k → k ≤ most → read_out most u store ≡ cut (u.catalogue.symbol - k) k u.answer
read_out_lem most zero u store sound done e low = none_out most u store done e
read_out_lem zero (suc j) u store sound done e low = absurd (let w : ⊥ = omega (arith, low) in w)
read_out_lem (suc most) (suc j) u store sound done e low =
    let some : 0 < u.waiting = omega (arith, e) in
    let left : u.waiting - 1 ≡ j = omega (arith, e) in
    let within : suc j ≤ u.catalogue.symbol = omega (arith, e, sound.waiting-fits) in
    let room = answer-room u (length store) sound.placed done in
    let fewer : j ≤ most = omega (arith, low) in
    let rest = read_out_lem most j (advance u) store (advanced u sound).sound (still u store sound done) left fewer in
    next-out most u store done some
    ∙ ap (λ (n : ℕ). get_or u.answer (u.catalogue.symbol - n) 0 ∷ read_out most (advance u) store) e
    ∙ ap (λ (l : List ℕ). get_or u.answer (u.catalogue.symbol - suc j) 0 ∷ l) rest
    ∙ longer u.answer u.catalogue.symbol j within room

-- ---- the unit after it

-- nothing waits any more, and nothing else has changed that a query needs
pub record Emptied (u v : AnswerUnit) : Type 0 where
  pub keeps : Keeps u v
  pub held : v.held ≡ u.held
  pub overrun : v.overrun ≡ u.overrun
  pub none-waits : v.waiting ≡ 0

none_left : (most : ℕ) (u : AnswerUnit) (store : List ℕ) → access_verdict u 0 (length store) ≡ accepted → u.waiting ≡ 0 → emptied most u store ≡ u
unfolding emptied
none_left zero u store done none = refl
none_left (suc most) u store done none =
    let few : u.waiting ≤ 0 = omega (arith, none) in rw (waiting-bit u store done, le-ltb 0 u.waiting few)

next-left : (most : ℕ) (u : AnswerUnit) (store : List ℕ) → access_verdict u 0 (length store) ≡ accepted → 0 < u.waiting
    → emptied (suc most) u store ≡ emptied most (advance u) store
unfolding emptied after_read
next-left most u store done some =
    rw (waiting-bit u store done, done-read u store done 3 (omega arith), lt-ltb 0 u.waiting some)

pub emptied-so : (most k : ℕ) (u : AnswerUnit) (store : List ℕ) → Sound u → access_verdict u 0 (length store) ≡ accepted
    → u.waiting ≡ k → k ≤ most → Emptied u (emptied most u store)
emptied-so most zero u store sound done e low =
    rw (none_left most u store done e) (record { keeps = same u sound; held = refl; overrun = refl; none-waits = e })
emptied-so zero (suc j) u store sound done e low = absurd (let w : ⊥ = omega (arith, low) in w)
emptied-so (suc most) (suc j) u store sound done e low =
    let some : 0 < u.waiting = omega (arith, e) in
    let left : u.waiting - 1 ≡ j = omega (arith, e) in
    let fewer : j ≤ most = omega (arith, low) in
    let rest = emptied-so most j (advance u) store (advanced u sound).sound (still u store sound done) left fewer in
    rw (next-left most u store done some) (record {
      keeps = chained u (advance u) (emptied most (advance u) store) (advanced u sound) rest.keeps;
      held = rest.held;
      overrun = rest.overrun;
      none-waits = rest.none-waits;
    })
