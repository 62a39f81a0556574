-- What holds of every call of a fetch, in any state: a refused call changes nothing (`all-unchanged`), and answering leaves nothing changed but what it
-- writes (`all-answers-left`). It rests on what session and server say of one call.
use mathlib.Core.Path.{◌≡◌, refl}
use mathlib.Core.List.{List, [], ◌∷◌}
use Prim.Native.Nat.{ℕ}
use lib.ListN.{take}
use Rattle.scheme.specs.Scheme.{Scheme}
use Rattle.scheme.specs.Laws.{Laws}
use Rattle.catalogue.specs.declared.Catalogue.{Catalogue}
use Rattle.server.proofs.Laws.{writes-only}
use Rattle.session.proofs.Issue.{issue-goes}
use Rattle.session.proofs.Take.{take-goes}
use Rattle.session.proofs.Recover.{recover-goes}
use Rattle.fetches.specs.Fetches.{Call, issuing, taking, recovering, State, Made, make, run}
use Rattle.fetches.specs.Past.{Past, since, Throughout, end, step}
use Rattle.fetches.specs.Right.{Unchanged, AnswerLeft}

-- a call, and the rest
pub now-holds : {P : Past → Made → Type 0} {past : Past} {made : Made} {rest : List Made} → Throughout P past (made ∷ rest) → P past made
now-holds (step p ps) = p

pub then-holds : {P : Past → Made → Type 0} {past : Past} {made : Made} {rest : List Made} → Throughout P past (made ∷ rest)
    → Throughout P (since past made) rest
then-holds (step p ps) = ps

module _ (scheme_of : Catalogue → Scheme) where
  -- from one state as from an equal one
  pub from-state : {P : Past → Made → Type 0} {past : Past} {at other : State} (calls : List Call) → at ≡ other
      → Throughout P past (run scheme_of other calls) → Throughout P past (run scheme_of at calls)
  from-state {P} {past} {at} {other} calls e t = rw e t

  -- what holds of any call holds throughout
  always : {P : Past → Made → Type 0} → ((past : Past) (at : State) (call : Call) → P past (make scheme_of at call))
      → (calls : List Call) (past : Past) (at : State) → Throughout P past (run scheme_of at calls)
  always p [] past at = end
  always p (call ∷ calls) past at = step (p past at call) (always p calls (since past (make scheme_of at call)) (make scheme_of at call).after)

  unchanged : (past : Past) (at : State) (call : Call) → Unchanged past (make scheme_of at call)
  unchanged past at (issuing server day query answer_day answer) refusal e =
      let q = (issue-goes scheme_of at.session day server query).unchanged refusal e in rw q (refl, refl)
  unchanged past at (taking server answer) refusal e =
      let q = (take-goes scheme_of at.session server answer at.answers).unchanged refusal e in rw q (refl, refl)
  unchanged past at (recovering message) refusal e = let q = (recover-goes scheme_of at.session at.answers message).unchanged refusal e in rw q (refl, refl)

  pub all-unchanged : (calls : List Call) (past : Past) (at : State) → Throughout Unchanged past (run scheme_of at calls)
  all-unchanged = always unchanged

  pub all-answers-left : (c : Catalogue) → Laws c.servers c.messages (scheme_of c) → (store : List ℕ) (calls : List Call) (past : Past) (at : State)
      → Throughout (AnswerLeft scheme_of c store) past (run scheme_of at calls)
  all-answers-left c laws store =
      always (λ past at call server day answer_day query answer e f.
      writes-only scheme_of c laws answer_day server store (take (scheme_of c).sizes.query (make scheme_of at call).left) answer)
