-- Answering, over the code of each catalogue: the whole result, and the final bytes of the answer's buffer, for every input
-- (document 01, 'Numbers a call can give'; the day: document 02, item 1).
use Rattle.std.specs.Prelude.{◌≡◌, not, List, [], ◌∷◌, ◌++◌, ℕ, leb, ltb, eqb, length, take, Ok, Err}
use Rattle.lists.specs.Parts.{put}
use Rattle.refusal.specs.Verdicts.{Verdict, Outcome}
use Rattle.refusal.specs.Foremost.{Fault, fault, foremost}
use Rattle.scheme.specs.Scheme.{Scheme}
use Rattle.calendar.specs.declared.Day.{Day}
use Rattle.catalogue.specs.declared.Catalogue.{Catalogue}
use Rattle.catalogue.specs.Catalogue.{catalogue_faults}
use Rattle.catalogue.specs.Days.{day_faults}

-- What answering returns, the answer's length unless it is refused, and the buffer as it leaves it
pub record Answered : Type 0 where
  pub outcome : Outcome
  pub buffer : List ℕ

-- the bytes that answering wrote: as many as it returns, from the start of the buffer; refused, none
abbrev pub written_by : Outcome → List ℕ → List ℕ
written_by (Ok size) buffer = take size buffer
written_by (Err refusal) buffer = []

-- A call of the code did what the definition says: its result, and the final bytes of the buffer
pub record DidAnswer (answered : Answered) (result : Outcome) (after : List ℕ) : Type 0 where
  pub outcome : result ≡ answered.outcome
  pub buffer : after ≡ answered.buffer

module _ (scheme_of : Catalogue → Scheme) where
  -- answer_faults c day server stored query room: from the lengths of the store and of the buffer. No room is too little for an empty answer
  abbrev pub answer_faults : Catalogue → Day → ℕ → ℕ → List ℕ → ℕ → List Fault
  answer_faults c day server stored query room =
      catalogue_faults c
      ++ (day_faults c day
      ++ (fault 3 (leb c.servers server)
      ∷ fault 7 (not ((scheme_of c).admits server query))
      ∷ fault 8 (not (eqb stored (scheme_of c).sizes.store))
      ∷ fault 9 (ltb room ((scheme_of c).answer_length query))
      ∷ []))

  unfoldable pub answer_verdict : Catalogue → Day → ℕ → ℕ → List ℕ → ℕ → Verdict
  answer_verdict c day server stored query room = foremost (answer_faults c day server stored query room)

  abbrev pub answer_by : Catalogue → List ℕ → List ℕ → List ℕ → Verdict → Answered
  answer_by c store query buffer (Ok _) = record {
    outcome = Ok ((scheme_of c).answer_length query);
    buffer = put 0 ((scheme_of c).answer store query) buffer;
  }
  answer_by c store query buffer (Err refusal) = record { outcome = Err refusal; buffer = buffer }

  -- answering c day server store query buffer
  unfoldable pub answering : Catalogue → Day → ℕ → List ℕ → List ℕ → List ℕ → Answered
  answering c day server store query buffer = answer_by c store query buffer (answer_verdict c day server (length store) query (length buffer))
