-- The two calls of a correction (document 02, item 13): the whole result, and the final bytes of the store and of the saved answer, for every input.
use Rattle.std.specs.Prelude.{◌≡◌, Bool, not, ◌||◌, List, [], ◌∷◌, ◌++◌, ℕ, leb, eqb, length, Err, Ok}
use Rattle.refusal.specs.Verdicts.{Verdict, Outcome, accepted}
use Rattle.refusal.specs.Foremost.{Fault, fault, foremost}
use Rattle.catalogue.specs.declared.Catalogue.{Catalogue}
use Rattle.catalogue.specs.Catalogue.{catalogue_faults, catalogue_numbers}
use Rattle.codes.specs.Codes.{scheme_of}
use Rattle.correction.specs.declared.Edit.{Edit}
use Rattle.correction.specs.Correction.{corrected_store, corrected_answer}

-- the edit is of no byte of the store: its message is K or more, its symbol no symbol of a message, or its byte S or more
abbrev pub outside_of : ℕ → ℕ → ℕ → Edit → Bool
outside_of messages symbols size e = leb messages e.message || (leb symbols e.symbol || leb size e.byte)

abbrev pub outside : Catalogue → Edit → Bool
outside c e = outside_of c.messages (scheme_of c).sizes.symbols c.symbol e

-- correct_faults c server stored query edit saved: from the lengths of the store and of the saved answer. No day is given, so no season is tested
abbrev pub correct_faults : Catalogue → ℕ → ℕ → List ℕ → Edit → ℕ → List Fault
correct_faults c server stored query e saved =
    catalogue_faults c
    ++ (fault 3 (leb c.servers server)
    ∷ fault 7 (not ((scheme_of c).admits server query))
    ∷ fault 8 (not (eqb stored (scheme_of c).sizes.store))
    ∷ fault 19 (outside c e)
    ∷ fault 10 (not (eqb saved ((scheme_of c).answer_length query)))
    ∷ [])

-- the numbers of its faults
abbrev pub correct_numbers : List ℕ
correct_numbers = catalogue_numbers ++ (3 ∷ 7 ∷ 8 ∷ 19 ∷ 10 ∷ [])

unfoldable pub correct_verdict : Catalogue → ℕ → ℕ → List ℕ → Edit → ℕ → Verdict
correct_verdict c server stored query e saved = foremost (correct_faults c server stored query e saved)

-- the verdict of a call that gives a number where it is accepted
abbrev pub verdict_of : Outcome → Verdict
verdict_of (Ok _) = accepted
verdict_of (Err refusal) = Err refusal

-- what a correction returns, and the store and the saved answer as it leaves them
pub record Corrected : Type 0 where
  pub verdict : Verdict
  pub store : List ℕ
  pub answer : List ℕ

-- a call did what the definition says
pub record DidCorrect (corrected : Corrected) (result : Verdict) (stored saved : List ℕ) : Type 0 where
  pub verdict : result ≡ corrected.verdict
  pub store : stored ≡ corrected.store
  pub answer : saved ≡ corrected.answer

-- refused, both stay
abbrev pub correct_by : Catalogue → List ℕ → List ℕ → Edit → List ℕ → Verdict → Corrected
correct_by c store query e answer (Ok _) =
    record { verdict = accepted; store = corrected_store c e store; answer = corrected_answer c e store query answer }
correct_by c store query e answer (Err refusal) = record { verdict = Err refusal; store = store; answer = answer }

-- correcting c server store query edit answer
unfoldable pub correcting : Catalogue → ℕ → List ℕ → List ℕ → Edit → List ℕ → Corrected
correcting c server store query e answer = correct_by c store query e answer (correct_verdict c server (length store) query e (length answer))

-- the saved answer alone, with the store lent unchanged: what the whole correction returns and leaves of the answer
unfoldable pub correcting_answer : Catalogue → ℕ → List ℕ → List ℕ → Edit → List ℕ → Corrected
correcting_answer c server store query e answer =
    record { verdict = (correcting c server store query e answer).verdict; store = store; answer = (correcting c server store query e answer).answer }
