-- The numbers that each call of a session can give (document 01, 'Numbers a call can give'; document 02): only those about its own inputs, for every input.
-- `call-numbers` shows it.
use Rattle.std.specs.Prelude.{List, [], ◌∷◌, ◌++◌, ℕ}
use Rattle.refusal.specs.Within.{Within, ValueWithin}
use Rattle.scheme.specs.Scheme.{Scheme}
use Rattle.calendar.specs.declared.Day.{Day}
use Rattle.catalogue.specs.declared.Catalogue.{Catalogue}
use Rattle.catalogue.specs.Catalogue.{catalogue_numbers}
use Rattle.catalogue.specs.Days.{day_numbers}
use Rattle.session.specs.declared.Session.{Session}
use Rattle.session.specs.Calls.{begin, issue, take_answer, recover, bound}

pub record CallNumbers (scheme_of : Catalogue → Scheme) : Type 0 where
  pub begins : (c : Catalogue) (wanted : ℕ) (key : List ℕ) → Within (catalogue_numbers ++ (4 ∷ 5 ∷ 6 ∷ [])) (begin scheme_of c wanted key).verdict
  pub issues : (s : Session) (day : Day) (server : ℕ) (buffer : List ℕ)
      → Within (catalogue_numbers ++ (day_numbers ++ (3 ∷ 4 ∷ 6 ∷ 9 ∷ 11 ∷ 16 ∷ []))) (issue scheme_of s day server buffer).handed.verdict
  pub takes : (s : Session) (server : ℕ) (answer buffer : List ℕ)
      → Within (catalogue_numbers ++ (3 ∷ 4 ∷ 6 ∷ 9 ∷ 10 ∷ 11 ∷ [])) (take_answer scheme_of s server answer buffer).handed.verdict
  pub recovers : (s : Session) (answers buffer : List ℕ)
      → Within (catalogue_numbers ++ (4 ∷ 6 ∷ 9 ∷ 11 ∷ 12 ∷ [])) (recover scheme_of s answers buffer).handed.verdict
  pub bounds : (c : Catalogue) → ValueWithin catalogue_numbers (bound scheme_of c)
