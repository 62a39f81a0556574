-- The numbers that answering can give (document 01, 'Numbers a call can give'): only those about its own inputs, for every input. `answer-numbers`
-- shows it.
use Rattle.std.specs.Prelude.{List, [], ◌∷◌, ◌++◌, ℕ}
use Rattle.refusal.specs.Within.{ValueWithin}
use Rattle.scheme.specs.Scheme.{Scheme}
use Rattle.calendar.specs.declared.Day.{Day}
use Rattle.catalogue.specs.declared.Catalogue.{Catalogue}
use Rattle.catalogue.specs.Catalogue.{catalogue_numbers}
use Rattle.catalogue.specs.Days.{day_numbers}
use Rattle.server.specs.Answering.{answering}

abbrev pub answer_numbers : List ℕ
answer_numbers = catalogue_numbers ++ (day_numbers ++ (3 ∷ 7 ∷ 8 ∷ 9 ∷ []))

abbrev pub AnswerNumbers : (Catalogue → Scheme) → Type 0
AnswerNumbers scheme_of = (c : Catalogue) (day : Day) (server : ℕ) (store query buffer : List ℕ)
    → ValueWithin answer_numbers (answering scheme_of c day server store query buffer).outcome
