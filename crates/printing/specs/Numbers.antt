-- The numbers that the printer can print (document 01, 'Request printer' and 'Numbers a call can give'), for every input (`PrintNumbers`).
use Rattle.std.specs.Prelude.{◌≡◌, List, [], ◌∷◌, ◌++◌, ◌⊎◌, ℕ, Ok}
use Rattle.std.proofs.Math.Option.{some}
use Rattle.refusal.specs.declared.Refusal.{Refusal}
use Rattle.refusal.specs.Within.{OneOf}
use Rattle.scheme.specs.Scheme.{Scheme}
use Rattle.catalogue.specs.declared.Catalogue.{Catalogue}
use Rattle.catalogue.specs.Catalogue.{catalogue_numbers}
use Rattle.printing.specs.Input.{Asked, input_asks}
use Rattle.printing.specs.Output.{refusal_line, asked_verdict, query_lines, printed}

-- an input out of form, a catalogue's numbers, and those of begin
abbrev pub print_numbers : List ℕ
print_numbers = 1 ∷ (catalogue_numbers ++ (4 ∷ 5 ∷ 6 ∷ []))

module _ (scheme_of : Catalogue → Scheme) (input : List ℕ) where
  -- the queries that the input asks for are printed
  pub record QueriesPrinted : Type 0 where
    pub asked : Asked
    pub asks : input_asks input ≡ some asked
    pub accepted : asked_verdict scheme_of asked ≡ Ok tt
    pub output : printed scheme_of input ≡ query_lines scheme_of asked

  -- the line of a refusal is printed that has one of the numbers
  pub record RefusalPrinted (numbers : List ℕ) : Type 0 where
    pub refusal : Refusal
    pub number : OneOf numbers refusal
    pub output : printed scheme_of input ≡ refusal_line refusal

  abbrev pub PrintNumbers : Type 0
  PrintNumbers = QueriesPrinted ⊎ RefusalPrinted print_numbers
