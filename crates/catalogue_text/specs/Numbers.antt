-- The numbers that reading and writing catalogue text can give (document 01, 'Numbers a call can give'), for every input.
use Rattle.std.specs.Prelude.{List, [], ◌∷◌, ◌++◌, ℕ}
use Rattle.refusal.specs.Verdicts.{Outcome}
use Rattle.refusal.specs.Within.{Within, ValueWithin}
use Rattle.catalogue.specs.declared.Catalogue.{Catalogue}
use Rattle.catalogue.specs.Catalogue.{catalogue_numbers}
use Rattle.catalogue_text.specs.Parsing.{catalogue_lines, lines_of, read_of}
use Rattle.catalogue_text.specs.Writing.{Wrote}

pub record TextNumbers : Type 0 where
  pub reads : (text : List ℕ) → Within (1 ∷ catalogue_numbers) (read_of text).verdict
  pub lines : (text : List ℕ) → Within (1 ∷ catalogue_numbers) (lines_of text).verdict
  -- in any bounds
  pub in-form : (text : List ℕ) → Within (1 ∷ []) (catalogue_lines text).verdict
  pub writes : (c : Catalogue) (buffer after : List ℕ) (outcome : Outcome)
      → Wrote c buffer outcome after → ValueWithin (catalogue_numbers ++ (9 ∷ [])) outcome
