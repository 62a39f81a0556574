-- What inner functions compute: the checks of what is asked for that need no code, and the query's length that they give.
use Rattle.std.specs.Prelude.{ℕ, Bool, not, List, [], ◌∷◌, ◌++◌, leb, eqb, Ok, Err}
use Rattle.refusal.specs.Verdicts.{Verdict, Outcome}
use Rattle.refusal.specs.Foremost.{Fault, fault, foremost}
use Rattle.scheme.specs.Scheme.{Scheme}
use Rattle.catalogue.specs.declared.Catalogue.{Catalogue}
use Rattle.catalogue.specs.Catalogue.{catalogue_faults}

-- key_faults messages wanted due count bytes; a number above 255 is no key's
abbrev pub key_faults : ℕ → ℕ → ℕ → ℕ → Bool → List Fault
key_faults messages wanted due count bytes = fault 4 (leb messages wanted) ∷ fault 5 (not (eqb count due)) ∷ fault 6 (not bytes) ∷ []

module _ (scheme_of : Catalogue → Scheme) where
  abbrev pub check_faults : Catalogue → ℕ → ℕ → Bool → List Fault
  check_faults c wanted count bytes = catalogue_faults c ++ key_faults c.messages wanted (scheme_of c).sizes.key count bytes

  unfoldable pub check_verdict : Catalogue → ℕ → ℕ → Bool → Verdict
  check_verdict c wanted count bytes = foremost (check_faults c wanted count bytes)

abbrev pub value_by : Verdict → ℕ → Outcome
value_by (Ok _) value = Ok value
value_by (Err refusal) value = Err refusal
