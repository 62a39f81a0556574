-- Catalogues that differ at most in their sums, dates and lengths have the same keys, queries, admission and answers' lengths (`same-queries`), and with
-- the same sum the same scheme, so that what a server stores, is asked and answers does not depend on dates, nor on where messages end (`same-scheme`).
-- Such a catalogue of exclusive or is admitted wherever one with the same dates and lengths is (`admitted-without`). Each code, over any two sums
-- (`any_sum`).
use mathlib.Core.Path.{◌≡◌, refl, sym, ◌∙◌}
use Prim.Native.Nat.{ℕ}
use Rattle.symbol.specs.Sum.{Sum}
use Rattle.symbol.specs.Operations.{sum_of}
use Rattle.symbol.specs.declared.Operation.TheVariants.{ExclusiveOr}
use Rattle.symbol.proofs.Operations.{not-added}
use Rattle.catalogue.specs.declared.Code.{Code}
use Rattle.catalogue.specs.declared.Code.TheVariants.{Short, Even, Turn, Round}
use Rattle.catalogue.specs.declared.Catalogue.{Catalogue}
use Rattle.catalogue.specs.Catalogue.{Admitted, sizes_of}
use Rattle.catalogue.proofs.Verdicts.{admitted-exactly}
use Rattle.codes.specs.Codes.{scheme_by, scheme_of}
use Rattle.codes.specs.Alike.{SameQueries, SameNumbers}

any_sum : (code : Code) (one other : Sum) (N K S : ℕ) → SameQueries (scheme_by code one N K S) (scheme_by code other N K S)
any_sum Short one other N K S = record {
  sizes = refl;
  keys = λ key. refl;
  queries = λ wanted server key. refl;
  admission = λ server query. refl;
  lengths = λ query. refl;
}
any_sum Even one other N K S = record {
  sizes = refl;
  keys = λ key. refl;
  queries = λ wanted server key. refl;
  admission = λ server query. refl;
  lengths = λ query. refl;
}
any_sum Turn one other N K S = record {
  sizes = refl;
  keys = λ key. refl;
  queries = λ wanted server key. refl;
  admission = λ server query. refl;
  lengths = λ query. refl;
}
any_sum Round one other N K S = record {
  sizes = refl;
  keys = λ key. refl;
  queries = λ wanted server key. refl;
  admission = λ server query. refl;
  lengths = λ query. refl;
}

pub same-queries : (c d : Catalogue) → SameNumbers c d → SameQueries (scheme_of c) (scheme_of d)
unfolding scheme_of
same-queries c d same =
    rw (same.code, same.servers, same.messages, same.symbol)
    (any_sum d.code (sum_of c.sum) (sum_of d.sum) d.servers d.messages d.symbol)

pub same-scheme : (c d : Catalogue) → SameNumbers c d → c.sum ≡ d.sum → scheme_of c ≡ scheme_of d
unfolding scheme_of
same-scheme c d same sum = rw (same.code, same.servers, same.messages, same.symbol, sum)

pub admitted-without : (c d : Catalogue) → SameNumbers c d → c.opening ≡ d.opening → c.closing ≡ d.closing → c.lengths ≡ d.lengths
    → d.sum ≡ ExclusiveOr → Admitted c → Admitted d
unfolding sizes_of
admitted-without c d same opens closes ends without admitted =
    let in-numbers = (admitted-exactly c).0 admitted in
    (admitted-exactly d).1 (
      rw (← same.code, ← same.servers, ← same.messages, ← same.symbol, ← opens, ← closes, ← ends) in-numbers.0,
      rw (← same.messages) in-numbers.1,
      λ added. not-added (sym without ∙ added),
    )
