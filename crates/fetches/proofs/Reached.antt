-- Some history gives marks and meters exactly if they are good (`marks-and-meters-by-history`): good ones are reached (`reached`), and every call of a fetch
-- keeps its marks and meters good (`next`).
use mathlib.Core.Path.{sym, subst}
use mathlib.Core.Bool.{Bool}
use mathlib.Core.List.{List, [], ◌∷◌}
use Prim.Native.Nat.{ℕ, ◌<◌}
use lib.ListN.{length}
use Rattle.scheme.specs.Scheme.{Scheme, Valid}
use Rattle.scheme.specs.Laws.{Laws}
use Rattle.catalogue.specs.declared.Catalogue.{Catalogue}
use Rattle.catalogue.specs.Catalogue.{Admitted}
use Rattle.session_parts.specs.declared.Meters.{Meters}
use Rattle.session_parts.specs.Marks.{no_marks}
use Rattle.session_parts.specs.Meters.{no_meters}
use Rattle.fetches.specs.Fetches.{Call, State, start, ended}
use Rattle.fetches.specs.Past.{Past, nothing}
use Rattle.fetches.specs.Claim.{Promises}
use Rattle.fetches.specs.Reached.{Reached, HistoryGood, MarksAndMetersByHistory}
use Rattle.fetches.proofs.Kept.{state_of, Kept}
use Rattle.fetches.proofs.Steps.{kept-meters, next}
use Rattle.fetches.proofs.Theorem.{kept-first, begun}
use Rattle.fetches.proofs.Leading.{reached}

-- the marks and meters at the end of a fetch are good
module _ (scheme_of : Catalogue → Scheme) (c : Catalogue) (admitted : Admitted c) (laws : Laws c.servers c.messages (scheme_of c))
    (wanted : ℕ) (inside : wanted < c.messages) (key : List ℕ) (valid : Valid (scheme_of c) key) where
  abbrev GoodAt : State → Type 0
  GoodAt at = HistoryGood scheme_of c wanted key at.session.issued at.session.taken at.session.meters

  good-after : (calls : List Call) (room : ℕ) (past : Past) (issued taken : List Bool) (meters : Meters) (answers : List ℕ)
      → Kept scheme_of c wanted key room past issued taken meters answers → GoodAt (ended scheme_of (state_of c wanted key issued taken meters answers) calls)
  good-after [] room past issued taken meters answers k = record {
    marks = k.marks.good;
    metered = kept-meters scheme_of c admitted laws wanted inside key valid room past issued taken meters answers k;
  }
  good-after (call ∷ calls) room past issued taken meters answers k =
      let x = next scheme_of c admitted laws wanted inside key valid room past issued taken meters answers k call in
      subst (λ (at : State). GoodAt (ended scheme_of at calls)) (sym x.is)
      (good-after calls room _ x.issued x.taken x.meters x.answers x.kept)

  good-if-reached : (issued taken : List Bool) (meters : Meters) → Reached scheme_of c wanted key issued taken meters
      → HistoryGood scheme_of c wanted key issued taken meters
  good-if-reached issued taken meters r =
      let good : GoodAt (ended scheme_of (start scheme_of c r.fetch) r.fetch.calls) =
      rw (r.its-message, r.its-key, begun scheme_of c admitted laws wanted inside key valid)
      (good-after r.fetch.calls (length r.fetch.answers) nothing no_marks no_marks no_meters r.fetch.answers
      (kept-first scheme_of c wanted key r.fetch.answers)) in
      rw r.its-session at good

pub marks-and-meters-by-history : (scheme_of : Catalogue → Scheme) → Promises scheme_of → MarksAndMetersByHistory scheme_of
marks-and-meters-by-history scheme_of promises c admitted wanted inside key valid issued taken meters holds = record {
  reached-if-good = reached scheme_of c admitted (promises c admitted) wanted inside key valid issued taken meters holds;
  good-if-reached = good-if-reached scheme_of c admitted (promises c admitted) wanted inside key valid issued taken meters;
}
