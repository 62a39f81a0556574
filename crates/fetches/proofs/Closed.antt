-- DEMAND 3, closed: the claim on whole lists of fetches for the codes of this library, with no hypothesis left but the demand's own
-- (`no-server-can-tell`); and beside it, for every admitted catalogue, the plain fetch, the marks and meters that histories give, the bound on received bytes,
-- the fetch whose issues come out of season, and that a server is shown nothing of lengths. The functions that the claim runs are those in the contracts of
-- `session` and `server`, at the scheme that each catalogue names.
use mathlib.Core.Path.{◌≡◌, refl, ap}
use mathlib.Core.List.{List, map}
use Prim.Native.Nat.{ℕ}
use lib.Dec.{eqb}
use Rattle.lists.specs.Sums.{keep}
use Rattle.catalogue.specs.declared.Catalogue.{Catalogue}
use Rattle.catalogue.specs.Catalogue.{Admitted}
use Rattle.codes.specs.Codes.{scheme_of}
use Rattle.codes.proofs.Promises.{promises}
use Rattle.codes.proofs.Messages.{messages-end}
use Rattle.session.proofs.Promised.{query-fits}
use Rattle.fetches.specs.Fetches.{Fetch}
use Rattle.fetches.specs.Shown.{Issue, issues_of, shown}
use Rattle.fetches.specs.Claim.{Claim, Demand3}
use Rattle.fetches.specs.Plain.{PlainFetches}
use Rattle.fetches.specs.Received.{Bounded}
use Rattle.fetches.specs.Reached.{MarksAndMetersByHistory}
use Rattle.fetches.specs.Unserved.{NothingRecovered}
use Rattle.fetches.specs.Unmeasured.{LengthsHidden}
use Rattle.fetches.proofs.Theorem.{demand3}
use Rattle.fetches.proofs.Served.{plain-fetch}
use Rattle.fetches.proofs.Received.{bound-holds}
use Rattle.fetches.proofs.Reached.{marks-and-meters-by-history}
use Rattle.fetches.proofs.Unserved.{nothing-recovered}
use Rattle.fetches.proofs.Unmeasured.{lengths-hidden}

pub no-server-can-tell : Demand3 scheme_of
no-server-can-tell = demand3 scheme_of promises

-- as document 01 has it: lists that make the same issues, to all servers, show each server the same
pub alike-if-all-issues-are : (c : Catalogue) (store : List ℕ) (n : ℕ) (fs gs : List Fetch) → Claim scheme_of c store n fs gs → issues_of fs ≡ issues_of gs
    → shown scheme_of c store n fs ≡ shown scheme_of c store n gs
alike-if-all-issues-are c store n fs gs claim same = claim.alike (ap (map (keep (λ (i : Issue). eqb i.server n))) same)

pub every-fetch-recovers : PlainFetches scheme_of
every-fetch-recovers = plain-fetch scheme_of promises (λ c a k inside. (messages-end c a k inside).1) query-fits

pub marks-and-meters-are-good-exactly-if-reached : MarksAndMetersByHistory scheme_of
marks-and-meters-are-good-exactly-if-reached = marks-and-meters-by-history scheme_of promises

pub the-bound-holds : (c : Catalogue) → Admitted c → Bounded scheme_of c
the-bound-holds = bound-holds scheme_of promises

pub out-of-season-nothing-is-recovered : NothingRecovered scheme_of
out-of-season-nothing-is-recovered = nothing-recovered scheme_of promises

pub lengths-are-not-shown : LengthsHidden scheme_of
unfolding scheme_of
lengths-are-not-shown = lengths-hidden scheme_of promises (λ c l. refl)
