-- The faults of a session's fields, as a verdict of their own (`server-passed`, `served-passed`, `session-passed`: what it says of fields that it
-- accepts; `session-accepted`: which it accepts).
use mathlib.Core.Path.{◌≡◌, ap}
use mathlib.Core.Bool.{true, not}
use mathlib.Core.List.{List}
use Prim.Native.Nat.{ℕ, ◌<◌}
use borrow.Author.Tests.{leb-false, lt-leb, not-false}
use Rattle.refusal.specs.Verdicts.{accepted}
use Rattle.refusal.specs.Foremost.{foremost}
use Rattle.refusal.proofs.Accepted.{NoneThere}
use Rattle.scheme.specs.Scheme.{Scheme}
use Rattle.calendar.specs.declared.Day.{Day}
use Rattle.catalogue.specs.declared.Catalogue.{Catalogue}
use Rattle.catalogue.specs.Catalogue.{Admitted}
use Rattle.catalogue.specs.Days.{Served}
use Rattle.catalogue.proofs.Faults.{call-passed, call-accepted, day-passed}
use Rattle.session_checks.specs.Checks.{used_places, session_faults, named_faults, server_faults, served_faults}

module _ (scheme_of : Catalogue → Scheme) (c : Catalogue) (wanted : ℕ) (places : List ℕ) where
  pub record Holds : Type 0 where
    pub admitted : Admitted c
    pub inside : wanted < c.messages
    pub good : (scheme_of c).key_good (used_places scheme_of c places) ≡ true

  pub session-passed : foremost (session_faults scheme_of c wanted places) ≡ accepted → Holds
  session-passed e =
      let p = call-passed c _ e in
      record { admitted = p.0; inside = leb-false c.messages wanted p.1.0; good = not-false _ p.1.1.0 }

  pub session-accepted : Holds → foremost (session_faults scheme_of c wanted places) ≡ accepted
  session-accepted h = call-accepted c _ h.admitted (lt-leb c.messages wanted h.inside, (ap not h.good, tt))

  -- and the server is there
  pub record Asks (server : ℕ) : Type 0 where
    pub holds : Holds
    pub below : server < c.servers

  named-passed : (server : ℕ) → Admitted c → NoneThere (named_faults scheme_of c wanted places server) → Asks server
  named-passed server a n = record {
    holds = record { admitted = a; inside = leb-false c.messages wanted n.1.0; good = not-false _ n.1.1.0 };
    below = leb-false c.servers server n.0;
  }

  pub server-passed : (server : ℕ) → foremost (server_faults scheme_of c wanted places server) ≡ accepted → Asks server
  server-passed server e = let p = call-passed c _ e in named-passed server p.0 p.1

  -- and the catalogue is served that day
  pub served-passed : (day : Day) (server : ℕ) → foremost (served_faults scheme_of c day wanted places server) ≡ accepted → Asks server × Served c day
  served-passed day server e = let p = day-passed c day _ e in (named-passed server p.0 p.2, p.1)
