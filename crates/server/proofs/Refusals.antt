-- When each number of answering is given: the faults before it are not there, and its own is (`day-refused`, `server-refused`, `query-refused`,
-- `store-refused`, `room-refused`).
use mathlib.Core.Path.{◌≡◌, refl, sym}
use mathlib.Core.Bool.{true, false}
use mathlib.Core.List.{List}
use Prim.Native.Nat.{ℕ, ◌≤◌, ◌<◌}
use borrow.Author.Tests.{le-leb, lt-leb, lt-ltb, eq-eqb, ne_eqb}
use Rattle.std.specs.Prelude.{Err}
use Rattle.refusal.specs.Verdicts.{accepted}
use Rattle.refusal.specs.declared.Refusal.{Refusal}
use Rattle.refusal.specs.Chain.{refused}
use Rattle.scheme.specs.Scheme.{Scheme}
use Rattle.calendar.specs.declared.Day.{Day}
use Rattle.catalogue.specs.declared.Catalogue.{Catalogue}
use Rattle.catalogue.specs.Catalogue.{Admitted}
use Rattle.catalogue.specs.Days.{day_verdict, Served}
use Rattle.catalogue.proofs.Faults.{after-day}
use Rattle.server.specs.Answering.{answer_verdict}

module _ (scheme_of : Catalogue → Scheme) (c : Catalogue) (day : Day) (server stored : ℕ) (query : List ℕ) (room : ℕ) (admitted : Admitted c) where
  pub day-refused : (refusal : Refusal) → day_verdict c day ≡ Err refusal → Err refusal ≡ answer_verdict scheme_of c day server stored query room
  unfolding answer_verdict
  day-refused refusal e = after-day c day _ refl (Err refusal) _ admitted (sym e) refl

  module _ (served : Served c day) where
    pub server-refused : c.servers ≤ server → refused 3 ≡ answer_verdict scheme_of c day server stored query room
    unfolding answer_verdict
    server-refused unknown = after-day c day _ refl accepted _ admitted (sym served) (rw (le-leb c.servers server unknown))

    module _ (known : server < c.servers) where
      pub query-refused : (scheme_of c).admits server query ≡ false → refused 7 ≡ answer_verdict scheme_of c day server stored query room
      unfolding answer_verdict
      query-refused bad = after-day c day _ refl accepted _ admitted (sym served) (rw (lt-leb c.servers server known, bad))

      module _ (good : (scheme_of c).admits server query ≡ true) where
        pub store-refused : (stored ≡ (scheme_of c).sizes.store → ⊥) → refused 8 ≡ answer_verdict scheme_of c day server stored query room
        unfolding answer_verdict
        store-refused other =
            after-day c day _ refl accepted _ admitted (sym served)
            (rw (lt-leb c.servers server known, good, ne_eqb stored (scheme_of c).sizes.store other))

        pub room-refused : stored ≡ (scheme_of c).sizes.store → room < (scheme_of c).answer_length query
            → refused 9 ≡ answer_verdict scheme_of c day server stored query room
        unfolding answer_verdict
        room-refused whole little =
            after-day c day _ refl accepted _ admitted (sym served)
            (rw (
              lt-leb c.servers server known,
              good,
              eq-eqb stored (scheme_of c).sizes.store whole,
              lt-ltb room ((scheme_of c).answer_length query) little,
            ))
