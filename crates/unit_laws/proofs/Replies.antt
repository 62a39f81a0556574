-- A unit that is set up answers queries one after another as the answering end does: `queries-answered`. After each it is as ready as before (`ready-again`).
use mathlib.Core.Path.{◌≡◌, refl, sym, ap, ◌∙◌}
use mathlib.Core.Bool.{true, false}
use mathlib.Core.List.{List, [], ◌∷◌, map}
use Prim.Native.Nat.{ℕ, ◌≤◌}
use native.Mathlib.Omega.{arith}
use lib.ListN.{length}
use Rattle.calendar.specs.declared.Day.{Day}
use Rattle.refusal.specs.Verdicts.{accepted}
use Rattle.catalogue.specs.declared.Catalogue.{Catalogue}
use Rattle.codes.specs.Codes.{scheme_of}
use Rattle.server.specs.Answering.{answering}
use Rattle.answer_unit.specs.declared.AnswerUnit.{AnswerUnit}
use Rattle.answer_unit.specs.Unit.{bit, fresh}
use Rattle.answer_unit.specs.Registers.{access_verdict}
use Rattle.answer_unit.proofs.Chains.{unit-takes, set-up-passed, access-passed, access-accepted}
use Rattle.answer_unit.proofs.Steps.{set-up-by}
use Rattle.unit_laws.specs.Runs.{run, emptied, Reply, asking, reply_of, replies, Placed, Idle}
use Rattle.unit_laws.specs.Claims.{Keeps, reply_by, QueriesAnswered}
use Rattle.unit_laws.proofs.Kept.{sound-at, run-keeps, still-done, fresh-sound}
use Rattle.unit_laws.proofs.ReadOut.{emptied-so}
use Rattle.unit_laws.proofs.Whole.{same-call, query-answered, asking-empties}

alike : (n m : ℕ) (a b : List ℕ) → n ≡ m → a ≡ b → ◌≡◌ {A = Reply} (record { number = n; bytes = a }) (record { number = m; bytes = b })
alike n m a b e f = rw (e, f)

module _ (c : Catalogue) (server : ℕ) (store : List ℕ) (value : ℕ) (no-reset : bit 128 value ≡ false) (start-bit : bit 1 value ≡ true) where
  -- between two queries
  record Ready (u : AnswerUnit) : Type 0 where
    placed : Placed u
    idle : Idle u
    done : access_verdict u 0 (length store) ≡ accepted
    of-catalogue : u.catalogue ≡ c
    of-server : u.server ≡ server

  -- ---- one query

  module _ (u : AnswerUnit) (ready : Ready u) (query : List ℕ) where
    abbrev asked-unit : AnswerUnit
    asked-unit = run u (asking query value store)

    keeps : Keeps u asked-unit
    keeps = run-keeps u (asking query value store) (sound-at u 0 (length store) ready.placed ready.done)

    small : asked-unit.catalogue.symbol ≤ 64
    small =
        let s = set-up-passed u.catalogue u.server (access-passed u 0 (length store) ready.done).set-up in
        rw keeps.catalogue (unit-takes u.catalogue s.takes).small

    reply : (day : Day) (buffer : List ℕ) → c.symbol ≤ length buffer
        → reply_of asked-unit store ≡ reply_by (answering scheme_of c day server store query buffer)
    reply day buffer room =
        let wide : u.catalogue.symbol ≤ length buffer = rw ready.of-catalogue room in
        let shows = query-answered u query store value day buffer ready.placed ready.idle ready.done no-reset start-bit wide in
        alike _ _ _ _ shows.number (shows.answer 64 small)
        ∙ ap reply_by (same-call day store buffer ready.of-catalogue ready.of-server refl)

    ready-again : Ready (emptied 64 asked-unit store)
    ready-again =
        let done = still-done u asked-unit (length store) keeps ready.done in
        let few : asked-unit.waiting ≤ 64 = omega (arith, keeps.sound.waiting-fits, small) in
        let e = emptied-so 64 asked-unit.waiting asked-unit store keeps.sound done refl few in
        let none = asking-empties u query store value ready.placed ready.idle ready.done no-reset start-bit in
        record {
          placed = e.keeps.sound.placed;
          idle = record { none-held = e.held ∙ none.0; no-overrun = e.overrun ∙ none.1; none-waits = e.none-waits };
          done = still-done asked-unit (emptied 64 asked-unit store) (length store) e.keeps done;
          of-catalogue = e.keeps.catalogue ∙ keeps.catalogue ∙ ready.of-catalogue;
          of-server = e.keeps.server ∙ keeps.server ∙ ready.of-server;
        }

  -- ---- all of them

  all-replies : (day : Day) (buffer : List ℕ) → c.symbol ≤ length buffer → (queries : List (List ℕ)) (u : AnswerUnit) → Ready u
      → replies u value queries store ≡ map (λ query. reply_by (answering scheme_of c day server store query buffer)) queries
  unfolding replies
  all-replies day buffer room [] u ready = refl
  all-replies day buffer room (query ∷ queries) u ready =
      rw (
        reply u ready query day buffer room,
        all-replies day buffer room queries (emptied 64 (run u (asking query value store)) store) (ready-again u ready query),
      )

pub queries-answered : QueriesAnswered
unfolding fresh
queries-answered c server queries store value day buffer admitted long no-reset start-bit room =
    let sound = fresh-sound c server in
    rw (set-up-by c server accepted (sym admitted))
    (all-replies c server store value no-reset start-bit day buffer room queries (fresh c server) (record {
      placed = sound.placed;
      idle = record { none-held = refl; no-overrun = refl; none-waits = refl };
      done = access-accepted (fresh c server) 0 (length store) (record {
        known = let w : 0 ≤ 5 = omega arith in w;
        set-up = admitted;
        store_long = long;
        held_fits = sound.held_fits;
        waiting-fits = sound.waiting-fits;
      });
      of-catalogue = refl;
      of-server = refl;
    }))
