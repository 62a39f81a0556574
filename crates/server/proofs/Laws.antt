-- Laws of answering: refused it changes nothing (`answer-refused`), done it writes the answer and returns its length (`answer-done`), what an
-- accepted verdict says (`answer-passed`), and the bytes that are written (`writes-answer`, `writes-only`).
use mathlib.Core.Path.{◌≡◌, refl, sym, ap}
use mathlib.Core.Bool.{true, not}
use mathlib.Core.List.{List}
use Prim.Native.Nat.{ℕ, ◌≤◌, ◌<◌}
use native.Mathlib.Omega.{arith}
use lib.ListN.{length, take, drop}
use lib.Seq.{take_at}
use borrow.Author.Tests.{leb-false, lt-leb, ltb-false, le-ltb, eqb-true, eq-eqb, not-false}
use Rattle.lists.specs.Parts.{put}
use Rattle.std.specs.Prelude.{Ok, Err}
use Rattle.refusal.specs.Verdicts.{Verdict, accepted}
use Rattle.refusal.specs.declared.Refusal.{Refusal}
use Rattle.scheme.specs.Scheme.{Scheme}
use Rattle.scheme.specs.Laws.{Laws}
use Rattle.calendar.specs.declared.Day.{Day}
use Rattle.catalogue.specs.declared.Catalogue.{Catalogue}
use Rattle.catalogue.specs.Catalogue.{Admitted}
use Rattle.catalogue.specs.Days.{Served}
use Rattle.catalogue.proofs.Faults.{day-passed, day-accepted}
use Rattle.server.specs.Answering.{Answered, DidAnswer, written_by, answer_verdict, answer_by, answering}

module _ (scheme_of : Catalogue → Scheme) where
  -- what an accepted verdict says
  pub record Answers (c : Catalogue) (day : Day) (server stored : ℕ) (query : List ℕ) (room : ℕ) : Type 0 where
    pub admitted : Admitted c
    pub served : Served c day
    pub below : server < c.servers
    pub admits : (scheme_of c).admits server query ≡ true
    pub store_long : stored ≡ (scheme_of c).sizes.store
    pub roomy : (scheme_of c).answer_length query ≤ room

  pub answer-passed : (c : Catalogue) (day : Day) (server stored : ℕ) (query : List ℕ) (room : ℕ)
      → answer_verdict scheme_of c day server stored query room ≡ accepted → Answers c day server stored query room
  unfolding answer_verdict
  answer-passed c day server stored query room e =
      let p = day-passed c day _ e in
      let n = p.2 in
      record {
        admitted = p.0;
        served = p.1;
        below = leb-false c.servers server n.0;
        admits = not-false _ n.1.0;
        store_long = eqb-true stored (scheme_of c).sizes.store (not-false _ n.1.1.0);
        roomy = ltb-false room ((scheme_of c).answer_length query) n.1.1.1.0;
      }

  pub answer-accepted : (c : Catalogue) (day : Day) (server stored : ℕ) (query : List ℕ) (room : ℕ)
      → Answers c day server stored query room → answer_verdict scheme_of c day server stored query room ≡ accepted
  unfolding answer_verdict
  answer-accepted c day server stored query room a =
      day-accepted c day _ a.admitted a.served (
        lt-leb c.servers server a.below,
        (
          ap not a.admits,
          (
            ap not (eq-eqb stored (scheme_of c).sizes.store a.store_long),
            (
              le-ltb room ((scheme_of c).answer_length query) a.roomy,
              tt,
            ),
          ),
        ),
      )

  -- an empty answer needs no room
  pub answer-empty : (c : Catalogue) (day : Day) (server stored : ℕ) (query : List ℕ) (room : ℕ) → (scheme_of c).answer_length query ≡ 0
      → answer_verdict scheme_of c day server stored query room ≡ answer_verdict scheme_of c day server stored query 0
  unfolding answer_verdict
  answer-empty c day server stored query room e = rw (e, le-ltb room 0 (omega arith))

  module _ (c : Catalogue) (day : Day) (server : ℕ) (store query buffer : List ℕ) where
    -- answering goes by its verdict
    pub answer-by : (v : Verdict) → v ≡ answer_verdict scheme_of c day server (length store) query (length buffer)
        → answering scheme_of c day server store query buffer ≡ answer_by scheme_of c store query buffer v
    unfolding answering
    answer-by v e = ap (answer_by scheme_of c store query buffer) (sym e)

    -- refused, it leaves the buffer as it was
    pub answer-refused : (v : Verdict) (refusal : Refusal) → v ≡ answer_verdict scheme_of c day server (length store) query (length buffer) → v ≡ Err refusal
        → DidAnswer (answering scheme_of c day server store query buffer) (Err refusal) buffer
    answer-refused v refusal e p = rw (answer-by v e, p) (record { outcome = refl; buffer = refl })

    pub answer-done : (v : Verdict) (size : ℕ) (after : List ℕ) → v ≡ answer_verdict scheme_of c day server (length store) query (length buffer) → v ≡ accepted
        → size ≡ (scheme_of c).answer_length query → after ≡ put 0 ((scheme_of c).answer store query) buffer
        → DidAnswer (answering scheme_of c day server store query buffer) (Ok size) after
    answer-done v size after e p q a = rw (answer-by v e, p, q) (record { outcome = refl; buffer = a })

  -- Of a code that keeps its promises: the bytes that answering wrote are the answer, and the rest of the buffer is as it was
  module _ (c : Catalogue) (laws : Laws c.servers c.messages (scheme_of c)) (day : Day) (server : ℕ) (store query buffer : List ℕ) where
    whole-answer : Answers c day server (length store) query (length buffer)
        → take ((scheme_of c).answer_length query) (put 0 ((scheme_of c).answer store query) buffer) ≡ (scheme_of c).answer store query
    whole-answer a = take_at ((scheme_of c).answer store query) (drop (length ((scheme_of c).answer store query)) buffer) ((scheme_of c).answer_length query)
        (laws.answer-length server store query a.store_long a.admits)

    abbrev did : Answered
    did = answering scheme_of c day server store query buffer

    pub writes-answer : answer_verdict scheme_of c day server (length store) query (length buffer) ≡ accepted
        → written_by did.outcome did.buffer ≡ (scheme_of c).answer store query
    writes-answer e =
        rw (answer-by c day server store query buffer accepted (sym e)) (whole-answer (answer-passed c day server (length store) query (length buffer) e))

    pub writes-only : did.buffer ≡ put 0 (written_by did.outcome did.buffer) buffer
    writes-only = go (answer_verdict scheme_of c day server (length store) query (length buffer)) refl
      where
        go : (v : Verdict) → v ≡ answer_verdict scheme_of c day server (length store) query (length buffer)
            → did.buffer ≡ put 0 (written_by did.outcome did.buffer) buffer
        go (Ok _) e =
            rw (answer-by c day server store query buffer accepted e, whole-answer (answer-passed c day server (length store) query (length buffer) (sym e)))
        go (Err refusal) e = rw (answer-by c day server store query buffer (Err refusal) e)
