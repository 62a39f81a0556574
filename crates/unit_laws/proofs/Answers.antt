-- Answering for a catalogue that the unit takes: it is served on any day (`undated-served`), an answer is S bytes or none (`short-length`, `outcome_fits`),
-- the buffer keeps its length (`kept-length`), and neither the day nor the buffer matters as long as there is room for an answer (`same_answer`).
use mathlib.Core.Path.{◌≡◌, refl, sym, ◌∙◌}
use mathlib.Core.Bool.{Bool, true, false, cond}
use mathlib.Core.Logic.{◌⊎◌, inl, inr, ⊎_elim}
use mathlib.Core.List.{List}
use Prim.Native.Nat.{ℕ, ◌+◌, ◌≤◌}
use native.Mathlib.Omega.{arith}
use lib.ListN.{length}
use borrow.Author.Tests.{le-ltb}
use Rattle.lists.proofs.Puts.{put-length}
use Rattle.calendar.specs.declared.Day.{Day}
use Rattle.std.specs.Prelude.{Ok, Err}
use Rattle.refusal.specs.Verdicts.{accepted, Verdict, Outcome}
use Rattle.catalogue.specs.declared.Catalogue.{Catalogue}
use Rattle.catalogue.specs.Catalogue.{Admitted}
use Rattle.catalogue.specs.Days.{Served}
use Rattle.catalogue.proofs.Faults.{day-chain}
use Rattle.short_scheme.specs.Short.{all_zero, short_answer_length}
use Rattle.codes.specs.Codes.{scheme_of}
use Rattle.codes.proofs.Promises.{promises, scheme-short}
use Rattle.server.specs.Answering.{Answered, written_by, answer_verdict, answering}
use Rattle.server.proofs.Laws.{answer-passed, answer-by, writes-answer}
use Rattle.answer_unit.specs.Registers.{unit_takes}
use Rattle.answer_unit.proofs.Chains.{unit-takes}

-- an outcome is a refusal, or the length of an empty answer or of one symbol
abbrev pub Fits : ℕ → Outcome → Type 0
Fits S (Ok size) = (size ≡ 0) ⊎ (size ≡ S)
Fits S (Err refusal) = Unit {0}

-- two calls gave the same
pub record Same (a b : Answered) : Type 0 where
  pub outcome : a.outcome ≡ b.outcome
  pub written : written_by a.outcome a.buffer ≡ written_by b.outcome b.buffer

module _ (c : Catalogue) (takes : unit_takes c ≡ true) where
  pub undated-served : (day : Day) → Served c day
  undated-served day = day-chain c day ∙ rw (unit-takes c takes).no-dates

  pub short-length : (query : List ℕ) → ((scheme_of c).answer_length query ≡ 0) ⊎ ((scheme_of c).answer_length query ≡ c.symbol)
  unfolding short_answer_length
  short-length query = rw (scheme-short c (unit-takes c takes).short) (go (all_zero query))
    where
      go : (zeros : Bool) → (cond zeros 0 c.symbol ≡ 0) ⊎ (cond zeros 0 c.symbol ≡ c.symbol)
      go true = inl refl
      go false = inr refl

  pub length-small : (query : List ℕ) → (scheme_of c).answer_length query ≤ c.symbol
  length-small query = ⊎_elim (λ e. let w : (scheme_of c).answer_length query ≤ c.symbol = omega (arith, e) in w)
      (λ e. let w : (scheme_of c).answer_length query ≤ c.symbol = omega (arith, e) in w) (short-length query)

  same-verdict : (server stored : ℕ) (query : List ℕ) (day other : Day) (room least : ℕ) → c.symbol ≤ room → c.symbol ≤ least
      → answer_verdict scheme_of c day server stored query room ≡ answer_verdict scheme_of c other server stored query least
  unfolding answer_verdict
  same-verdict server stored query day other room least r l =
      let small = length-small query in
      let a : (scheme_of c).answer_length query ≤ room = omega (arith, small, r) in
      let b : (scheme_of c).answer_length query ≤ least = omega (arith, small, l) in
      rw (
        (unit-takes c takes).no-dates,
        le-ltb room ((scheme_of c).answer_length query) a,
        le-ltb least ((scheme_of c).answer_length query) b,
      )

  module _ (admitted : Admitted c) (server : ℕ) (store query : List ℕ) where
    pub outcome_fits : (day : Day) (buffer : List ℕ) → Fits c.symbol (answering scheme_of c day server store query buffer).outcome
    outcome_fits day buffer = go (answer_verdict scheme_of c day server (length store) query (length buffer)) refl
      where
        go : (v : Verdict) → v ≡ answer_verdict scheme_of c day server (length store) query (length buffer)
            → Fits c.symbol (answering scheme_of c day server store query buffer).outcome
        go (Ok _) e = rw (answer-by scheme_of c day server store query buffer accepted e) (short-length query)
        go (Err refusal) e = rw (answer-by scheme_of c day server store query buffer (Err refusal) e) tt

    pub kept-length : (day : Day) (buffer : List ℕ) → length (answering scheme_of c day server store query buffer).buffer ≡ length buffer
    kept-length day buffer = go (answer_verdict scheme_of c day server (length store) query (length buffer)) refl
      where
        go : (v : Verdict) → v ≡ answer_verdict scheme_of c day server (length store) query (length buffer)
            → length (answering scheme_of c day server store query buffer).buffer ≡ length buffer
        go (Ok _) e =
            let a = answer-passed scheme_of c day server (length store) query (length buffer) (sym e) in
            let long = (promises c admitted).answer-length server store query a.store_long a.admits in
            let room : 0 + length ((scheme_of c).answer store query) ≤ length buffer = omega (arith, long, a.roomy) in
            rw (answer-by scheme_of c day server store query buffer accepted e) (put-length 0 ((scheme_of c).answer store query) buffer room)
        go (Err refusal) e = rw (answer-by scheme_of c day server store query buffer (Err refusal) e)

    pub same_answer : (day other : Day) (buffer least : List ℕ) → c.symbol ≤ length buffer → c.symbol ≤ length least
        → Same (answering scheme_of c day server store query buffer) (answering scheme_of c other server store query least)
    same_answer day other buffer least r l =
        go (answer_verdict scheme_of c day server (length store) query (length buffer)) refl
        (same-verdict server (length store) query day other (length buffer) (length least) r l)
      where
        go : (v : Verdict) → v ≡ answer_verdict scheme_of c day server (length store) query (length buffer)
            → answer_verdict scheme_of c day server (length store) query (length buffer)
            ≡ answer_verdict scheme_of c other server (length store) query (length least)
            → Same (answering scheme_of c day server store query buffer) (answering scheme_of c other server store query least)
        go (Ok _) e f = record {
          outcome = rw (
            answer-by scheme_of c day server store query buffer accepted e,
            answer-by scheme_of c other server store query least accepted (e ∙ f),
          );
          written =
              writes-answer scheme_of c (promises c admitted) day server store query buffer (sym e)
              ∙ sym (writes-answer scheme_of c (promises c admitted) other server store query least (sym (e ∙ f)));
        }
        go (Err refusal) e f =
            rw (
              answer-by scheme_of c day server store query buffer (Err refusal) e,
              answer-by scheme_of c other server store query least (Err refusal) (e ∙ f),
            ) (record { outcome = refl; written = refl })
