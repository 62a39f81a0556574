-- The outcome of a call from C by the verdict on the catalogue's text (`text-refused`, `text-answered`, `longest-given`), and that every length it
-- gives is small (`answer-small`).
use mathlib.Core.Path.{◌≡◌, refl, sym, ap, ◌∙◌}
use mathlib.Core.List.{List}
use Prim.Native.Nat.{ℕ, ◌^◌, ◌<◌}
use native.Mathlib.Omega.{arith}
use lib.ListN.{length}
use Rattle.std.specs.Prelude.{Ok, Err}
use Rattle.refusal.specs.Verdicts.{accepted, Verdict, Outcome}
use Rattle.refusal.specs.declared.Refusal.{Refusal}
use Rattle.calendar.specs.declared.Day.{Day}
use Rattle.catalogue.specs.declared.Catalogue.{Catalogue}
use Rattle.catalogue.specs.Catalogue.{Admitted}
use Rattle.catalogue.proofs.Admitted.{admitted-small}
use Rattle.catalogue_text.specs.declared.Reading.{Reading}
use Rattle.catalogue_text.specs.Parsing.{read_of}
use Rattle.catalogue_text.proofs.RoundTrip.{read-is-written}
use Rattle.codes.specs.Codes.{scheme_of}
use Rattle.codes.proofs.Promises.{promises, scheme-sizes}
use Rattle.server.specs.Answering.{Answered, DidAnswer, answer_verdict, answering}
use Rattle.server.proofs.Laws.{answer-passed, answer-by}
use Rattle.gozimpe.specs.Host.{answering_text, longest_answer}

-- ---- lengths

pub slot_small : (c : Catalogue) → Admitted c → (scheme_of c).sizes.slot < 2 ^ 32
slot_small c a = rw (scheme-sizes c) (admitted-small c a).slot

no_value : {A : Type 0} (refusal : Refusal) (size : ℕ) → Err refusal ≡ Ok size → A
no_value refusal size e = let z : ◌≡◌ {A = ℕ} 0 1 = cc in absurd (let w : ⊥ = omega arith in w)

same-value : (a b : ℕ) → ◌≡◌ {A = Outcome} (Ok a) (Ok b) → a ≡ b
same-value a b e = cc

-- the length that answering returns is at most a slot
pub answer-small : (c : Catalogue) (day : Day) (server : ℕ) (store query buffer : List ℕ) (outcome : Outcome) (size : ℕ)
    → outcome ≡ (answering scheme_of c day server store query buffer).outcome → outcome ≡ Ok size → size < 2 ^ 32
answer-small c day server store query buffer outcome size is e = go (answer_verdict scheme_of c day server (length store) query (length buffer)) refl
  where
    given : (x : Answered) → answering scheme_of c day server store query buffer ≡ x → x.outcome ≡ Ok size
    given x by = ap (λ (y : Answered). y.outcome) (sym by) ∙ sym is ∙ e

    go : (v : Verdict) → v ≡ answer_verdict scheme_of c day server (length store) query (length buffer) → size < 2 ^ 32
    go (Ok _) v =
        let a = answer-passed scheme_of c day server (length store) query (length buffer) (sym v) in
        let fits = (promises c a.admitted).answer-fits server query a.admits in
        let whole : (scheme_of c).answer_length query ≡ size =
        same-value ((scheme_of c).answer_length query) size (given _ (answer-by scheme_of c day server store query buffer accepted v)) in
        omega (arith, slot_small c a.admitted)
    go (Err refusal) v = no_value refusal size (given _ (answer-by scheme_of c day server store query buffer (Err refusal) v))

-- ---- by the verdict on the text, as it was read

module _ (text : List ℕ) (reading : Reading) (read : reading ≡ read_of text) where
  agrees : (v : Verdict) → reading.verdict ≡ v → (read_of text).verdict ≡ v
  agrees v e = ap (λ (r : Reading). r.verdict) (sym read) ∙ e

  pub read-admitted : reading.verdict ≡ accepted → Admitted reading.catalogue
  read-admitted e = rw read (read-is-written text (agrees accepted e)).0

  pub longest-refused : (refusal : Refusal) → reading.verdict ≡ Err refusal → longest_answer text ≡ Err refusal
  unfolding longest_answer
  longest-refused refusal e = rw (agrees (Err refusal) e)

  pub longest-given : reading.verdict ≡ accepted → longest_answer text ≡ Ok (scheme_of reading.catalogue).sizes.slot
  unfolding longest_answer
  longest-given e = rw (agrees accepted e, read)

  module _ (day : Day) (server : ℕ) (store query buffer : List ℕ) where
    -- refused, it leaves the buffer as it was
    pub text-refused : (refusal : Refusal) → reading.verdict ≡ Err refusal
        → DidAnswer (answering_text text day server store query buffer) (Err refusal) buffer
    unfolding answering_text
    text-refused refusal e = rw (agrees (Err refusal) e) (record { outcome = refl; buffer = refl })

    answers-text : reading.verdict ≡ accepted
        → answering_text text day server store query buffer ≡ answering scheme_of reading.catalogue day server store query buffer
    unfolding answering_text
    answers-text e = rw (agrees accepted e, read)

    -- else it does what the answering end does
    pub text-answered : reading.verdict ≡ accepted → (outcome : Outcome) (after : List ℕ)
        → DidAnswer (answering scheme_of reading.catalogue day server store query buffer) outcome after
        → DidAnswer (answering_text text day server store query buffer) outcome after
    text-answered e outcome after did = rw (answers-text e) did
