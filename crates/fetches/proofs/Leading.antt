-- Good marks and meters are reached (`reached`), place by place: queries are issued, on the opening day, to the server where the first mark is set, as
-- many as its meter says, and its answer is taken where the second is.
use mathlib.Core.Path.{◌≡◌, refl, sym, ap, ◌∙◌}
use mathlib.Core.Bool.{Bool, true, false}
use mathlib.Core.List.{List, [], ◌∷◌}
use Prim.Native.Nat.{ℕ, zero, suc, ◌+◌, ◌*◌, ◌≤◌, ◌<◌}
use native.Mathlib.Nat.{suc-mul, zero-mul}
use native.Mathlib.Omega.{arith}
use borrow.Author.Tests.{ltb-true}
use lib.ListN.{length, set, replicate, length-replicate}
use Rattle.lists.specs.Parts.{put}
use Rattle.lists.proofs.Every.{every-at}
use Rattle.parameters.specs.Measures.{most_servers}
use Rattle.scheme.specs.Scheme.{Scheme, Valid}
use Rattle.scheme.specs.Laws.{Laws}
use Rattle.refusal.specs.Verdicts.{accepted}
use Rattle.catalogue.specs.declared.Catalogue.{Catalogue}
use Rattle.catalogue.specs.Catalogue.{Admitted}
use Rattle.catalogue.proofs.Season.{opening-served}
use Rattle.session.specs.declared.Session.{Session}
use Rattle.session_parts.specs.declared.Meters.{Meters}
use Rattle.session_parts.specs.Marks.{no_marks, marked, mark_good, marks_good}
use Rattle.session_parts.specs.Meters.{most_bytes, no_meters, counted, count_issued, count_taken, sent_good, got_good}
use Rattle.session_checks.specs.Checks.{answer_bytes}
use Rattle.session.specs.Calls.{slots_of}
use Rattle.session_parts.proofs.Metering.{none-sent, none-got, one-got, further, whole-queries, meters-at}
use Rattle.session.proofs.Issue.{issue-by, issue-accepted}
use Rattle.session.proofs.Take.{Takes, take_by_lem, take-accepted}
use Rattle.fetches.specs.Fetches.{Call, issuing, taking, State, make, ended}
use Rattle.fetches.specs.Past.{Past, nothing}
use Rattle.fetches.specs.Reached.{Reached, Holds, HistoryGood}
use Rattle.fetches.proofs.Filling.{Filled, Filling, filled_none, arrive, leave, issue-fills, take-fills, filled-all}
use Rattle.fetches.proofs.Kept.{session_of, state_of, Kept}
use Rattle.fetches.proofs.Steps.{kept-query, sound, issue-kept, take-kept}
use Rattle.fetches.proofs.Theorem.{kept-first, begun}

module _ (scheme_of : Catalogue → Scheme) (c : Catalogue) (admitted : Admitted c) (laws : Laws c.servers c.messages (scheme_of c))
    (wanted : ℕ) (inside : wanted < c.messages) (key : List ℕ) (valid : Valid (scheme_of c) key) (issued taken : List Bool) (meters : Meters) where
  -- some calls lead from here to the marks and meters
  abbrev Leads : State → Type 0
  Leads at = (calls : List Call) × ((ended scheme_of at calls).session ≡ session_of c wanted key issued taken meters)

  call-leads : {at other : State} (call : Call) → (make scheme_of at call).after ≡ other → Leads other → Leads at
  call-leads {at} {other} call e way =
      (call ∷ way.0, ap (λ (after : State). (ended scheme_of after way.0).session) e ∙ way.1)

  abbrev size : ℕ
  size = (scheme_of c).sizes.query

  abbrev due : ℕ → ℕ
  due i = answer_bytes scheme_of c wanted key i

  -- what holds before place i, with an answer buffer of N slots
  record Before (i : ℕ) (past : Past) (first second : List Bool) (m : Meters) (answers : List ℕ) : Type 0 where
    kept : Kept scheme_of c wanted key (slots_of scheme_of c) past first second m answers
    filled : Filled issued taken meters i first second m

  -- and while place i has the marks x and y and the meters a and b
  record At (i : ℕ) (past : Past) (first second : List Bool) (m : Meters) (answers : List ℕ) (x y : Bool) (a b : ℕ) : Type 0 where
    kept : Kept scheme_of c wanted key (slots_of scheme_of c) past first second m answers
    filling : Filling issued taken meters i first second m x y a b

  -- a query to the server
  module _ (i : ℕ) (below : i < c.servers) (past : Past) (first second : List Bool) (m : Meters) (answers : List ℕ) (x y : Bool) (a b : ℕ)
      (at : At i past first second m answers x y a b) where
    abbrev s : Session
    s = session_of c wanted key first second m

    abbrev query : List ℕ
    query = replicate (scheme_of c).sizes.query 0

    module _ (fits : a + size ≤ most_bytes) where
      counts : counted m.sent i + size ≤ most_bytes
      counts = let e = at.filling.sent-here in omega (arith, e, fits)

      issue-after : (make scheme_of (state_of c wanted key first second m answers) (issuing i c.opening query c.opening [])).after
          ≡ state_of c wanted key (set first i true) second (count_issued m i size) answers
      issue-after = rw (issue-by scheme_of s c.opening i query accepted (sym (issue-accepted scheme_of s c.opening i (length query) (record {
        sound = sound scheme_of c admitted laws wanted inside key valid (slots_of scheme_of c) past first second m answers at.kept;
        served = opening-served c admitted;
        below = below;
        roomy = let l = length-replicate {A = ℕ} (scheme_of c).sizes.query 0 in omega arith;
        counts = counts;
      }))))

      issue-at : At i (record { issued = i ∷ past.issued; taken = past.taken }) (set first i true) second (count_issued m i size) answers true y (a + size) b
      issue-at = record {
        kept = issue-kept scheme_of c admitted laws wanted inside key valid (slots_of scheme_of c) past first second m answers at.kept i below counts;
        filling = issue-fills issued taken meters i first second m x y a b size at.filling
            (omega (arith, at.kept.marks.issued-long, laws.servers-fit, below)) (omega (arith, at.kept.sent-long, laws.servers-fit, below));
      }

    -- and the answer
    abbrev answer : List ℕ
    answer = replicate (due i) 0

    abbrev kept-answers : List ℕ
    kept-answers = put (i * (scheme_of c).sizes.slot) answer answers

    module _ (asked : x ≡ true) (new : y ≡ false) where
      takes : Takes scheme_of s i (length answer) (length answers)
      takes = record {
        sound = sound scheme_of c admitted laws wanted inside key valid (slots_of scheme_of c) past first second m answers at.kept;
        below = below;
        roomy = let l = at.kept.room-kept in omega arith;
        sized = length-replicate {A = ℕ} (due i) 0
            ∙ ap (scheme_of c).answer_length (sym (kept-query scheme_of c admitted laws wanted inside key valid first second m i));
        was-issued = at.filling.first-here ∙ asked;
        not_taken = at.filling.second-here ∙ new;
      }

      take_after : (make scheme_of (state_of c wanted key first second m answers) (taking i answer)).after
          ≡ state_of c wanted key first (set second i true) (count_taken m i (length answer)) kept-answers
      take_after = rw (take_by_lem scheme_of s i answer answers accepted (sym (take-accepted scheme_of s i (length answer) (length answers) takes)))

      take_at : At i (record { issued = past.issued; taken = i ∷ past.taken }) first (set second i true) (count_taken m i (length answer)) kept-answers
          x true a (b + length answer)
      take_at = record {
        kept = take-kept scheme_of c admitted laws wanted inside key valid (slots_of scheme_of c) past first second m answers at.kept i answer takes;
        filling = take-fills issued taken meters i first second m x y a b (length answer) at.filling
            (omega (arith, at.kept.marks.taken-long, laws.servers-fit, below)) (omega (arith, at.kept.got-long, laws.servers-fit, below));
      }

  -- as many further queries as make up a meter
  issues-lead : (i : ℕ) → i < c.servers → (second : List Bool) (answers : List ℕ) (y : Bool) (total b : ℕ) → total ≤ most_bytes
      → ((past : Past) (first : List Bool) (m : Meters) → At i past first second m answers true y total b → Leads (state_of c wanted key first second m answers))
      → (count a : ℕ) → a + count * size ≡ total → (past : Past) (first : List Bool) (m : Meters) → At i past first second m answers true y a b
      → Leads (state_of c wanted key first second m answers)
  issues-lead i below second answers y total b fits onward zero a e past first m at =
      let same : a ≡ total = omega (arith, e, zero-mul size) in
      onward past first m (rw same at at)
  issues-lead i below second answers y total b fits onward (suc count) a e past first m at =
      let more : a + size + count * size ≡ total = omega (arith, e, suc-mul count size) in
      let room : a + size ≤ most_bytes = omega (arith, more, fits) in
      call-leads (issuing i c.opening _ c.opening []) (issue-after i below past first second m answers true y a b at room)
      (issues-lead i below second answers y total b fits onward count (a + size) more _ _ _
      (issue-at i below past first second m answers true y a b at room))

  module _ (holds : Holds issued taken meters) (good : HistoryGood scheme_of c wanted key issued taken meters) where
    place-good : (i : ℕ) → i < most_servers → mark_good c.servers i (marked issued i) (marked taken i) ≡ true
    unfolding marks_good
    place-good = every-at most_servers (λ place. mark_good c.servers place (marked issued place) (marked taken place)) good.marks

    -- from one place to the next
    module _ (i : ℕ) (here : i < most_servers) (past : Past) (first second : List Bool) (m : Meters) (answers : List ℕ)
        (b : Before i past first second m answers)
        (onward : (past' : Past) (first' second' : List Bool) (m' : Meters) (answers' : List ℕ) → Before (suc i) past' first' second' m' answers'
        → Leads (state_of c wanted key first' second' m' answers')) where
      abbrev whole : ℕ
      whole = counted meters.sent i

      abbrev had : ℕ
      had = counted meters.got i

      -- queries are issued, and then comes what comes
      asked : i < c.servers → sent_good size true whole ≡ true
          → ((past' : Past) (first' : List Bool) (m' : Meters) → At i past' first' second m' answers true false whole 0
          → Leads (state_of c wanted key first' second m' answers))
          → Leads (state_of c wanted key first second m answers)
      asked below g then =
          let parts : whole ≡ suc (further size whole) * size = whole-queries size whole g in
          let sum : 0 + size + further size whole * size ≡ whole = omega (arith, parts, suc-mul (further size whole) size) in
          let room : 0 + size ≤ most_bytes = omega (arith, sum, holds.sent-fits i) in
          let at : At i past first second m answers false false 0 0 =
          record { kept = b.kept; filling = arrive issued taken meters i first second m b.filled } in
          call-leads (issuing i c.opening _ c.opening []) (issue-after i below past first second m answers false false 0 0 at room)
          (issues-lead i below second answers false whole 0 (holds.sent-fits i) then (further size whole) (0 + size) sum _ _ _
          (issue-at i below past first second m answers false false 0 0 at room))

      place-leads : (x y : Bool) → marked issued i ≡ x → marked taken i ≡ y → mark_good c.servers i x y ≡ true → sent_good size x whole ≡ true
          → got_good (due i) y had ≡ true → Leads (state_of c wanted key first second m answers)
      place-leads true true f g mark sent got =
          let below = ltb-true i c.servers mark in
          asked below sent
          (λ past' first' m' at.
          let after = take_at i below past' first' second m' answers true false whole 0 at refl refl in
          call-leads (taking i _) (take_after i below past' first' second m' answers true false whole 0 at refl refl)
          (onward _ _ _ _ _ (record {
            kept = after.kept;
            filled = leave issued taken meters i _ _ _ true true whole _ after.filling f g refl
                (let e = one-got (due i) had got in let l = length-replicate {A = ℕ} (due i) 0 in omega (arith, e, l));
          })))
      place-leads true false f g mark sent got =
          asked (ltb-true i c.servers mark) sent
          (λ past' first' m' at. onward _ _ _ _ _ (record {
            kept = at.kept;
            filled = leave issued taken meters i _ _ _ true false whole 0 at.filling f g refl (none-got (due i) had got);
          }))
      place-leads false true f g mark sent got = absurd (let z : ◌≡◌ {A = ℕ} 0 1 = cc in let w : ⊥ = omega arith in w)
      place-leads false false f g mark sent got =
          onward past first second m answers (record {
            kept = b.kept;
            filled = leave issued taken meters i first second m false false 0 0 (arrive issued taken meters i first second m b.filled) f g
                (none-sent size whole sent) (none-got (due i) had got);
          })

    leads : (count i : ℕ) → i + count ≡ most_servers → (past : Past) (first second : List Bool) (m : Meters) (answers : List ℕ)
        → Before i past first second m answers → Leads (state_of c wanted key first second m answers)
    leads zero i e past first second m answers b =
        let l = holds.issued-long in
        let l' = holds.taken-long in
        let l'' = holds.sent-long in
        let l''' = holds.got-long in
        let w = filled-all issued taken meters i first second m b.filled (b.kept.marks.issued-long ∙ sym l) (omega arith)
        (b.kept.marks.taken-long ∙ sym l') (omega arith) (b.kept.sent-long ∙ sym l'') (omega arith) (b.kept.got-long ∙ sym l''') (omega arith) in
        ([], rw (w.marks-issued, w.marks-taken, w.all-meters))
    leads (suc count) i e past first second m answers b =
        let h : i < most_servers = omega arith in
        let g = meters-at size due issued taken meters good.metered i h in
        place-leads i h past first second m answers b
        (λ past' first' second' m' answers' b'. leads count (suc i) (omega arith) past' first' second' m' answers' b')
        (marked issued i) (marked taken i) refl refl (place-good i h) g.sent g.got

    pub reached : Reached scheme_of c wanted key issued taken meters
    reached =
        let answers : List ℕ = replicate (slots_of scheme_of c) 0 in
        let room : length answers ≡ slots_of scheme_of c = length-replicate {A = ℕ} (slots_of scheme_of c) 0 in
        let way = leads most_servers 0 refl nothing no_marks no_marks no_meters answers (record {
          kept = rw room at (kept-first scheme_of c wanted key answers);
          filled = filled_none issued taken meters;
        }) in
        record {
          fetch = record { wanted = wanted; key = key; answers = answers; calls = way.0 };
          its-message = refl;
          its-key = refl;
          its-session = rw (begun scheme_of c admitted laws wanted inside key valid) way.1;
        }
