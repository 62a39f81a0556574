-- One call of a fetch (`next`): catalogue, wanted message and key of its session stay, its marks and meters agree with the calls made (`Kept`), and the
-- slots of honest takes hold the honest answers (`Held`). It rests on what session and marks say of issue, take and recover.
use mathlib.Core.Path.{◌≡◌, refl, sym, ap, ◌∙◌}
use mathlib.Core.Bool.{Bool, true, false, ◌||◌}
use mathlib.Core.List.{List, ◌∷◌}
use Prim.Native.Nat.{ℕ, ◌+◌, ◌*◌, ◌≤◌, ◌<◌}
use native.Mathlib.Omega.{arith}
use borrow.Author.Tests.{eqb-true, eqb-false}
use lib.Dec.{eqb}
use lib.ListN.{length, set}
use Rattle.lists.specs.Distinct.{stands}
use Rattle.lists.specs.Parts.{cut, put}
use Rattle.scheme.specs.Scheme.{Scheme, Valid}
use Rattle.scheme.specs.Laws.{Laws}
use Rattle.calendar.specs.declared.Day.{Day}
use Rattle.std.specs.Prelude.{Err, Ok}
use Rattle.refusal.specs.Verdicts.{Verdict, accepted}
use Rattle.catalogue.specs.declared.Catalogue.{Catalogue}
use Rattle.catalogue.specs.Catalogue.{Admitted}
use Rattle.session.specs.declared.Session.{Session}
use Rattle.session_parts.specs.declared.Meters.{Meters}
use Rattle.session_parts.specs.Meters.{most_bytes, counted, count_issued, count_taken}
use Rattle.session.specs.Calls.{query_of, issue_verdict, take_verdict}
use Rattle.session_parts.proofs.Metering.{count_long, meters-good}
use Rattle.session_checks.specs.Checks.{answer_bytes, meters_fit}
use Rattle.session_parts.proofs.Marks.{marks-issue, marks-take}
use Rattle.session.proofs.Sound.{Sound}
use Rattle.session.proofs.Begin.{key-kept}
use Rattle.session.proofs.Issue.{issue-passed, issue-by}
use Rattle.session.proofs.Take.{Takes, take-passed, take_by_lem}
use Rattle.session.proofs.Recover.{recover-same}
use Rattle.session.proofs.Slots.{take-length, take-reads, take-others}
use Rattle.fetches.specs.Fetches.{Call, issuing, taking, recovering, State}
use Rattle.fetches.specs.Past.{Past}
use Rattle.fetches.specs.Right.{Honest}
use Rattle.fetches.proofs.Agree.{mark-agrees, sent-agrees, still-fits, got-agrees, sent-good, got-good}
use Rattle.fetches.proofs.Kept.{session_of, state_of, Kept, HeldAt, Held, Next}

module _ (scheme_of : Catalogue → Scheme) (c : Catalogue) (admitted : Admitted c) (laws : Laws c.servers c.messages (scheme_of c))
    (wanted : ℕ) (inside : wanted < c.messages) (key : List ℕ) (valid : Valid (scheme_of c) key) where
  pub kept-query : (issued taken : List Bool) (meters : Meters) (server : ℕ)
      → query_of scheme_of (session_of c wanted key issued taken meters) server ≡ (scheme_of c).query wanted server key
  kept-query issued taken meters server = ap ((scheme_of c).query wanted server) (key-kept scheme_of c wanted key valid.long)

  -- meters that agree with the calls made are good
  pub kept-meters : (room : ℕ) (past : Past) (issued taken : List Bool) (meters : Meters) (answers : List ℕ)
      → Kept scheme_of c wanted key room past issued taken meters answers → meters_fit scheme_of c wanted key issued taken meters ≡ true
  kept-meters room past issued taken meters answers k =
      meters-good (scheme_of c).sizes.query (answer_bytes scheme_of c wanted key) issued taken meters
      (λ place h. record {
        sent = rw (k.agree-issued place, k.agree-sent place) (sent-good (scheme_of c).sizes.query place past.issued);
        got = rw (k.agree place, k.agree-got place) (got-good (answer_bytes scheme_of c wanted key place) (stands place past.taken));
      })

  pub sound : (room : ℕ) (past : Past) (issued taken : List Bool) (meters : Meters) (answers : List ℕ)
      → Kept scheme_of c wanted key room past issued taken meters answers → Sound scheme_of (session_of c wanted key issued taken meters)
  sound room past issued taken meters answers k = record {
    admitted = admitted;
    inside = inside;
    good = rw (key-kept scheme_of c wanted key valid.long) valid.good;
    marks = k.marks.good;
    meters = rw (key-kept scheme_of c wanted key valid.long) (kept-meters room past issued taken meters answers k);
  }

  -- what is asked of a server, and the length of a slot
  abbrev query : ℕ → List ℕ
  query i = (scheme_of c).query wanted i key

  abbrev slot : ℕ
  slot = (scheme_of c).sizes.slot

  -- an honest answer fits its slot
  pub fits-slot : (i : ℕ) → i < c.servers → (scheme_of c).answer_length (query i) ≤ slot
  fits-slot i h = laws.answer-fits i (query i) (laws.query-admitted wanted i key inside h valid)

  module _ (room : ℕ) (past : Past) (issued taken : List Bool) (meters : Meters) (answers : List ℕ)
      (k : Kept scheme_of c wanted key room past issued taken meters answers) where
    abbrev s : Session
    s = session_of c wanted key issued taken meters

    abbrev at : State
    at = state_of c wanted key issued taken meters answers

    -- the bytes of a query
    abbrev size : ℕ
    size = (scheme_of c).sizes.query

    -- an issue that was not refused
    pub issue-kept : (server : ℕ) → server < c.servers → counted meters.sent server + size ≤ most_bytes
        → Kept scheme_of c wanted key room (record { issued = server ∷ past.issued; taken = past.taken }) (set issued server true) taken
        (count_issued meters server size) answers
    issue-kept server below counts =
        let inside-sent : server < length meters.sent = omega (arith, k.sent-long, laws.servers-fit) in
        record {
          marks = marks-issue c.servers issued taken k.marks server below laws.servers-fit;
          sent-long = count_long meters.sent server size ∙ k.sent-long;
          got-long = k.got-long;
          room-kept = k.room-kept;
          agree-issued = mark-agrees issued past.issued server k.agree-issued (omega (arith, k.marks.issued-long, laws.servers-fit));
          agree = k.agree;
          agree-sent = sent-agrees meters.sent past.issued size server k.agree-sent inside-sent;
          agree-got = k.agree-got;
          sent-fits = still-fits meters.sent size server k.sent-fits inside-sent counts;
          roomy = k.roomy;
        }

    next-issue : (server : ℕ) (day answer_day : Day) (buffer answer : List ℕ)
        → Next scheme_of c wanted key room past at (issuing server day buffer answer_day answer)
    next-issue server day answer_day buffer answer = go (issue_verdict scheme_of s day server (length buffer)) refl
      where
        go : (v : Verdict) → v ≡ issue_verdict scheme_of s day server (length buffer)
            → Next scheme_of c wanted key room past at (issuing server day buffer answer_day answer)
        go (Ok _) e =
            let done = issue-by scheme_of s day server buffer accepted e in
            let i = issue-passed scheme_of s day server (length buffer) (sym e) in
            record {
              issued = set issued server true;
              taken = taken;
              meters = count_issued meters server size;
              answers = answers;
              is = rw done;
              kept = rw done (issue-kept server i.below i.counts);
              held = rw done (λ store h honest. h);
            }
        go (Err refusal) e =
            let done = issue-by scheme_of s day server buffer (Err refusal) e in
            record { issued = issued; taken = taken; meters = meters; answers = answers; is = rw done; kept = rw done k; held = rw done (λ store h honest. h) }

    next-recover : (message : List ℕ) → Next scheme_of c wanted key room past at (recovering message)
    next-recover message = record {
      issued = issued;
      taken = taken;
      meters = meters;
      answers = answers;
      is = rw (recover-same scheme_of s answers message);
      kept = k;
      held = λ store h honest. h;
    }

    -- a take that was not refused
    module _ (server : ℕ) (answer : List ℕ) (t : Takes scheme_of s server (length answer) (length answers)) where
      abbrev after : List ℕ
      after = put (server * slot) answer answers

      fits : (scheme_of c).answer_length (query_of scheme_of s server) ≤ slot
      fits = rw (kept-query issued taken meters server) (fits-slot server t.below)

      -- the bytes of the answer that is due
      abbrev due : ℕ → ℕ
      due i = (scheme_of c).answer_length (query i)

      sized : length answer ≡ due server
      sized = t.sized ∙ ap (scheme_of c).answer_length (kept-query issued taken meters server)

      pub take-kept : Kept scheme_of c wanted key room (record { issued = past.issued; taken = server ∷ past.taken }) issued (set taken server true)
          (count_taken meters server (length answer)) after
      take-kept = record {
        sent-long = k.sent-long;
        got-long = count_long meters.got server (length answer) ∙ k.got-long;
        agree-sent = k.agree-sent;
        agree-got = rw sized
            (got-agrees meters.got past.taken due server k.agree-got (omega (arith, k.got-long, t.below, laws.servers-fit))
            (sym (k.agree server) ∙ t.not_taken));
        sent-fits = k.sent-fits;
        marks = marks-take c.servers issued taken k.marks server t.below laws.servers-fit t.was-issued;
        room-kept = take-length scheme_of s server answer answers t fits ∙ k.room-kept;
        agree-issued = k.agree-issued;
        agree = mark-agrees taken past.taken server k.agree (omega (arith, k.marks.taken-long, t.below, laws.servers-fit));
        roomy = λ i h. let e = k.room-kept in omega (arith, t.roomy);
      }

      pub take-held : (store : List ℕ) → Held scheme_of c store wanted key past answers → Honest scheme_of c store wanted key server answer
          → Held scheme_of c store wanted key (record { issued = past.issued; taken = server ∷ past.taken }) after
      unfolding stands
      take-held store held honest i h = go (eqb i server) refl
        where
          here : cut (server * slot) ((scheme_of c).answer_length (query server)) after ≡ (scheme_of c).answer store (query server)
          here =
              ap (λ (q : List ℕ). cut (server * slot) ((scheme_of c).answer_length q) after) (sym (kept-query issued taken meters server))
              ∙ take-reads scheme_of s server answer answers t fits
              ∙ honest.as-coded

          go : (b : Bool) → eqb i server ≡ b → (b || stands i past.taken) ≡ true → HeldAt scheme_of c store wanted key after i
          go true e p = record { store_long = honest.store_long; holds = rw (eqb-true i server e) here }
          go false e p =
              let w = held i h p in
              let apart = take-others scheme_of s server answer answers t fits i ((scheme_of c).answer_length (query i)) (eqb-false i server e) (fits-slot i h) in
              record { store_long = w.store_long; holds = apart ∙ w.holds }

    next-take : (server : ℕ) (answer : List ℕ) → Next scheme_of c wanted key room past at (taking server answer)
    next-take server answer = go (take_verdict scheme_of s server (length answer) (length answers)) refl
      where
        go : (v : Verdict) → v ≡ take_verdict scheme_of s server (length answer) (length answers) → Next scheme_of c wanted key room past at (taking server answer)
        go (Ok _) e =
            let by = take_by_lem scheme_of s server answer answers accepted e in
            let t = take-passed scheme_of s server (length answer) (length answers) (sym e) in
            record {
              issued = issued;
              taken = set taken server true;
              meters = count_taken meters server (length answer);
              answers = put (server * slot) answer answers;
              is = rw by;
              kept = rw by (take-kept server answer t);
              held = rw by (λ store h honest. take-held server answer t store h (honest server answer refl refl));
            }
        go (Err refusal) e =
            let by = take_by_lem scheme_of s server answer answers (Err refusal) e in
            record { issued = issued; taken = taken; meters = meters; answers = answers; is = rw by; kept = rw by k; held = rw by (λ store h honest. h) }

    pub next : (call : Call) → Next scheme_of c wanted key room past at call
    next (issuing server day buffer answer_day answer) = next-issue server day answer_day buffer answer
    next (taking server answer) = next-take server answer
    next (recovering message) = next-recover message
