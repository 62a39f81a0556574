-- The plain fetch is right (`plain-fetch`): it shows each server its one query, and the honest answer that the server writes (`served`), and ends with
-- the wanted message (`plain-ends`).
use mathlib.Core.Path.{◌≡◌, refl, sym, ap, ◌∙◌}
use mathlib.Core.Bool.{Bool, true, false, cond}
use mathlib.Core.List.{List, [], ◌∷◌, ◌++◌, map}
use Prim.Native.Nat.{ℕ, zero, suc, ◌+◌, ◌*◌, ◌≤◌, ◌<◌}
use native.Mathlib.Nat.{zero-add}
use native.Mathlib.Omega.{arith}
use borrow.Author.Tests.{eqb-true, eqb-false, ne_eqb, le-ltb}
use lib.Dec.{eqb}
use lib.ListN.{length, take, replicate, length-replicate}
use lib.Seq.{take_all, length-take-le}
use Rattle.lists.specs.Ranges.{range}
use Rattle.lists.proofs.Cuts.{cut-length, slot-end}
use Rattle.scheme.specs.Scheme.{Scheme, Valid, message_of}
use Rattle.scheme.specs.Laws.{Laws}
use Rattle.calendar.specs.declared.Day.{Day}
use Rattle.std.specs.Prelude.{Ok}
use Rattle.refusal.specs.Verdicts.{accepted}
use Rattle.catalogue.specs.declared.Catalogue.{Catalogue}
use Rattle.catalogue.specs.Catalogue.{Admitted}
use Rattle.catalogue.specs.Days.{Served}
use Rattle.codes.specs.Messages.{message_length}
use Rattle.server.specs.Answering.{answer_verdict}
use Rattle.server.proofs.Laws.{answer-accepted, answer-by, writes-answer}
use Rattle.fetches.specs.Fetches.{Call, issuing, taking, recovering, history}
use Rattle.fetches.specs.Shown.{Shown, asked, issues, asking, shown_to}
use Rattle.fetches.specs.Claim.{Promises}
use Rattle.fetches.specs.Plain.{query_to, answer_of, plain_fetch, PlainFetches}
use Rattle.session_parts.specs.Meters.{most_bytes}
use Rattle.fetches.proofs.Seen.{verdict_on, sent_after, seen, seen_of}
use Rattle.fetches.proofs.Theorem.{fetch-shown}
use Rattle.fetches.proofs.Plain.{plain-ends}

-- takes and a recover are no issues
no-issues : (answer : ℕ → List ℕ) (message : List ℕ) (count from : ℕ)
    → issues (map (λ (server : ℕ). taking server (answer server)) (range from count) ++ (recovering message ∷ [])) ≡ []
unfolding range
no-issues answer message zero from = refl
no-issues answer message (suc count) from = no-issues answer message count (suc from)

-- issues to the servers from `from` on show server n one of them, if it is there
module _ (scheme_of : Catalogue → Scheme) (c : Catalogue) (store : List ℕ) (n : ℕ) (asked-for query answer : List ℕ) (day answer_day : ℕ → Day)
    (rest : List Call) (none : issues rest ≡ []) where
  abbrev issues_from : ℕ → ℕ → List Call
  issues_from from count = map (λ (server : ℕ). issuing server (day server) query (answer_day server) answer) (range from count) ++ rest

  abbrev shown_once : ℕ → Shown
  shown_once server = seen scheme_of c store n asked-for 0 (day server) (length query) (answer_day server) (length answer)

  -- the bytes issued to it after that
  abbrev after_once : ℕ → ℕ
  after_once server =
      sent_after (scheme_of c).sizes.query 0 (verdict_on c (scheme_of c).sizes.query 0 (day server) (length query))

  seen_none : (before count from : ℕ) → n < from
      → seen_of scheme_of c store n asked-for before (issues (issues_from from count)) ≡ []
  unfolding range
  seen_none before zero from h = rw none
  seen_none before (suc count) from h = rw (ne_eqb from n (λ q. omega arith)) (seen_none before count (suc from) (omega arith))

  pub seen-once : (count from : ℕ) → from ≤ n → n < from + count
      → seen_of scheme_of c store n asked-for 0 (issues (issues_from from count)) ≡ shown_once n ∷ []
  unfolding range
  seen-once zero from l u = absurd (let w : ⊥ = omega arith in w)
  seen-once (suc count) from l u = go (seen-once count (suc from)) (eqb from n) refl
    where
      go : (suc from ≤ n → n < suc from + count → seen_of scheme_of c store n asked-for 0 (issues (issues_from (suc from) count)) ≡ shown_once n ∷ [])
          → (t : Bool) → eqb from n ≡ t
          → cond t (shown_once from ∷ []) [] ++ seen_of scheme_of c store n asked-for (cond t (after_once from) 0) (issues (issues_from (suc from) count))
          ≡ shown_once n ∷ []
      go later true q =
          let e : from ≡ n = eqb-true from n q in
          rw (seen_none (after_once from) count (suc from) (omega arith)) (ap (λ (server : ℕ). shown_once server ∷ []) e)
      go later false q = let ne : (from ≡ n → ⊥) = eqb-false from n q in later (omega (arith, ne)) (omega (arith, ne))

module _ (scheme_of : Catalogue → Scheme) (c : Catalogue) (admitted : Admitted c) (laws : Laws c.servers c.messages (scheme_of c))
    (store : List ℕ) (long : length store ≡ (scheme_of c).sizes.store) (wanted : ℕ) (inside : wanted < c.messages)
    (key : List ℕ) (valid : Valid (scheme_of c) key) (n : ℕ) (below : n < c.servers) (small : (scheme_of c).sizes.query ≤ most_bytes) where
  abbrev query : List ℕ
  query = query_to scheme_of c store wanted key n

  abbrev answer : List ℕ
  answer = answer_of scheme_of c store wanted key n

  -- a server answers the query honestly, on a day in season
  pub honest : (day : Day) → Served c day → (buffer : List ℕ) → (scheme_of c).sizes.slot ≤ length buffer
      → asking scheme_of c store n query day buffer ≡ asked query (Ok (length answer)) answer
  honest day in-season buffer roomy =
      let admits = laws.query-admitted wanted n key inside below valid in
      let sized : length answer ≡ (scheme_of c).answer_length query = laws.answer-length n store query long admits in
      let agrees : answer_verdict scheme_of c day n (length store) query (length buffer) ≡ accepted =
      answer-accepted scheme_of c day n (length store) query (length buffer) (record {
        admitted = admitted;
        served = in-season;
        below = below;
        admits = admits;
        store_long = long;
        roomy = omega (arith, laws.answer-fits n query admits);
      }) in
      let by = answer-by scheme_of c day n store query buffer accepted (sym agrees) in
      let written = writes-answer scheme_of c laws day n store query buffer agrees in
      rw by
      (ap (asked query (Ok ((scheme_of c).answer_length query))) (rw by at written) ∙ ap (λ (size : ℕ). asked query (Ok size) answer) (sym sized))

  pub served : (day answer_day : ℕ → Day) → Served c (day n) → Served c (answer_day n)
      → (answers query_buffer answer_buffer message : List ℕ) → (scheme_of c).sizes.query ≤ length query_buffer
      → (scheme_of c).sizes.slot ≤ length answer_buffer
      → shown_to scheme_of c store n (history scheme_of c (plain_fetch scheme_of c store wanted key day answer_day answers query_buffer answer_buffer message))
      ≡ asked query (Ok (length answer)) answer ∷ []
  served day answer_day issued-in answered-in answers query_buffer answer_buffer message query-fits answer-fits =
      fetch-shown scheme_of c admitted laws store n below
      (plain_fetch scheme_of c store wanted key day answer_day answers query_buffer answer_buffer message) inside valid
      ∙ seen-once scheme_of c store n query query_buffer answer_buffer day answer_day _
      (no-issues (answer_of scheme_of c store wanted key) message c.servers 0) c.servers 0 (omega arith) (omega (arith, zero-add c.servers))
      ∙ ap (λ (s : Shown). s ∷ []) once
    where
      once : seen scheme_of c store n query 0 (day n) (length query_buffer) (answer_day n) (length answer_buffer) ≡ asked query (Ok (length answer)) answer
      once =
          rw (
            issued-in,
            le-ltb (length query_buffer) (scheme_of c).sizes.query query-fits,
            le-ltb most_bytes (0 + (scheme_of c).sizes.query) (let w : 0 + (scheme_of c).sizes.query ≤ most_bytes = omega (arith, small) in w),
            take_all (scheme_of c).sizes.query query (omega (arith, laws.query-length wanted n key inside below valid)),
          )
          (honest (answer_day n) answered-in (replicate (length answer_buffer) 0) (omega (arith, length-replicate {A = ℕ} (length answer_buffer) 0)))

-- no message is longer than its symbols
abbrev pub EndsWithin : (Catalogue → Scheme) → Type 0
EndsWithin scheme_of = (c : Catalogue) → Admitted c → (k : ℕ) → k < c.messages → message_length scheme_of c k ≤ (scheme_of c).sizes.message

-- every meter can say the bytes of a query
abbrev pub QueriesFit : (Catalogue → Scheme) → Type 0
QueriesFit scheme_of = (c : Catalogue) → Admitted c → (scheme_of c).sizes.query ≤ most_bytes

-- a message of the store has all its bytes, and as many of them are left as its length says
whole-message : (servers messages : ℕ) (scheme : Scheme) → Laws servers messages scheme → (store : List ℕ) → length store ≡ scheme.sizes.store
    → (wanted : ℕ) → wanted < messages → (size : ℕ) → size ≤ scheme.sizes.message → length (take size (message_of scheme store wanted)) ≡ size
whole-message servers messages scheme laws store long wanted inside size fits =
    let whole : length (message_of scheme store wanted) ≡ scheme.sizes.message =
    cut-length (wanted * scheme.sizes.message) scheme.sizes.message store
    (omega (arith, slot-end wanted messages scheme.sizes.message inside, laws.store-whole)) in
    length-take-le size (message_of scheme store wanted) (omega (arith, whole))

pub plain-fetch : (scheme_of : Catalogue → Scheme) → Promises scheme_of → EndsWithin scheme_of → QueriesFit scheme_of → PlainFetches scheme_of
plain-fetch scheme_of promises ends small c admitted store bytes long wanted inside key valid day answer_day in-season answers query answer message
    slots-fit query-fits answer-fits message-fits =
    record {
      whole =
          whole-message c.servers c.messages (scheme_of c) (promises c admitted) store long wanted inside (message_length scheme_of c wanted)
          (ends c admitted wanted inside);
      served = λ n below.
          served scheme_of c admitted (promises c admitted) store long wanted inside key valid n below (small c admitted) day answer_day
          (in-season n below).0 (in-season n below).1 answers query answer message query-fits answer-fits;
      ends =
          plain-ends scheme_of c admitted (promises c admitted) wanted inside key valid store bytes long message message-fits answers slots-fit
          day answer_day in-season (small c admitted) query answer query-fits;
    }
