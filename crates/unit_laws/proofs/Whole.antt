-- Of any query, written to register 2 byte by byte and then started, the unit shows what the answering end gives: `query-answered`. Past 32 bytes
-- that is refusal 7 at both: a short query has K digits, at most 32. No query is left behind: `asking-empties`.
use mathlib.Core.Path.{◌≡◌, refl, ap, ◌∙◌}
use mathlib.Core.Bool.{Bool, true, false}
use mathlib.Core.List.{List, [], ◌∷◌, ◌++◌}
use Prim.Native.Nat.{ℕ, ◌+◌, ◌≤◌, ◌<◌}
use native.Mathlib.Omega.{arith}
use lib.Dec.{leb}
use lib.ListN.{length}
use borrow.Author.Tests.{leb-true, leb-false, ne_eqb}
use Rattle.std.specs.Prelude.{Err}
use Rattle.refusal.specs.Verdicts.{accepted}
use Rattle.refusal.specs.Chain.{refused}
use Rattle.refusal.specs.Numbers.{refusal_of}
use Rattle.parameters.proofs.Bounds.{short-bounds}
use Rattle.calendar.specs.declared.Day.{Day}
use Rattle.catalogue.specs.declared.Catalogue.{Catalogue}
use Rattle.short_scheme.specs.Short.{short_admits}
use Rattle.codes.specs.Codes.{scheme_of}
use Rattle.codes.proofs.Promises.{admitted-short, scheme-short}
use Rattle.server.specs.Answering.{answering}
use Rattle.server.proofs.Laws.{answer-by}
use Rattle.server.proofs.Refusals.{query-refused}
use Rattle.answer_unit.specs.declared.AnswerUnit.{AnswerUnit}
use Rattle.answer_unit.specs.Unit.{bit, asked}
use Rattle.answer_unit.specs.Registers.{access_verdict, write_register}
use Rattle.answer_unit.proofs.Chains.{unit-takes, SetUp, set-up-passed, access-passed}
use Rattle.unit_laws.specs.Runs.{Access, writing, run, writing_all, asking, Placed, Idle}
use Rattle.unit_laws.specs.Claims.{Starts, Shows, QueryAnswered}
use Rattle.unit_laws.proofs.Answers.{undated-served}
use Rattle.unit_laws.proofs.Kept.{sound-at}
use Rattle.unit_laws.proofs.Starts.{start-answers, overrun-is-seven, start-empties}
use Rattle.unit_laws.proofs.Written.{Wrote, written}

run-append : (u : AnswerUnit) (first rest : List Access) → run u (first ++ rest) ≡ run (run u first) rest
unfolding run
run-append u [] rest = refl
run-append u (access ∷ first) rest = run-append (run u (access ∷ [])) first rest

run-one : (u : AnswerUnit) (value : ℕ) (store : List ℕ) → run u (writing 0 value store ∷ []) ≡ (write_register u 0 value store).unit
unfolding run
run-one u value store = refl

run-asking : (u : AnswerUnit) (query : List ℕ) (value : ℕ) (store : List ℕ)
    → run u (asking query value store) ≡ (write_register (run u (writing_all query store)) 0 value store).unit
run-asking u query value store =
    run-append u (writing_all query store) (writing 0 value store ∷ []) ∙ run-one (run u (writing_all query store)) value store

-- ---- a query of more than 32 bytes

module _ (c : Catalogue) (server : ℕ) (s : SetUp c server) where
  long-refused : (query : List ℕ) → 32 < length query → (scheme_of c).admits server query ≡ false
  unfolding short_admits
  long-refused query long =
      let short = (unit-takes c s.takes).short in
      let few = (short-bounds c.servers c.messages c.symbol (admitted-short c s.admitted short)).messages-high in
      rw (scheme-short c short, ne_eqb (length query) c.messages (λ e. omega (arith, e, long, few)))

  long-answer : (day : Day) (store query buffer : List ℕ) → 32 < length query
      → answering scheme_of c day server store query buffer ≡ record { outcome = Err (refusal_of 7); buffer = buffer }
  long-answer day store query buffer long =
      answer-by scheme_of c day server store query buffer (refused 7)
      (query-refused scheme_of c day server (length store) query (length buffer) s.admitted (undated-served c s.takes day) s.below
      (long-refused query long))

pub same-call : (day : Day) (store buffer : List ℕ) {c d : Catalogue} {server other : ℕ} {query bytes : List ℕ} → c ≡ d → server ≡ other → query ≡ bytes
    → answering scheme_of c day server store query buffer ≡ answering scheme_of d day other store bytes buffer
same-call day store buffer {c} {d} {server} {other} {query} {bytes} e f g = rw (e, f, g)

-- ---- any query

module _ (u : AnswerUnit) (query store : List ℕ) (value : ℕ) (day : Day) (buffer : List ℕ) (idle : Idle u) (no-reset : bit 128 value ≡ false)
    (start-bit : bit 1 value ≡ true) (room : u.catalogue.symbol ≤ length buffer) where
  none-asked : asked u ≡ []
  none-asked = rw idle.none-held

  begins : (v : AnswerUnit) → Wrote store u query v → Starts v value store
  begins v w = record { done = w.done; no-reset = no-reset; start-bit = start-bit; none-waits = w.waiting ∙ idle.none-waits }

  shown : (v : AnswerUnit) → SetUp u.catalogue u.server → Wrote store u query v → (short : Bool) → leb (length query) 32 ≡ short
      → Shows (write_register v 0 value store).unit store (answering scheme_of u.catalogue day u.server store query buffer)
  shown v s w true e =
      let few = leb-true (length query) 32 e in
      let fits : u.held + length query ≤ 32 = omega (arith, idle.none-held, few) in
      let same : asked v ≡ query = w.query fits ∙ ap (λ (l : List ℕ). l ++ query) none-asked in
      let k = w.keeps in
      let wide : v.catalogue.symbol ≤ length buffer = rw k.catalogue room in
      rw (same-call day store buffer k.catalogue k.server same)
      at (start-answers v value store day buffer k.sound.placed (begins v w) (w.clear fits ∙ idle.no-overrun) wide)
  shown v s w false e =
      let many = leb-false (length query) 32 e in
      let over : 32 < u.held + length query = omega (arith, many) in
      rw (long-answer u.catalogue u.server s day store query buffer many)
      (overrun-is-seven v value store buffer w.keeps.sound.placed (begins v w) (w.beyond over))

pub query-answered : QueryAnswered
query-answered u query store value day buffer placed idle done no-reset start-bit room =
    let a = access-passed u 0 (length store) done in
    let s = set-up-passed u.catalogue u.server a.set-up in
    let w = written store query u (sound-at u 0 (length store) placed done) done in
    rw (run-asking u query value store)
    (shown u query store value day buffer idle no-reset start-bit room (run u (writing_all query store)) s w (leb (length query) 32) refl)

-- it leaves no query behind
pub asking-empties : (u : AnswerUnit) (query store : List ℕ) (value : ℕ) → Placed u → Idle u → access_verdict u 0 (length store) ≡ accepted
    → bit 128 value ≡ false → bit 1 value ≡ true
    → let v = run u (asking query value store) in
    (v.held ≡ 0) × (v.overrun ≡ false)
asking-empties u query store value placed idle done no-reset start-bit =
    let w = written store query u (sound-at u 0 (length store) placed done) done in
    rw (run-asking u query value store)
    (start-empties (run u (writing_all query store)) value store
    (record { done = w.done; no-reset = no-reset; start-bit = start-bit; none-waits = w.waiting ∙ idle.none-waits }))
