-- The takes of a plain fetch and what follows them (`takes-end`): they are honest, none is refused, and recovery ends with the wanted message.
use mathlib.Core.Path.{◌≡◌, refl, sym, ap, ◌∙◌}
use mathlib.Core.Bool.{Bool, true, false, ◌||◌}
use mathlib.Core.List.{List, [], ◌∷◌, ◌++◌, map}
use Prim.Native.Nat.{ℕ, zero, suc, ◌+◌, ◌*◌, ◌≤◌, ◌<◌}
use native.Mathlib.Omega.{arith}
use borrow.Author.Tests.{eqb-false, ne_eqb, le-ltb}
use lib.Dec.{eqb}
use lib.ListN.{length, set}
use Rattle.lists.specs.Parts.{put}
use Rattle.lists.specs.Below.{Below}
use Rattle.lists.specs.Distinct.{stands}
use Rattle.lists.specs.Ranges.{range}
use Rattle.scheme.specs.Scheme.{Scheme, Valid}
use Rattle.scheme.specs.Laws.{Laws}
use Rattle.calendar.specs.declared.Day.{Day}
use Rattle.refusal.specs.Verdicts.{accepted}
use Rattle.catalogue.specs.declared.Catalogue.{Catalogue}
use Rattle.catalogue.specs.Catalogue.{Admitted}
use Rattle.catalogue.specs.Days.{Served}
use Rattle.codes.specs.Messages.{message_length, message_in}
use Rattle.session_parts.specs.declared.Meters.{Meters}
use Rattle.session_parts.specs.Marks.{marked}
use Rattle.session_parts.specs.Meters.{most_bytes, count_taken}
use Rattle.session.specs.Calls.{slots_of}
use Rattle.session.proofs.Take.{Takes, take-accepted, take_by_lem}
use Rattle.fetches.specs.Fetches.{Call, taking, recovering, Made, run}
use Rattle.fetches.specs.Past.{Past}
use Rattle.fetches.specs.Plain.{Ends, last, later, query_to, answer_of}
use Rattle.fetches.proofs.Kept.{session_of, state_of, Kept, Held}
use Rattle.fetches.proofs.Steps.{kept-query, sound, take-kept, take-held}
use Rattle.fetches.proofs.Recovery.{recover-right, recover-message}

module _ (scheme_of : Catalogue → Scheme) (c : Catalogue) (admitted : Admitted c) (laws : Laws c.servers c.messages (scheme_of c))
    (wanted : ℕ) (inside : wanted < c.messages) (key : List ℕ) (valid : Valid (scheme_of c) key)
    (store : List ℕ) (bytes : Below 256 store) (long : length store ≡ (scheme_of c).sizes.store)
    (message : List ℕ) (fits : message_length scheme_of c wanted ≤ length message) (room : ℕ) (roomy : slots_of scheme_of c ≤ room)
    (day answer_day : ℕ → Day) (in-season : (server : ℕ) → server < c.servers → Served c (day server) × Served c (answer_day server))
    (small : (scheme_of c).sizes.query ≤ most_bytes) where
  abbrev answer_from : ℕ → List ℕ
  answer_from = answer_of scheme_of c store wanted key

  abbrev End : Made → Type 0
  End made = made.left ≡ put 0 (message_in scheme_of c store wanted) message

  -- the calls from the take of server `from` on, and from its issue on
  abbrev takes_from : ℕ → ℕ → List Call
  takes_from from count = map (λ (server : ℕ). taking server (answer_from server)) (range from count) ++ (recovering message ∷ [])

  answer-long : (server : ℕ) → server < c.servers → length (answer_from server) ≡ (scheme_of c).answer_length (query_to scheme_of c store wanted key server)
  answer-long server h = laws.answer-length server store _ long (laws.query-admitted wanted server key inside h valid)

  -- all were issued, and those before `from` are taken
  pub takes-end : (count from : ℕ) → from + count ≡ c.servers → (issued taken : List Bool) (meters : Meters) (past : Past) (answers : List ℕ)
      → Kept scheme_of c wanted key room past issued taken meters answers → Held scheme_of c store wanted key past answers
      → ((i : ℕ) → i < c.servers → marked issued i ≡ true) → ((i : ℕ) → i < from → stands i past.taken ≡ true)
      → ((i : ℕ) → from ≤ i → stands i past.taken ≡ false)
      → Ends End (run scheme_of (state_of c wanted key issued taken meters answers) (takes_from from count))
  unfolding range stands
  takes-end zero from e issued taken meters past answers k held all had lacks =
      last
      (rw (le-ltb (length message) (message_length scheme_of c wanted) fits) at
      ((recover-right scheme_of c admitted laws wanted inside key valid room past issued taken meters answers k message).all-taken (λ i h. had i (omega arith))))
      (recover-message scheme_of c admitted laws wanted inside key valid room past issued taken meters answers k message store bytes held
      (λ i h. had i (omega arith)) fits)
  takes-end (suc count) from e issued taken meters past answers k held all had lacks =
      let h : from < c.servers = omega arith in
      let t : Takes scheme_of (session_of c wanted key issued taken meters) from (length (answer_from from)) (length answers) = record {
        sound = sound scheme_of c admitted laws wanted inside key valid room past issued taken meters answers k;
        below = h;
        roomy = omega (arith, k.room-kept);
        sized = answer-long from h ∙ ap (scheme_of c).answer_length (sym (kept-query scheme_of c admitted laws wanted inside key valid issued taken meters from));
        was-issued = all from h;
        not_taken = k.agree from ∙ lacks from (omega arith);
      } in
      let by = take_by_lem scheme_of (session_of c wanted key issued taken meters) from (answer_from from) answers accepted
      (sym (take-accepted scheme_of (session_of c wanted key issued taken meters) from (length (answer_from from)) (length answers) t)) in
      rw by
      (later refl
      (takes-end count (suc from) (omega arith) issued (set taken from true) (count_taken meters from (length (answer_from from)))
      (record { issued = past.issued; taken = from ∷ past.taken })
      (put (from * (scheme_of c).sizes.slot) (answer_from from) answers)
      (take-kept scheme_of c admitted laws wanted inside key valid room past issued taken meters answers k from (answer_from from) t)
      (take-held scheme_of c admitted laws wanted inside key valid room past issued taken meters answers k from (answer_from from) t store held
      (record { store_long = long; as-coded = refl }))
      all
      (λ i l. had-more i l (eqb i from) refl)
      (λ i l. lacks-more i l)))
    where
      had-more : (i : ℕ) → i < suc from → (b : Bool) → eqb i from ≡ b → (b || stands i past.taken) ≡ true
      had-more i l true q = refl
      had-more i l false q = let ne : (i ≡ from → ⊥) = eqb-false i from q in had i (omega (arith, ne))

      lacks-more : (i : ℕ) → suc from ≤ i → (eqb i from || stands i past.taken) ≡ false
      lacks-more i l = rw (ne_eqb i from (λ q. omega arith)) (lacks i (omega arith))
