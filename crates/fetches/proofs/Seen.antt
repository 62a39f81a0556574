-- What issues to a server show (`seen_of`), as the definition says it: a function of a query and of the issues, and of the issues only those that name
-- the server count (`seen-named`); and what answering shows goes by the length of the buffer (`same-room`).
use mathlib.Core.Path.{◌≡◌, refl, sym, ap, ◌∙◌}
use mathlib.Core.Bool.{Bool, true, false, cond}
use mathlib.Core.List.{List, [], ◌∷◌, ◌++◌}
use Prim.Native.Nat.{ℕ, ◌+◌}
use lib.Dec.{ltb, eqb}
use lib.ListN.{length, replicate, length-replicate}
use Rattle.lists.specs.Sums.{keep, keep_if}
use Rattle.std.specs.Prelude.{Ok, Err}
use Rattle.refusal.specs.Verdicts.{Verdict, accepted}
use Rattle.refusal.specs.Chain.{refuse_if, and_then}
use Rattle.scheme.specs.Scheme.{Scheme}
use Rattle.scheme.specs.Laws.{Laws}
use Rattle.calendar.specs.declared.Day.{Day}
use Rattle.catalogue.specs.declared.Catalogue.{Catalogue}
use Rattle.catalogue.specs.Days.{day_verdict}
use Rattle.server.specs.Answering.{answer_verdict}
use Rattle.server.proofs.Laws.{answer-by, writes-answer}
use Rattle.fetches.specs.Shown.{Shown, asked, Issue, asking, showing}
use Rattle.session_parts.specs.Meters.{most_bytes}

-- the verdict on an issue to a server that is there, where queries have `size` bytes and so many bytes were issued to it before
abbrev pub verdict_on : Catalogue → ℕ → ℕ → Day → ℕ → Verdict
verdict_on c size before day room =
    and_then (day_verdict c day) (refuse_if (ltb room size) 9 (refuse_if (ltb most_bytes (before + size)) 16 accepted))

-- the bytes issued to it after that
abbrev pub sent_after : ℕ → ℕ → Verdict → ℕ
sent_after size before (Ok _) = size + before
sent_after size before (Err refusal) = before

module _ (scheme_of : Catalogue → Scheme) (c : Catalogue) (store : List ℕ) (n : ℕ) (query : List ℕ) where
  -- the bytes of a query
  abbrev size : ℕ
  size = (scheme_of c).sizes.query

  -- what an issue shows that asks the query: as if into zeros
  abbrev pub seen : ℕ → Day → ℕ → Day → ℕ → Shown
  seen before day room answer_day answer_room =
      showing scheme_of c store n query answer_day (replicate answer_room 0) (verdict_on c (scheme_of c).sizes.query before day room)

  -- what issues show, where so many bytes were issued to the server before
  abbrev pub seen_of : ℕ → List Issue → List Shown
  seen_of before [] = []
  seen_of before (i ∷ is) =
      cond (eqb i.server n) (seen before i.day i.room i.answer_day i.answer_room ∷ []) []
      ++ seen_of
      (cond (eqb i.server n)
      (sent_after (scheme_of c).sizes.query before (verdict_on c (scheme_of c).sizes.query before i.day i.room)) before) is

  pub seen-named : (before : ℕ) (is : List Issue) → seen_of before is ≡ seen_of before (keep (λ (i : Issue). eqb i.server n) is)
  unfolding keep keep_if
  seen-named before [] = refl
  seen-named before (i ∷ is) = go (eqb i.server n) refl (λ other. seen-named other is)
    where
      go : (t : Bool) → eqb i.server n ≡ t → ((other : ℕ) → seen_of other is ≡ seen_of other (keep (λ (i : Issue). eqb i.server n) is))
          → cond t (seen before i.day i.room i.answer_day i.answer_room ∷ []) []
          ++ seen_of (cond t (sent_after size before (verdict_on c size before i.day i.room)) before) is
          ≡ seen_of before (keep_if t i (keep (λ (i : Issue). eqb i.server n) is))
      go true e r = rw (e, r (sent_after size before (verdict_on c size before i.day i.room)))
      go false e r = r before

module _ (scheme_of : Catalogue → Scheme) (c : Catalogue) (laws : Laws c.servers c.messages (scheme_of c)) (store : List ℕ) (n : ℕ) (query : List ℕ)
    (day : Day) where
  abbrev verdict : List ℕ → Verdict
  verdict answer = answer_verdict scheme_of c day n (length store) query (length answer)

  -- what answering shows goes by its verdict
  pub answer-shown : (answer : List ℕ) (v : Verdict) → v ≡ verdict answer → (other : List ℕ) → v ≡ verdict other
      → asking scheme_of c store n query day answer ≡ asking scheme_of c store n query day other
  answer-shown answer (Ok _) e other f =
      let written = writes-answer scheme_of c laws day n store query answer (sym e) ∙ sym (writes-answer scheme_of c laws day n store query other (sym f)) in
      let by = answer-by scheme_of c day n store query answer accepted e in
      let by' = answer-by scheme_of c day n store query other accepted f in
      rw (by, by') (ap (asked query (Ok ((scheme_of c).answer_length query))) (rw (by, by') at written))
  answer-shown answer (Err refusal) e other f =
      rw (answer-by scheme_of c day n store query answer (Err refusal) e, answer-by scheme_of c day n store query other (Err refusal) f)

  -- and so by the length of the buffer that the query is answered into
  pub same-room : (answer : List ℕ) → asking scheme_of c store n query day answer ≡ asking scheme_of c store n query day (replicate (length answer) 0)
  same-room answer = answer-shown answer (verdict answer) refl (replicate (length answer) 0) (rw (length-replicate {A = ℕ} (length answer) 0))
