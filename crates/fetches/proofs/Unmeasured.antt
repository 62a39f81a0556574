-- Lengths are not shown (`lengths-hidden`): what a server is shown of a fetch is a function of its query and of the issues (`view`), and neither the
-- code nor the day's verdict nor that on an answer looks at lengths, once they are admitted.
use mathlib.Core.Path.{◌≡◌, refl, sym, ap, ap₂, ◌∙◌}
use mathlib.Core.Bool.{cond}
use mathlib.Core.List.{List, [], ◌∷◌, ◌++◌}
use Prim.Native.Nat.{ℕ, ◌<◌}
use lib.Dec.{eqb}
use lib.ListN.{length, take, replicate}
use Rattle.lists.specs.Sums.{All, all_nil, all_cons}
use Rattle.scheme.specs.Scheme.{Scheme, Valid}
use Rattle.lengths.specs.declared.Lengths.{Lengths}
use Rattle.calendar.specs.declared.Day.{Day}
use Rattle.std.specs.Prelude.{Ok, Err}
use Rattle.refusal.specs.Verdicts.{Verdict, accepted}
use Rattle.catalogue.specs.declared.Catalogue.{Catalogue}
use Rattle.catalogue.specs.Catalogue.{Admitted}
use Rattle.catalogue.specs.Days.{day_verdict}
use Rattle.catalogue.proofs.Faults.{after-catalogue}
use Rattle.server.specs.Answering.{answer_verdict, answer_by, answering}
use Rattle.fetches.specs.Fetches.{Fetch, history}
use Rattle.fetches.specs.Shown.{Shown, Issue, issues, asked_and, showing, shown_to, shown}
use Rattle.fetches.specs.Claim.{Promises}
use Rattle.fetches.specs.Unmeasured.{with_lengths, Begins, LengthsHidden}
use Rattle.fetches.proofs.Seen.{verdict_on, sent_after, seen, seen_of}
use Rattle.fetches.proofs.Theorem.{fetch-shown}

module _ (scheme_of : Catalogue → Scheme) where
  module _ (c : Catalogue) (admitted : Admitted c) (l : Lengths) (admitted' : Admitted (with_lengths l c)) (same : scheme_of (with_lengths l c) ≡ scheme_of c)
      (store : List ℕ) (n : ℕ) where
    abbrev d : Catalogue
    d = with_lengths l c

    verdict-same : (day : Day) (query : List ℕ) (room : ℕ)
        → answer_verdict scheme_of d day n (length store) query room ≡ answer_verdict scheme_of c day n (length store) query room
    unfolding answer_verdict
    verdict-same day query room =
        sym (after-catalogue d _ refl accepted _ (sym admitted') refl)
        ∙ rw same
        (after-catalogue c _ refl accepted _ (sym admitted) refl)

    by-same : (query buffer : List ℕ) (v : Verdict) → answer_by scheme_of d store query buffer v ≡ answer_by scheme_of c store query buffer v
    by-same query buffer (Ok _) = rw same
    by-same query buffer (Err refusal) = refl

    answering-same : (day : Day) (query buffer : List ℕ)
        → answering scheme_of d day n store query buffer ≡ answering scheme_of c day n store query buffer
    unfolding answering
    answering-same day query buffer =
        ap (answer_by scheme_of d store query buffer) (verdict-same day query (length buffer))
        ∙ by-same query buffer (answer_verdict scheme_of c day n (length store) query (length buffer))

    showing-same : (query : List ℕ) (answer_day : Day) (buffer : List ℕ) (v : Verdict)
        → showing scheme_of d store n query answer_day buffer v ≡ showing scheme_of c store n query answer_day buffer v
    showing-same query answer_day buffer (Ok _) =
        ap₂ (asked_and scheme_of c store) (ap (λ (scheme : Scheme). take scheme.sizes.query query) same)
        (ap (λ (scheme : Scheme). answering scheme_of d answer_day n store (take scheme.sizes.query query) buffer) same
        ∙ answering-same answer_day (take (scheme_of c).sizes.query query) buffer)
    showing-same query answer_day buffer (Err refusal) = refl

    -- the verdict on an issue
    says_same : (before : ℕ) (day : Day) (room : ℕ)
        → verdict_on d (scheme_of d).sizes.query before day room ≡ verdict_on c (scheme_of c).sizes.query before day room
    unfolding day_verdict
    says_same before day room = ap (λ (scheme : Scheme). verdict_on c scheme.sizes.query before day room) same

    seen_same : (query : List ℕ) (before : ℕ) (day : Day) (room : ℕ) (answer_day : Day) (answer_room : ℕ)
        → seen scheme_of d store n query before day room answer_day answer_room ≡ seen scheme_of c store n query before day room answer_day answer_room
    seen_same query before day room answer_day answer_room =
        ap (showing scheme_of d store n query answer_day (replicate answer_room 0)) (says_same before day room)
        ∙ showing-same query answer_day (replicate answer_room 0) (verdict_on c (scheme_of c).sizes.query before day room)

    after_same : (before : ℕ) (day : Day) (room : ℕ)
        → sent_after (scheme_of d).sizes.query before (verdict_on d (scheme_of d).sizes.query before day room)
        ≡ sent_after (scheme_of c).sizes.query before (verdict_on c (scheme_of c).sizes.query before day room)
    after_same before day room =
        ap₂ (λ (scheme : Scheme) (v : Verdict). sent_after scheme.sizes.query before v) same (says_same before day room)

    all-seen-same : (query : List ℕ) (before : ℕ) (is : List Issue) → seen_of scheme_of d store n query before is ≡ seen_of scheme_of c store n query before is
    all-seen-same query before [] = refl
    all-seen-same query before (i ∷ is) =
        ap₂ (λ (x : Shown) (rest : List Shown). cond (eqb i.server n) (x ∷ []) [] ++ rest)
        (seen_same query before i.day i.room i.answer_day i.answer_room)
        (ap (λ (after : ℕ). seen_of scheme_of d store n query (cond (eqb i.server n) after before) is) (after_same before i.day i.room)
        ∙ all-seen-same query
        (cond (eqb i.server n)
        (sent_after (scheme_of c).sizes.query before (verdict_on c (scheme_of c).sizes.query before i.day i.room)) before) is)

    module _ (promises : Promises scheme_of) (below : n < c.servers) where
      fetch-same : (f : Fetch) → Begins scheme_of c f → shown_to scheme_of d store n (history scheme_of d f) ≡ shown_to scheme_of c store n (history scheme_of c f)
      fetch-same f begins =
          let valid' : Valid (scheme_of d) f.key = rw same begins.valid in
          fetch-shown scheme_of d admitted' (promises d admitted') store n below f begins.inside valid'
          ∙ ap (λ (scheme : Scheme). seen_of scheme_of d store n (scheme.query f.wanted n f.key) 0 (issues f.calls)) same
          ∙ all-seen-same ((scheme_of c).query f.wanted n f.key) 0 (issues f.calls)
          ∙ sym (fetch-shown scheme_of c admitted (promises c admitted) store n below f begins.inside begins.valid)

      fetches-same : {fs : List Fetch} → All (Begins scheme_of c) fs → shown scheme_of d store n fs ≡ shown scheme_of c store n fs
      fetches-same all_nil = refl
      fetches-same (all_cons {x = f} h hs) =
          ap₂ (λ (x : List Shown) (rest : List (List Shown)). x ∷ rest) (fetch-same f h) (fetches-same hs)

pub lengths-hidden : (scheme_of : Catalogue → Scheme) → Promises scheme_of → ((c : Catalogue) (l : Lengths) → scheme_of (with_lengths l c) ≡ scheme_of c)
    → LengthsHidden scheme_of
lengths-hidden scheme_of promises same c admitted l admitted' store n below fs begun =
    fetches-same scheme_of c admitted l admitted' (same c l) store n promises below begun
