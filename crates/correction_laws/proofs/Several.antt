-- Several saved answers (document 02, item 13), corrected by the two calls, each once and in any order, the store last. Whatever each of them was, it is then
-- what the call for it alone leaves (`each-once`), the store is the corrected one, and every answer that was right is the one worked out afresh from it
-- (`calls-fresh`). A call for a saved answer that it refuses changes nothing, and stands in the way of none of the others.
use mathlib.Core.Path.{◌≡◌, refl, sym, ap, ◌∙◌}
use mathlib.Core.Bool.{Bool, true, false, cond, not, ◌||◌, true≢false}
use mathlib.Core.List.{List, [], ◌∷◌, ◌++◌}
use Prim.Native.Nat.{ℕ, suc, ◌<◌}
use native.Mathlib.Decide.{ℕ_discrete}
use native.Mathlib.Omega.{arith}
use borrow.Author.Tests.{not-true, eq-eqb, ne_eqb}
use lib.Dec.{eqb}
use lib.ListN.{length, get_or, set, length-set}
use lib.Seq.{get_or-set_same, get_or-set_other}
use Rattle.lists.specs.Arranged.{place_in}
use Rattle.lists.specs.Below.{Below}
use Rattle.lists.specs.Distinct.{stands, distinct, is_permutation}
use Rattle.lists.proofs.Arranged.{permutation-facts, permutation-tests, covers}
use Rattle.lists.proofs.Both.{both_true}
use Rattle.lists.proofs.Distinct.{stands_at}
use Rattle.refusal.specs.Verdicts.{accepted}
use Rattle.catalogue.specs.declared.Catalogue.{Catalogue}
use Rattle.codes.proofs.Promises.{promises}
use Rattle.correction.specs.declared.Edit.{Edit}
use Rattle.correction.specs.Correction.{corrected_store, corrected_answer}
use Rattle.correction.specs.Calls.{correct_verdict, correcting, correcting_answer}
use Rattle.correction.proofs.Verdicts.{correct-passed, correct-accepted, inside_of}
use Rattle.correction.proofs.Calls.{correct-done}
use Rattle.correction_laws.specs.Several.{Saved, nothing_saved, Right, by_answer_call, calls_for}
use Rattle.correction_laws.proofs.Corrected.{fresh}

-- ---- Any change made to the elements with these numbers, one after another

module _ (change : Saved → Saved) where
  unfoldable change_each : List ℕ → List Saved → List Saved
  change_each [] saved = saved
  change_each (i ∷ order) saved = change_each order (set saved i (change (get_or saved i nothing_saved)))

  -- an element whose number is none of these is as it was; one whose number is among them was changed once
  each_at : (order : List ℕ) (saved : List Saved) (j : ℕ) → distinct order ≡ true → Below (length saved) order
      → get_or (change_each order saved) j nothing_saved ≡ cond (stands j order) (change (get_or saved j nothing_saved)) (get_or saved j nothing_saved)
  unfolding change_each stands distinct
  each_at [] saved j d b = refl
  each_at (i ∷ order) saved j d b =
      go (ℕ_discrete j i)
      (each_at order (set saved i one) j (both_true (not (stands i order)) (distinct order) d).1
      (λ k h. omega (arith, b (suc k) (omega arith), length-set saved i one)))
    where
      one : Saved
      one = change (get_or saved i nothing_saved)

      go : Dec (j ≡ i)
          → get_or (change_each order (set saved i (change (get_or saved i nothing_saved)))) j nothing_saved
          ≡ cond (stands j order) (change (get_or (set saved i (change (get_or saved i nothing_saved))) j nothing_saved))
          (get_or (set saved i (change (get_or saved i nothing_saved))) j nothing_saved)
          → get_or (change_each order (set saved i (change (get_or saved i nothing_saved)))) j nothing_saved
          ≡ cond (eqb j i || stands j order) (change (get_or saved j nothing_saved)) (get_or saved j nothing_saved)
      go (yes q) ih =
          let new : Saved = change (get_or saved i nothing_saved) in
          let gone : stands j order ≡ false =
          ap (λ (n : ℕ). stands n order) q ∙ not-true (stands i order) (both_true (not (stands i order)) (distinct order) d).0 in
          let inside : i < length saved = b 0 (omega arith) in
          let there : get_or (set saved i new) j nothing_saved ≡ new =
          ap (λ (n : ℕ). get_or (set saved i new) n nothing_saved) q ∙ get_or-set_same saved i new nothing_saved inside in
          ih
          ∙ ap (λ (t : Bool). cond t (change (get_or (set saved i new) j nothing_saved)) (get_or (set saved i new) j nothing_saved)) gone
          ∙ there
          ∙ ap (λ (n : ℕ). change (get_or saved n nothing_saved)) (sym q)
          ∙ sym (ap (λ (t : Bool). cond (t || stands j order) (change (get_or saved j nothing_saved)) (get_or saved j nothing_saved)) (eq-eqb j i q))
      go (no q) ih =
          let new : Saved = change (get_or saved i nothing_saved) in
          let there : get_or (set saved i new) j nothing_saved ≡ get_or saved j nothing_saved = get_or-set_other saved i j new nothing_saved q in
          ih
          ∙ ap (λ (s : Saved). cond (stands j order) (change s) s) there
          ∙ sym (ap (λ (t : Bool). cond (t || stands j order) (change (get_or saved j nothing_saved)) (get_or saved j nothing_saved)) (ne_eqb j i q))

  -- each once, in any order
  each-changed : (order : List ℕ) (saved : List Saved) → is_permutation (length saved) order ≡ true → (j : ℕ) → j < length saved
      → get_or (change_each order saved) j nothing_saved ≡ change (get_or saved j nothing_saved)
  each-changed order saved all j h =
      let facts = permutation-facts (length saved) order all in
      let tests = permutation-tests (length saved) order facts in
      let found = covers (length saved) order facts j h in
      let here : stands j order ≡ true =
      ap (λ (n : ℕ). stands n order) (sym found.1) ∙ stands_at order (place_in j order) (omega (arith, facts.long, found.0)) in
      each_at order saved j tests.1 tests.0
      ∙ ap (λ (t : Bool). cond t (change (get_or saved j nothing_saved)) (get_or saved j nothing_saved)) here

-- ---- The calls

stands-last : (order : List ℕ) (last : ℕ) → stands last (order ++ (last ∷ [])) ≡ true
unfolding stands
stands-last [] last = rw (eq-eqb last last refl)
stands-last (i ∷ order) last = go (eqb last i) (stands-last order last)
  where
    go : (t : Bool) → stands last (order ++ (last ∷ [])) ≡ true → t || stands last (order ++ (last ∷ [])) ≡ true
    go true e = refl
    go false e = e

module _ (c : Catalogue) (e : Edit) (store : List ℕ) where
  -- the saved answers after all calls: each as the call for it leaves it
  calls-each : (order : List ℕ) (last : ℕ) (saved : List Saved)
      → (calls_for c e order last (record { store = store; saved = saved })).saved ≡ change_each (by_answer_call c e store) (order ++ (last ∷ [])) saved
  unfolding calls_for change_each correcting_answer
  calls-each [] last saved = refl
  calls-each (i ∷ order) last saved = calls-each order last (set saved i (by_answer_call c e store (get_or saved i nothing_saved)))

  pub each-once : (order : List ℕ) (last : ℕ) (saved : List Saved) → is_permutation (length saved) (order ++ (last ∷ [])) ≡ true → (j : ℕ) → j < length saved
      → get_or (calls_for c e order last (record { store = store; saved = saved })).saved j nothing_saved ≡ by_answer_call c e store (get_or saved j nothing_saved)
  each-once order last saved all j h =
      ap (λ (l : List Saved). get_or l j nothing_saved) (calls-each order last saved)
      ∙ each-changed (by_answer_call c e store) (order ++ (last ∷ [])) saved all j h

  -- a call for this answer is accepted
  abbrev pub Taken : Saved → Type 0
  Taken one = correct_verdict c one.server (length store) one.query e (length one.answer) ≡ accepted

  abbrev call-done : Saved → Type 0
  call-done one =
      ((correcting c one.server store one.query e one.answer).store ≡ corrected_store c e store)
      × ((correcting c one.server store one.query e one.answer).answer ≡ corrected_answer c e store one.query one.answer)

  taken-done : (one : Saved) → Taken one → call-done one
  taken-done one taken =
      let did = correct-done c one.server store one.query e one.answer accepted (sym taken) (corrected_store c e store)
      (corrected_answer c e store one.query one.answer) refl refl refl in
      (sym did.store, sym did.answer)

  -- the store after all calls, if the last one is accepted, which finds the answer as it was saved
  calls-store : (order : List ℕ) (last : ℕ) (saved : List Saved) → distinct (order ++ (last ∷ [])) ≡ true → Taken (get_or saved last nothing_saved)
      → (calls_for c e order last (record { store = store; saved = saved })).store ≡ corrected_store c e store
  unfolding calls_for distinct
  calls-store [] last saved d taken = (taken-done (get_or saved last nothing_saved) taken).0
  calls-store (i ∷ order) last saved d taken =
      let new = by_answer_call c e store (get_or saved i nothing_saved) in
      let parts = both_true (not (stands i (order ++ (last ∷ [])))) (distinct (order ++ (last ∷ []))) d in
      let absent : stands i (order ++ (last ∷ [])) ≡ false = not-true (stands i (order ++ (last ∷ []))) parts.0 in
      let other : last ≡ i → ⊥ = λ same.
      true≢false (sym (stands-last order last) ∙ ap (λ (n : ℕ). stands n (order ++ (last ∷ []))) same ∙ absent) in
      let same : get_or (set saved i new) last nothing_saved ≡ get_or saved last nothing_saved = get_or-set_other saved i last new nothing_saved other in
      calls-store order last (set saved i new) parts.1 (rw same taken)

  -- a right answer is one that the calls take, where they take any
  right-taken : (one last : Saved) → Right c store one → Taken last → Taken one
  right-taken one last right taken =
      let p = correct-passed c last.server (length store) last.query e (length last.answer) taken in
      correct-accepted c one.server (length store) one.query e (length one.answer) (record {
        admitted = p.admitted;
        below = right.there;
        admits = right.admitted;
        store_long = p.store_long;
        inside = p.inside;
        saved-long =
            ap length right.fresh
            ∙ (promises c p.admitted).answer-length one.server store one.query p.store_long right.admitted;
      })

  -- each once, in any order, and the store last
  pub calls-fresh : e.value < 256 → Below 256 store → (order : List ℕ) (last : ℕ) (saved : List Saved)
      → is_permutation (length saved) (order ++ (last ∷ [])) ≡ true → Taken (get_or saved last nothing_saved)
      → let after = calls_for c e order last (record { store = store; saved = saved }) in
      (after.store ≡ corrected_store c e store)
      × ((j : ℕ) → j < length saved → Right c store (get_or saved j nothing_saved) → Right c after.store (get_or after.saved j nothing_saved))
  unfolding correcting_answer correcting
  calls-fresh byte bytes order last saved all taken =
      let tests = permutation-tests (length saved) (order ++ (last ∷ [])) (permutation-facts (length saved) (order ++ (last ∷ [])) all) in
      let set-store = calls-store order last saved tests.1 taken in
      let newest = get_or saved last nothing_saved in
      let p = correct-passed c newest.server (length store) newest.query e (length newest.answer) taken in (
        set-store,
        λ j h right.
            let one = get_or saved j nothing_saved in
            rw (set-store, each-once order last saved all j h) (record {
              there = right.there;
              admitted = right.admitted;
              fresh =
                  (taken-done one (right-taken one newest right taken)).1
                  ∙ ap (corrected_answer c e store one.query) right.fresh
                  ∙ fresh c p.admitted e store (inside_of c e p.inside) p.store_long byte bytes one.server one.query right.admitted;
            }),
      )
