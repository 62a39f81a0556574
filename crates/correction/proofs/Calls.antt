-- What the two calls of a correction leave: refused they change nothing (`correct-refused`, `answer-refused`), done they are the corrected store and answer
-- (`correct-done`, `answer-done`), and what one of them did, the other does of the answer (`refused-alike`, `done-alike`). A part of the answer that is
-- lent and moved: `part_moved`.
use mathlib.Core.Path.{◌≡◌, refl, sym, ap, ◌∙◌}
use mathlib.Core.List.{List, ◌++◌}
use Prim.Native.Nat.{ℕ, ◌+◌, ◌-◌, ◌*◌, ◌≤◌, ◌<◌}
use native.Mathlib.Nat.{add-sub_cancel_left}
use native.Mathlib.Omega.{arith}
use lib.ListN.{length, get_or, take, drop}
use Rattle.lists.specs.Parts.{cut, put}
use Rattle.lists.proofs.Cuts.{cut-length, slot-end}
use Rattle.lists.proofs.Puts.{put-part}
use Rattle.symbol.specs.declared.Operation.{Operation}
use Rattle.symbol.specs.Operations.{sum_of}
use Rattle.symbol.proofs.Operations.{group_of}
use Rattle.std.specs.Prelude.{Ok, Err}
use Rattle.refusal.specs.Verdicts.{Verdict, accepted}
use Rattle.refusal.specs.declared.Refusal.{Refusal}
use Rattle.catalogue.specs.declared.Catalogue.{Catalogue}
use Rattle.catalogue.specs.Catalogue.{Admitted}
use Rattle.codes.specs.Codes.{scheme_of}
use Rattle.correction.specs.declared.Edit.{Edit}
use Rattle.std.specs.Prelude.{Some}
use Rattle.correction.specs.Moved.{shift_of, moved}
use Rattle.scheme.specs.Asked.{place_naming}
use Rattle.codes.specs.Asked.{rows_of}
use Rattle.correction.specs.Correction.{EditIn, place_of, corrected_store, corrected_answer}
use Rattle.codes.proofs.Asks.{asks_of}
use Rattle.correction.proofs.Bytes.{shift-long}
use Rattle.correction.specs.Calls.{correct_verdict, DidCorrect, correct_by, correcting, correcting_answer}

module _ (c : Catalogue) (server : ℕ) (store query : List ℕ) (e : Edit) (answer : List ℕ) where
  module _ (v : Verdict) (asked : v ≡ correct_verdict c server (length store) query e (length answer)) where
    by-verdict : correcting c server store query e answer ≡ correct_by c store query e answer v
    unfolding correcting
    by-verdict = ap (correct_by c store query e answer) (sym asked)

    pub correct-refused : (refusal : Refusal) → v ≡ Err refusal → DidCorrect (correcting c server store query e answer) (Err refusal) store answer
    correct-refused refusal told = rw (by-verdict, told) (record { verdict = refl; store = refl; answer = refl })

    pub correct-done : (stored saved : List ℕ) → v ≡ accepted → stored ≡ corrected_store c e store → saved ≡ corrected_answer c e store query answer
        → DidCorrect (correcting c server store query e answer) accepted stored saved
    correct-done stored saved told s a = rw (by-verdict, told) (record { verdict = refl; store = s; answer = a })

    pub answer-refused : (refusal : Refusal) → v ≡ Err refusal → DidCorrect (correcting_answer c server store query e answer) (Err refusal) store answer
    unfolding correcting_answer
    answer-refused refusal told =
        let did = correct-refused refusal told in record { verdict = did.verdict; store = refl; answer = did.answer }

    pub answer-done : (saved : List ℕ) → v ≡ accepted → saved ≡ corrected_answer c e store query answer
        → DidCorrect (correcting_answer c server store query e answer) accepted store saved
    unfolding correcting_answer
    answer-done saved told a =
        let did = correct-done (corrected_store c e store) saved told refl a in record { verdict = did.verdict; store = refl; answer = did.answer }

  -- ---- from what `correct_answer` did to what `correct` does

  by-itself : (v : Verdict) → (correct_by c store query e answer v).verdict ≡ v
  by-itself (Ok _) = refl
  by-itself (Err _) = refl

  module _ (result : Verdict) (stored saved : List ℕ) (did : DidCorrect (correcting_answer c server store query e answer) result stored saved) where
    pub answer-verdict : correct_verdict c server (length store) query e (length answer) ≡ result
    unfolding correcting_answer correcting
    answer-verdict = sym (did.verdict ∙ by-itself (correct_verdict c server (length store) query e (length answer)))

    pub refused-alike : (refusal : Refusal) → result ≡ Err refusal → DidCorrect (correcting c server store query e answer) (Err refusal) store saved
    unfolding correcting_answer
    refused-alike refusal told =
        let refused = correct-refused _ refl refusal (answer-verdict ∙ told) in
        record { verdict = refused.verdict; store = refused.store; answer = did.answer }

    pub done-alike : (written : List ℕ) → result ≡ accepted → written ≡ corrected_store c e store
        → DidCorrect (correcting c server store query e answer) accepted written saved
    unfolding correcting_answer
    done-alike written told s =
        let done = correct-done _ refl written (corrected_answer c e store query answer) (answer-verdict ∙ told) s refl in
        record { verdict = done.verdict; store = done.store; answer = did.answer }

-- the part of an answer that is lent and moved
pub part_moved : (op : Operation) (S at byte new old : ℕ) (answer part : List ℕ) → at + S ≤ length answer
    → part ≡ (sum_of op).plus (take (at + S - at) (drop at answer)) (shift_of (sum_of op) (length (take (at + S - at) (drop at answer))) byte new old)
    → take at answer ++ (part ++ drop (at + S - at) (drop at answer)) ≡ moved (sum_of op) S (Some at) (shift_of (sum_of op) S byte new old) answer
unfolding moved
part_moved op S at byte new old answer part inside made =
    let lent : take (at + S - at) (drop at answer) ≡ cut at S answer = ap (λ (n : ℕ). take n (drop at answer)) (add-sub_cancel_left at S) in
    let whole : length (cut at S answer) ≡ S = cut-length at S answer inside in
    let shift = shift_of (sum_of op) S byte new old in
    let same : part ≡ (sum_of op).plus (cut at S answer) shift =
    made ∙ ap (λ (l : List ℕ). (sum_of op).plus l (shift_of (sum_of op) (length l) byte new old)) lent
    ∙ ap (λ (n : ℕ). (sum_of op).plus (cut at S answer) (shift_of (sum_of op) n byte new old)) whole in
    let long : length part ≡ S = ap length same ∙ (group_of op S).plus-length (cut at S answer) shift whole (shift-long op S byte new old) in
    put-part at S part answer long ∙ ap (λ (l : List ℕ). put at l answer) same

-- the edit's byte is in the store
pub place_inside : (c : Catalogue) (e : Edit) → Admitted c → EditIn c e → place_of c e < (scheme_of c).sizes.store
place_inside c e a i =
    let symbols = (scheme_of c).sizes.symbols in
    let number = e.message * symbols + e.symbol in
    let low : number < c.messages * symbols = omega (arith, slot-end e.message c.messages symbols i.message-in, i.symbol-in) in
    omega (arith, slot-end number (c.messages * symbols) c.symbol low, i.byte-in, (asks_of c a).store-whole)

-- the answer, moved from the byte that stood at a place, which is the edit's
pub answer-made : (c : Catalogue) (e : Edit) (store query answer : List ℕ) (place : ℕ) → place ≡ place_of c e
    → moved (sum_of c.sum) c.symbol (place_naming c.symbol e.message e.symbol (rows_of c query))
    (shift_of (sum_of c.sum) c.symbol e.byte e.value (get_or store place 0)) answer
    ≡ corrected_answer c e store query answer
unfolding corrected_answer
answer-made c e store query answer place same =
    ap (λ (n : ℕ). moved (sum_of c.sum) c.symbol (place_naming c.symbol e.message e.symbol (rows_of c query))
    (shift_of (sum_of c.sum) c.symbol e.byte e.value (get_or store n 0)) answer) same
