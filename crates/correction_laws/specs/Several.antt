-- Answers that an operator keeps by their queries (document 02, item 13), and how the two calls are used together: every saved answer but one is corrected by
-- `correct_answer`, with the store lent unchanged, in any order; then the last one by `correct`, which sets the byte of the store.
use Rattle.std.specs.Prelude.{ℕ, ◌<◌, ◌≡◌, true, List, [], ◌∷◌, get_or, set}
use Rattle.catalogue.specs.declared.Catalogue.{Catalogue}
use Rattle.codes.specs.Codes.{scheme_of}
use Rattle.correction.specs.declared.Edit.{Edit}
use Rattle.correction.specs.Calls.{correcting, correcting_answer}

-- an answer, the query that it answers, and the server that it was given by
pub record Saved : Type 0 where
  pub server : ℕ
  pub query : List ℕ
  pub answer : List ℕ

abbrev pub nothing_saved : Saved
nothing_saved = record { server = 0; query = []; answer = [] }

-- the server is there, it admits the query, and the answer is the one that is worked out from the store
pub record Right (c : Catalogue) (store : List ℕ) (saved : Saved) : Type 0 where
  pub there : saved.server < c.servers
  pub admitted : (scheme_of c).admits saved.server saved.query ≡ true
  pub fresh : saved.answer ≡ (scheme_of c).answer store saved.query

-- what an operator has: the store, and the answers saved
pub record Kept : Type 0 where
  pub store : List ℕ
  pub saved : List Saved

abbrev with_answer : Saved → List ℕ → Saved
with_answer one answer = record { server = one.server; query = one.query; answer = answer }

-- a saved answer as `correct_answer` leaves it, from this store, refused or not
abbrev pub by_answer_call : Catalogue → Edit → List ℕ → Saved → Saved
by_answer_call c e store one = with_answer one (correcting_answer c one.server store one.query e one.answer).answer

-- the store and the saved answers as `correct` leaves them, called for the answer with this number
abbrev pub by_last_call : Catalogue → Edit → ℕ → Kept → Kept
by_last_call c e i kept =
    let one = get_or kept.saved i nothing_saved in
    let did = correcting c one.server kept.store one.query e one.answer in
    record { store = did.store; saved = set kept.saved i (with_answer one did.answer) }

-- all of these calls: `correct_answer` for the answers whose numbers are in `order`, one after another, then `correct` for the last
unfoldable pub calls_for : Catalogue → Edit → List ℕ → ℕ → Kept → Kept
calls_for c e [] last kept = by_last_call c e last kept
calls_for c e (i ∷ order) last kept =
    calls_for c e order last (record {
      store = kept.store;
      saved = set kept.saved i (by_answer_call c e kept.store (get_or kept.saved i nothing_saved));
    })
