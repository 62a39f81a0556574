-- The slots of the answer buffer: a take writes its server's slot and no other (`take-reads`, `take-others`), an empty answer writes nothing
-- (`take-empty`), and recovery reads of each slot only the answer that the session calls for there (`recover-reads`).
use mathlib.Core.Path.{◌≡◌, refl, ap}
use mathlib.Core.Bool.{Bool, true, false}
use mathlib.Core.List.{List, []}
use Prim.Native.Nat.{ℕ, ◌+◌, ◌*◌, ◌≤◌, ◌<◌}
use native.Mathlib.Omega.{arith}
use borrow.Author.Tests.{ltb-true, ltb-false}
use lib.Dec.{ltb}
use lib.ListN.{length, take, take-append-drop}
use Rattle.lists.specs.Parts.{cut}
use Rattle.lists.proofs.Puts.{put-length}
use Rattle.lists.proofs.Cuts.{slot-end}
use Rattle.lists.proofs.ReadBack.{cut-put, cut-put-before, cut-put-after}
use Rattle.lists.proofs.Mapped.{map_range}
use Rattle.scheme.specs.Scheme.{Scheme, answers_in}
use Rattle.std.specs.Prelude.{Ok, Err}
use Rattle.refusal.specs.Verdicts.{Verdict, accepted}
use Rattle.catalogue.specs.declared.Catalogue.{Catalogue}
use Rattle.session.specs.declared.Session.{Session}
use Rattle.session.specs.Calls.{code_of, key_of, query_of, take_verdict, take_by, take_answer, wanted_length, recovered_message}
use Rattle.session.proofs.Take.{Takes, take_by_lem}

module _ (scheme_of : Catalogue → Scheme) (s : Session) where
  -- the length of a slot, and of the answer that is called for at a server
  abbrev slot : ℕ
  slot = (code_of scheme_of s).sizes.slot

  abbrev size : ℕ → ℕ
  size server = (code_of scheme_of s).answer_length (query_of scheme_of s server)

  pub take-empty : (server : ℕ) (buffer : List ℕ) → (take_answer scheme_of s server [] buffer).buffer ≡ buffer
  take-empty server buffer = go (take_verdict scheme_of s server 0 (length buffer)) refl
    where
      go : (v : Verdict) → v ≡ take_verdict scheme_of s server 0 (length buffer) → (take_answer scheme_of s server [] buffer).buffer ≡ buffer
      go (Ok _) e = rw (take_by_lem scheme_of s server [] buffer accepted e) (take-append-drop (server * slot) buffer)
      go (Err refusal) e = rw (take_by_lem scheme_of s server [] buffer (Err refusal) e)

  -- a take that was not refused, of an answer that fits a slot
  module _ (server : ℕ) (answer buffer : List ℕ) (t : Takes scheme_of s server (length answer) (length buffer)) (fits : size server ≤ slot) where
    abbrev after : List ℕ
    after = (take_by scheme_of s server answer buffer accepted).buffer

    ends : server * slot + length answer ≤ length buffer
    ends = omega (arith, slot-end server s.catalogue.servers slot t.below, t.sized, t.roomy)

    pub take-length : length after ≡ length buffer
    take-length = put-length (server * slot) answer buffer ends

    pub take-reads : cut (server * slot) (size server) after ≡ answer
    take-reads = rw (← t.sized) (cut-put (server * slot) answer buffer ends)

    pub take-others : (other count : ℕ) → (other ≡ server → ⊥) → count ≤ slot → cut (other * slot) count after ≡ cut (other * slot) count buffer
    take-others other count ne h = go (ltb other server) refl
      where
        go : (b : Bool) → ltb other server ≡ b → cut (other * slot) count after ≡ cut (other * slot) count buffer
        go true q = cut-put-before (server * slot) answer buffer ends (other * slot) count (omega (arith, slot-end other server slot (ltb-true other server q)))
        go false q =
            let past : server < other = omega (arith, ltb-false other server q, ne) in
            cut-put-after (server * slot) answer buffer ends (other * slot) count (omega (arith, slot-end server other slot past, t.sized))

  pub recover-reads : (answers others : List ℕ)
      → ((server : ℕ) → server < s.catalogue.servers → cut (server * slot) (size server) answers ≡ cut (server * slot) (size server) others)
      → recovered_message scheme_of s answers ≡ recovered_message scheme_of s others
  unfolding answers_in
  recover-reads answers others same =
      ap (λ (given : List (List ℕ)). take (wanted_length scheme_of s) ((code_of scheme_of s).recover s.wanted (key_of scheme_of s) given))
      (map_range 0 s.catalogue.servers _ _ (λ server l u. let h : server < s.catalogue.servers = omega arith in same server h))
