-- What the promises of the codes give issue and take: the bytes of a query fit a meter (`query-fits`); an answer that can be taken fits its slot
-- (`slot-holds`), and its bytes the server's meter, so that a take never has to give number 16 (`meter-holds`).
use mathlib.Core.Path.{◌≡◌, refl}
use mathlib.Core.Bool.{true}
use Prim.Native.Nat.{ℕ, ◌+◌, ◌*◌, ◌≤◌, ◌<◌}
use native.Mathlib.Omega.{arith}
use lib.ListN.{length}
use Rattle.lists.proofs.Cuts.{slot-end}
use Rattle.parameters.specs.declared.Sizes.{Sizes}
use Rattle.parameters.specs.Measures.{key_places}
use Rattle.scheme.specs.Scheme.{Valid}
use Rattle.refusal.specs.Verdicts.{accepted}
use Rattle.catalogue.specs.declared.Catalogue.{Catalogue}
use Rattle.catalogue.specs.Catalogue.{Admitted}
use Rattle.codes.specs.Codes.{scheme_of}
use Rattle.codes.proofs.Promises.{promises}
use Rattle.session.specs.declared.Session.{Session}
use Rattle.session.specs.Calls.{code_of, key_of, query_of, take_verdict}
use Rattle.session_parts.specs.Meters.{most_bytes, counted}
use Rattle.session_checks.proofs.Keys.{sizes-small, key-valid}
use Rattle.session.proofs.Take.{Takes, take-passed, take-first}

pub query-fits : (c : Catalogue) → Admitted c → (scheme_of c).sizes.query ≤ most_bytes
query-fits c a = omega (arith, (sizes-small c (scheme_of c).sizes a refl).query)

-- a session of an admitted catalogue, its key good and in all its places, its wanted message and the server there
module _ (s : Session) (long : length s.key ≡ key_places) (a : Admitted s.catalogue) (good : (code_of scheme_of s).key_good (key_of scheme_of s) ≡ true)
    (inside : s.wanted < s.catalogue.messages) (server : ℕ) (below : server < s.catalogue.servers) where
  own_key : Valid (code_of scheme_of s) (key_of scheme_of s)
  own_key = key-valid s.catalogue s.key long (code_of scheme_of s).sizes a refl good

  pub answer-fits : (code_of scheme_of s).answer_length (query_of scheme_of s server) ≤ (code_of scheme_of s).sizes.slot
  answer-fits =
      let laws = promises s.catalogue a in
      laws.answer-fits server (query_of scheme_of s server) (laws.query-admitted s.wanted server (key_of scheme_of s) inside below own_key)

-- the part of the buffer that a take writes
pub slot-holds : (s : Session) → length s.key ≡ key_places → (sizes : Sizes) → sizes ≡ (code_of scheme_of s).sizes → (server size room : ℕ)
    → Takes scheme_of s server size room → server * sizes.slot + size ≤ room
slot-holds s long sizes e server size room t =
    let fits = answer-fits s long t.sound.admitted t.sound.good t.sound.inside server t.below in
    rw e (omega (arith, slot-end server s.catalogue.servers (code_of scheme_of s).sizes.slot t.below, t.sized, t.roomy))

-- a take that is accepted: nothing was taken from the server before, and what is taken now is no longer than a slot
pub meter-holds : (s : Session) → length s.key ≡ key_places → (server size room : ℕ) → take_verdict scheme_of s server size room ≡ accepted
    → counted s.meters.got server + size ≤ most_bytes
meter-holds s long server size room e =
    let t = take-passed scheme_of s server size room e in
    let small = sizes-small s.catalogue (code_of scheme_of s).sizes t.sound.admitted refl in
    let fits = answer-fits s long t.sound.admitted t.sound.good t.sound.inside server t.below in
    let none = take-first scheme_of s server size room t (omega (arith, t.below, small.servers)) in
    omega (arith, none, t.sized, fits, small.slot)
