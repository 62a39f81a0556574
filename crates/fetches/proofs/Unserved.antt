-- Issues out of season leave a fetch with nothing taken, so that its recovers are refused (`nothing-recovered`): no issue is done, and so no take. It
-- rests on what each call says by its history.
use mathlib.Core.Path.{◌≡◌, refl, ap, ◌∙◌}
use mathlib.Core.Bool.{Bool, true, false, not}
use mathlib.Core.List.{List, []}
use Prim.Native.Nat.{ℕ, ◌<◌}
use native.Mathlib.Omega.{arith}
use lib.Dec.{leb, ltb, eqb}
use lib.ListN.{length}
use Rattle.lists.specs.Distinct.{stands}
use Rattle.lists.specs.Sums.{All, all_nil, all_cons}
use Rattle.std.specs.Prelude.{Err}
use Rattle.refusal.specs.Verdicts.{Verdict}
use Rattle.refusal.specs.Chain.{refused, refuse_if}
use Rattle.scheme.specs.Scheme.{Scheme}
use Rattle.catalogue.specs.declared.Catalogue.{Catalogue}
use Rattle.session.specs.Calls.{slots_of}
use Rattle.fetches.specs.Fetches.{Call, issuing, taking, recovering, State, make, run, start}
use Rattle.fetches.specs.Past.{nothing, past_by, since, Throughout, end, step}
use Rattle.fetches.specs.Told.{Told}
use Rattle.fetches.specs.Right.{RecoverVerdict}
use Rattle.fetches.specs.Claim.{Promises}
use Rattle.fetches.specs.Unserved.{Unserved, RecoverRefused, NothingRecovered}
use Rattle.fetches.proofs.Throughout.{now-holds, then-holds}
use Rattle.fetches.proofs.Theorem.{fetch-right}

-- a take that nothing was issued for is refused, whatever else is wrong with it
take-refused : (server : ℕ) (answer : List ℕ) (unknown little odd : Bool)
    → past_by (taking server answer) (refuse_if unknown 3 (refuse_if little 9 (refuse_if odd 10 (refused 11)))) nothing ≡ nothing
take-refused server answer true little odd = refl
take-refused server answer false true odd = refl
take-refused server answer false false true = refl
take-refused server answer false false false = refl

module _ (scheme_of : Catalogue → Scheme) (c : Catalogue) (some : 0 < c.servers) (wanted : ℕ) (key : List ℕ) (room : ℕ) where
  -- nothing was done before the call, and nothing is after it
  still-nothing : (at : State) (call : Call) → Unserved c call → Told scheme_of c wanted key room nothing (make scheme_of at call)
      → since nothing (make scheme_of at call) ≡ nothing
  unfolding stands
  still-nothing at (issuing server day query answer_day answer) u told =
      let late : (make scheme_of at (issuing server day query answer_day answer)).verdict ≡ Err u.0 =
      rw u.1 at (told.issues server day answer_day query answer refl) in
      ap (λ (v : Verdict). past_by (issuing server day query answer_day answer) v nothing) late
  still-nothing at (taking server answer) u told =
      ap (λ (v : Verdict). past_by (taking server answer) v nothing) (told.takes server answer refl)
      ∙ take-refused server answer (leb c.servers server) (ltb room (slots_of scheme_of c))
      (not (eqb (length answer) ((scheme_of c).answer_length ((scheme_of c).query wanted server key))))
  still-nothing at (recovering message) u told = refl

  none-recovered : {calls : List Call} (at : State) → All (Unserved c) calls → Throughout (Told scheme_of c wanted key room) nothing (run scheme_of at calls)
      → Throughout (RecoverVerdict scheme_of c wanted room) nothing (run scheme_of at calls)
      → Throughout (RecoverRefused scheme_of c wanted room) nothing (run scheme_of at calls)
  unfolding stands
  none-recovered at all_nil told verdicts = end
  none-recovered at (all_cons {x = call} {xs = calls} u us) told verdicts =
      let after : State = (make scheme_of at call).after in
      let same = still-nothing at call u (now-holds told) in
      let rest : Throughout (RecoverRefused scheme_of c wanted room) (since nothing (make scheme_of at call)) (run scheme_of after calls) =
      rw same (none-recovered after us (rw same at (then-holds told)) (rw same at (then-holds verdicts))) in
      step (λ message e. (now-holds verdicts message e).missing 0 some refl) rest

pub nothing-recovered : (scheme_of : Catalogue → Scheme) → Promises scheme_of → NothingRecovered scheme_of
nothing-recovered scheme_of promises c admitted f inside valid unserved =
    let right = fetch-right scheme_of c admitted (promises c admitted) [] (λ i h. omega arith) f inside valid in
    none-recovered scheme_of c (promises c admitted).servers-some f.wanted f.key (length f.answers) (start scheme_of c f) unserved
    right.told right.verdicts
