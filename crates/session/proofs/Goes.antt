-- A call that goes by its verdict, as issue, take and recover do (`goes`): its result says the verdict, refused it changes nothing, and done it
-- hands back the session and leaves the buffer as the definition says.
use mathlib.Core.Path.{◌≡◌, refl, sym, ap, ◌∙◌}
use mathlib.Core.List.{List}
use Prim.Native.Nat.{ℕ}
use Rattle.std.specs.Prelude.{Ok, Err}
use Rattle.refusal.specs.Verdicts.{Verdict, accepted}
use Rattle.refusal.specs.declared.Refusal.{Refusal}
use Rattle.session.specs.declared.Session.{Session}
use Rattle.session.specs.Calls.{Out, Did, out, call_by}

-- what the call did, by this verdict: from s and the buffer to the session after it and the buffer as written
pub record Goes (did : Out) (verdict : Verdict) (s after : Session) (buffer written : List ℕ) : Type 0 where
  pub by : (v : Verdict) → v ≡ verdict → did ≡ call_by s buffer after written v
  pub says : did.handed.verdict ≡ verdict
  -- a result that says a refusal says that nothing changed
  pub unchanged : (refusal : Refusal) → did.handed.verdict ≡ Err refusal → did ≡ out (Err refusal) s buffer
  pub refused : (v : Verdict) (refusal : Refusal) → v ≡ verdict → v ≡ Err refusal → Did did (record { verdict = v; session = s }) buffer
  pub done : (v : Verdict) (now : List ℕ) → v ≡ verdict → v ≡ accepted → now ≡ written → Did did (record { verdict = accepted; session = after }) now

module _ (s after : Session) (buffer written : List ℕ) where
  call-says : (v : Verdict) → (call_by s buffer after written v).handed.verdict ≡ v
  call-says (Ok _) = refl
  call-says (Err refusal) = refl

  pub goes : (verdict : Verdict) → Goes (call_by s buffer after written verdict) verdict s after buffer written
  goes verdict = record {
    by = λ v e. ap (call_by s buffer after written) (sym e);
    says = call-says verdict;
    unchanged = λ refusal e. ap (call_by s buffer after written) (sym (call-says verdict) ∙ e);
    refused = λ v refusal e p. rw (← e, p) (record { handed = refl; buffer = refl });
    done = λ v now e p a. rw (← e, p) (record { handed = refl; buffer = a });
  }
