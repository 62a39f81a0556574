-- Laws of begin: refused it hands back zeros (`begin-zeros`), done the new session (`begin-done`), whose used places are the key (`key-kept`); and
-- what an accepted verdict says (`begin-passed`, `begin-accepted`).
use mathlib.Core.Path.{◌≡◌, refl, sym, ap, ◌∙◌}
use mathlib.Core.Bool.{not}
use mathlib.Core.List.{List}
use Prim.Native.Nat.{ℕ, ◌-◌, ◌<◌}
use lib.ListN.{length, replicate}
use lib.Seq.{take_at}
use borrow.Author.Tests.{leb-false, lt-leb, eqb-true, eq-eqb, not-false}
use Rattle.std.specs.Prelude.{Ok, Err}
use Rattle.refusal.specs.Verdicts.{Verdict, accepted}
use Rattle.refusal.specs.declared.Refusal.{Refusal}
use Rattle.parameters.specs.Measures.{key_places}
use Rattle.scheme.specs.Scheme.{Scheme, Valid}
use Rattle.catalogue.specs.declared.Catalogue.{Catalogue}
use Rattle.catalogue.specs.Catalogue.{Admitted}
use Rattle.catalogue.proofs.Faults.{call-passed, call-accepted}
use Rattle.session.specs.declared.Handed.{Handed}
use Rattle.session.specs.Fields.{new_session, zero_session}
use Rattle.session.specs.Calls.{key_of, begin_verdict, begin_by, begin}
use Rattle.session_parts.proofs.Marks.{marks-none}
use Rattle.session_parts.proofs.Metering.{meters-none}
use Rattle.session.proofs.Sound.{Sound}

module _ (scheme_of : Catalogue → Scheme) (c : Catalogue) (wanted : ℕ) (key : List ℕ) where
  -- what an accepted verdict says
  pub record Begins : Type 0 where
    pub admitted : Admitted c
    pub inside : wanted < c.messages
    pub valid : Valid (scheme_of c) key

  pub begin-passed : begin_verdict scheme_of c wanted key ≡ accepted → Begins
  unfolding begin_verdict
  begin-passed e =
      let p = call-passed c _ e in
      let n = p.1 in
      record {
        admitted = p.0;
        inside = leb-false c.messages wanted n.0;
        valid = record { long = eqb-true (length key) (scheme_of c).sizes.key (not-false _ n.1.0); good = not-false _ n.1.1.0 };
      }

  pub begin-accepted : Begins → begin_verdict scheme_of c wanted key ≡ accepted
  unfolding begin_verdict
  begin-accepted b =
      call-accepted c _ b.admitted
      (lt-leb c.messages wanted b.inside, (ap not (eq-eqb (length key) (scheme_of c).sizes.key b.valid.long), (ap not b.valid.good, tt)))

  -- begin goes by its verdict
  pub begin-by : (v : Verdict) → v ≡ begin_verdict scheme_of c wanted key → begin scheme_of c wanted key ≡ begin_by scheme_of c wanted key v
  unfolding begin
  begin-by v e = ap (begin_by scheme_of c wanted key) (sym e)

  -- its result says the verdict, and a result that says a refusal holds zeros
  pub begin-says : (begin scheme_of c wanted key).verdict ≡ begin_verdict scheme_of c wanted key
  begin-says = go (begin_verdict scheme_of c wanted key) refl
    where
      go : (v : Verdict) → v ≡ begin_verdict scheme_of c wanted key → (begin scheme_of c wanted key).verdict ≡ begin_verdict scheme_of c wanted key
      go (Ok _) e = rw (begin-by accepted e) e
      go (Err refusal) e = rw (begin-by (Err refusal) e) e

  pub begin-zeros : (refusal : Refusal) → (begin scheme_of c wanted key).verdict ≡ Err refusal → (begin scheme_of c wanted key).session ≡ zero_session
  begin-zeros refusal e = rw (begin-by (Err refusal) (sym e ∙ begin-says))

  pub begin-refused : (v : Verdict) (refusal : Refusal) → v ≡ begin_verdict scheme_of c wanted key → v ≡ Err refusal
      → ◌≡◌ {A = Handed} (record { verdict = v; session = zero_session }) (begin scheme_of c wanted key)
  begin-refused v refusal e p = rw (begin-by v e, p)

  pub begin-done : (v : Verdict) → v ≡ begin_verdict scheme_of c wanted key → v ≡ accepted
      → ◌≡◌ {A = Handed} (record { verdict = accepted; session = new_session c wanted key }) (begin scheme_of c wanted key)
  begin-done v e p = rw (begin-by v e, p)

  -- the places that are used hold the key
  pub key-kept : length key ≡ (scheme_of c).sizes.key → key_of scheme_of (new_session c wanted key) ≡ key
  key-kept e = take_at key (replicate (key_places - length key) 0) (scheme_of c).sizes.key e

  pub new-sound : Begins → Sound scheme_of (new_session c wanted key)
  new-sound b = record {
    admitted = b.admitted;
    inside = b.inside;
    good = rw (key-kept b.valid.long) b.valid.good;
    marks = (marks-none c.servers).good;
    meters = meters-none _ _;
  }
