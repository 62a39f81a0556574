-- Each call of a session gives only its own numbers (`call-numbers`): its verdict is the foremost of its faults, and each has one of them.
use mathlib.Core.Path.{refl}
use lib.ListN.{length}
use Rattle.lists.specs.Distinct.{stands}
use Rattle.refusal.specs.Within.{ValueWithin}
use Rattle.refusal.proofs.Within.{faults-within, value-within}
use Rattle.scheme.specs.Scheme.{Scheme}
use Rattle.catalogue.specs.declared.Catalogue.{Catalogue}
use Rattle.catalogue.specs.Catalogue.{catalogue_numbers, catalogue_verdict}
use Rattle.catalogue.proofs.Faults.{catalogue-within}
use Rattle.session.specs.Calls.{slots_of, bound_by, bound}
use Rattle.session.specs.Calls.{begin_faults, begin_verdict, issue_faults, issue_verdict, take_faults, take_verdict, recover_faults, recover_verdict}
use Rattle.session_laws.specs.Numbers.{CallNumbers}
use Rattle.session.proofs.Begin.{begin-says}
use Rattle.session.proofs.Issue.{issue-goes}
use Rattle.session.proofs.Take.{take-goes}
use Rattle.session.proofs.Recover.{recover-goes}

module _ (scheme_of : Catalogue → Scheme) where
  bound-numbers : (c : Catalogue) → ValueWithin catalogue_numbers (bound scheme_of c)
  unfolding bound
  bound-numbers c =
      value-within catalogue_numbers (bound_by scheme_of c) (slots_of scheme_of c) refl (λ refusal. refl) (catalogue_verdict c) (catalogue-within c)

  pub call-numbers : CallNumbers scheme_of
  unfolding stands begin_verdict issue_verdict take_verdict recover_verdict
  call-numbers = record {
    begins = λ c wanted key. faults-within _ (begin_faults scheme_of c wanted key) _ refl (begin-says scheme_of c wanted key);
    issues = λ s day server buffer. faults-within _ (issue_faults scheme_of s day server (length buffer)) _ refl (issue-goes scheme_of s day server buffer).says;
    takes = λ s server answer buffer.
        faults-within _ (take_faults scheme_of s server (length answer) (length buffer)) _ refl (take-goes scheme_of s server answer buffer).says;
    recovers = λ s answers buffer.
        faults-within _ (recover_faults scheme_of s (length answers) (length buffer)) _ refl (recover-goes scheme_of s answers buffer).says;
    bounds = bound-numbers;
  }
