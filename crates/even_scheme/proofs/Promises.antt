-- The even code keeps the promises of a retrieval code, over any abelian group of symbols: `even-laws`. And `even-written`: recovery
-- part by part leaves the recovered message at the start of a buffer.
use mathlib.Core.Path.{◌≡◌, refl}
use mathlib.Core.Bool.{true}
use mathlib.Core.List.{List, []}
use Prim.Native.Nat.{ℕ, ◌*◌, ◌^◌, ◌≤◌, ◌<◌}
use native.Mathlib.Nat.{not-suc-le-zero}
use lib.ListN.{length}
use Rattle.lists.specs.Arranged.{completed}
use Rattle.lists.specs.Below.{Below}
use Rattle.lists.specs.Distinct.{distinct}
use Rattle.lists.specs.Parts.{lay}
use Rattle.lists.proofs.Completed.{completed-permutation}
use Rattle.parameters.specs.Bounds.{even_fits}
use Rattle.symbol.specs.Group.{AbelianGroup}
use Rattle.symbol.specs.Sum.{Sum}
use Rattle.scheme.specs.Laws.{Laws}
use Rattle.scheme.specs.Scheme.{Valid, answers_in, recover_in}
use Rattle.lists.specs.Assembled.{lay_all}
use Rattle.even_scheme.specs.Even.{recovered_parts, even_scheme}
use Rattle.even_scheme.proofs.Answers.{answer-length, answer-fits}
use Rattle.even_scheme.proofs.Exchange.{even_exchange, moved-valid, moved_back, moved-shown}
use Rattle.even_scheme.proofs.Keys.{key_of, key-of-valid}
use Rattle.even_scheme.proofs.Measures.{servers-some, servers-fit, key_fits, store-whole}
use Rattle.even_scheme.proofs.Queries.{query-length, query-admitted}
use Rattle.even_scheme.proofs.Recovers.{recovers}
use Rattle.even_scheme.proofs.Written.{slots-written}

none_below : (n : ℕ) → Below n []
none_below n i h = absurd (not-suc-le-zero h)

none-distinct : distinct [] ≡ true
unfolding distinct
none-distinct = refl

pub even-laws : (sum : Sum) (N K S : ℕ) → AbelianGroup sum S → even_fits N K S ≡ true → Laws N K (even_scheme sum N K S)
even-laws sum N K S group fits = record {
  servers-some = servers-some sum N K S fits;
  servers-fit = servers-fit sum N K S fits;
  key_fits = key_fits sum N K S fits;
  store-whole = store-whole sum N K S fits;
  some_key = key_of K (λ p. completed (N ^ K) []);
  some-key-valid = key-of-valid sum N K S (λ p. completed (N ^ K) []) (λ p h. completed-permutation (N ^ K) [] (none_below (N ^ K)) none-distinct);
  query-length = λ wanted server key known there valid. query-length sum N K S fits wanted server key known there valid;
  query-admitted = λ wanted server key known there valid. query-admitted sum N K S fits wanted server key known there valid;
  answer-length = answer-length sum N K S group.plus-length fits;
  answer-fits = answer-fits sum N K S;
  recovers = recovers sum N K S group fits;
  exchange = even_exchange N K;
  exchange-valid = λ server wanted other key there known known' valid.
      moved-valid sum N K S fits server wanted server other key there known there known' valid;
  exchange-back = λ server wanted other key there known known' valid.
      moved_back sum N K S fits server wanted server other key there known there known' valid;
  exchange-shown = λ server wanted other key there known known' valid.
      moved-shown sum N K S fits server wanted server other key there known there known' valid;
}

pub even-written : (sum : Sum) (N K S : ℕ) → AbelianGroup sum S → even_fits N K S ≡ true → (wanted : ℕ) → wanted < K → (key : List ℕ)
    → Valid (even_scheme sum N K S) key → (slots : List ℕ) → N * (even_scheme sum N K S).sizes.slot ≤ length slots
    → (buffer : List ℕ)
    → lay_all (recovered_parts sum N K S wanted key (answers_in (even_scheme sum N K S) N wanted key slots)) buffer
    ≡ lay 0 (recover_in (even_scheme sum N K S) N wanted key slots) buffer
even-written sum N K S group fits wanted known key valid slots enough buffer =
    slots-written sum N K S group.minus-length fits wanted known key valid slots enough buffer
