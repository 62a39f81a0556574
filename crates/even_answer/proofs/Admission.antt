-- An admitted query can be answered: `admitted-answerable`.
use mathlib.Core.Path.{◌≡◌}
use mathlib.Core.Bool.{true, ◌&&◌}
use mathlib.Core.List.{List}
use Prim.Native.Nat.{ℕ, ◌-◌, ◌*◌, ◌^◌, ◌≤◌}
use borrow.Author.Tests.{eqb-true}
use lib.Dec.{eqb}
use lib.ListN.{length}
use Rattle.lists.specs.Below.{all_below}
use Rattle.lists.specs.Distinct.{distinct}
use Rattle.lists.specs.Ranges.{every}
use Rattle.lists.proofs.Below.{all_below-below}
use Rattle.lists.proofs.Both.{both_true}
use Rattle.parameters.specs.Bounds.{even_fits}
use Rattle.parameters.specs.Measures.{even_sizes}
use Rattle.even_scheme.specs.Even.{numbers_of, even_admits}
use Rattle.even_answer.specs.Answering.{Answerable}

pub admitted-answerable : (N K S server : ℕ) (store query out : List ℕ) → even_fits N K S ≡ true → length store ≡ (even_sizes N K S).store
    → even_admits N K server query ≡ true → (even_sizes N K S).slot ≤ length out → Answerable N K S store query out
unfolding even_admits even_sizes
admitted-answerable N K S server store query out fits whole admitted room =
    let p = both_true (eqb (length query) (K * N ^ (K - 1))) (all_below (N ^ K) query && every K (λ p. distinct (numbers_of N K p query))) admitted in
    let q = both_true (all_below (N ^ K) query) (every K (λ p. distinct (numbers_of N K p query))) p.1 in
    record {
      fits = fits;
      whole = whole;
      long = eqb-true (length query) (K * N ^ (K - 1)) p.0;
      named = all_below-below (N ^ K) query q.0;
      room = room;
    }
