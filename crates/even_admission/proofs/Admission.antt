-- Admission is the pass over the query, with the message at each position from the table: `admits-pass`.
use mathlib.Core.Path.{◌≡◌, refl, sym, ◌∙◌}
use mathlib.Core.Bool.{Bool, true, false, ◌&&◌}
use mathlib.Core.List.{List, zip_with}
use Prim.Native.Nat.{ℕ, ◌-◌, ◌*◌, ◌^◌}
use borrow.Author.Tests.{eq-eqb}
use lib.ListN.{length, take, replicate}
use Rattle.lists.specs.Below.{all_below}
use Rattle.lists.specs.Distinct.{distinct}
use Rattle.lists.specs.Padded.{padded}
use Rattle.lists.specs.Ranges.{every}
use Rattle.lists.proofs.Below.{all_below-below}
use Rattle.lists.proofs.Cuts.{front-is}
use Rattle.even_places.specs.Rule.{positions}
use Rattle.even_places.proofs.Positions.{positions-length, positions-below}
use Rattle.even_scheme.specs.Even.{numbers_of, even_admits}
use Rattle.even_sets.specs.Sets.{LayoutBounds}
use Rattle.even_admission.specs.Cells.{cell_of}
use Rattle.even_admission.proofs.Fresh.{distinct-cells}

-- the positions of a query of the right length, from the table
pub positions-front : (N K : ℕ) (table query : List ℕ) → LayoutBounds N K → table ≡ padded 1024 (positions N K) → length query ≡ K * N ^ (K - 1)
    → take (length query) table ≡ positions N K
positions-front N K table query bounds e f =
    front-is (length query) table (positions N K) (replicate (1024 - length (positions N K)) 0) e
    (positions-length N K bounds.servers-low bounds.messages-low ∙ sym f)

-- the pass over a query of the right length decides
pub admits-pass : (N K server : ℕ) (query : List ℕ) → length query ≡ K * N ^ (K - 1)
    → all_below (N ^ K) query && distinct (zip_with (cell_of (N ^ K)) (positions N K) query) ≡ even_admits N K server query
unfolding even_admits numbers_of
admits-pass N K server query e = rw (eq-eqb (length query) (K * N ^ (K - 1)) e) (go (all_below (N ^ K) query) refl)
  where
    go : (t : Bool) → all_below (N ^ K) query ≡ t
        → t && distinct (zip_with (cell_of (N ^ K)) (positions N K) query) ≡ t && every K (λ p. distinct (numbers_of N K p query))
    go true t = distinct-cells (N ^ K) K (positions N K) query (positions-below N K) (all_below-below (N ^ K) query t)
    go false t = refl
