-- `even_admission::admits` meets its contract: a query of the right length is admitted if the pass over it finds all fresh.
use mathlib.Core.Path.{◌≡◌, sym, ap, ap₂, ◌∙◌}
use Prim.Native.Nat.{ℕ, ◌-◌, ◌*◌, ◌^◌}
use native.Mathlib.Omega.{arith}
use lib.ListN.{length}
use borrow.Author.Tests.{ne_eqb}
use mathlib.Core.Bool.{◌&&◌}
use mathlib.Core.List.{List, zip_with}
use Rattle.lists.specs.Below.{all_below}
use Rattle.lists.specs.Distinct.{distinct}
use Rattle.even_admission.specs.Cells.{cell_of}
use Rattle.even_places.proofs.Positions.{positions-length, positions-below}
use Rattle.even_scheme.specs.Even.{even_admits}
use Rattle.even_admission.proofs.Admission.{positions-front, admits-pass}
use Rattle.even_admission.proofs.admits.Goals as goal

pub returns-then-query-k : goal.returns-then-query-k
unfolding even_admits
returns-then-query-k c = let k = c.args.k in
    rw (ne_eqb (length c.args.query.now) (k * c.args.n ^ (k - 1))
    (λ e. c.if-query-k.true (e ∙ ap (λ (m : ℕ). k * m) (sym c.power.ensures))))

pub all_fresh-requires : goal.all_fresh-requires
all_fresh-requires c = let n = c.args.n in
    let k = c.args.k in
    let query = c.args.query.now in
    let long : length query ≡ k * n ^ (k - 1) = c.if-query-k.false ∙ ap (λ (m : ℕ). k * m) c.power.ensures in
    let table = c.positions-messages in
    let front = positions-front n k c.positions-messages.result query c.requires c.positions-messages.ensures long in (
      omega (arith, c.power-2.ensures, c.requires.symbols-high),
      ap length front ∙ positions-length n k c.requires.servers-low c.requires.messages-low ∙ sym long,
      rw front (λ i h. omega (arith, positions-below n k i h, c.requires.messages-high)),
    )

pub returns : goal.returns
returns c = let n = c.args.n in
    let k = c.args.k in
    let query = c.args.query.now in
    let long : length query ≡ k * n ^ (k - 1) = c.if-query-k.false ∙ ap (λ (m : ℕ). k * m) c.power.ensures in
    let table = c.positions-messages in
    c.all_fresh.ensures
    ∙ ap₂ (λ (m : ℕ) (l : List ℕ). all_below m query && distinct (zip_with (cell_of m) l query)) c.power-2.ensures
    (positions-front n k c.positions-messages.result query c.requires c.positions-messages.ensures long)
    ∙ admits-pass n k c.args.server query long
