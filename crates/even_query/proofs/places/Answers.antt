-- `even_query::places` meets its contract: the walk over the sets in order, with the tables of their counts, writes the rule's places.
use mathlib.Core.Path.{ap, ◌∙◌}
use mathlib.Core.List.{List, map}
use Prim.Native.Nat.{ℕ}
use native.Mathlib.Omega.{arith}
use lib.ListN.{length, replicate}
use Rattle.lists.specs.Parts.{put}
use Rattle.lists.proofs.Puts.{put-padded}
use Rattle.even_places.specs.Rule.{query_cells}
use Rattle.even_sets.proofs.SetBytes.{table-front}
use Rattle.even_ranks.proofs.Steps.{totals-length, totals-below}
use Rattle.even_query.proofs.Whole.{places-are, places-below, places-length, query-room}
use Rattle.even_query.proofs.places.Goals as goal

pub totals-totals-requires : goal.totals-totals-requires
totals-totals-requires c = let p = c.requires in
    (p.bounds.messages-high, p.message, table-front c.args.k c.power-count.ensures c.ordered_sets-table.ensures)

pub takings-taken-requires : goal.takings-taken-requires
takings-taken-requires c = let a = c.args in
    let p = c.requires in
    let e = c.totals-totals.ensures in (
      omega (arith, p.bounds.servers-low),
      p.servers-high,
      ap length e
          ∙ totals-length a.k a.wanted p.bounds.messages-high,
      rw e (totals-below a.k a.wanted p.bounds.messages-high),
    )

pub write_sets-requires : goal.write_sets-requires
write_sets-requires c =
    let a = c.args in
    let p = c.requires in
    let are = places-are a.n a.k a.wanted a.server p c.totals-totals.result c.totals-totals.ensures in (
      table-front a.k c.power-count.ensures c.ordered_sets-table.ensures,
      rw are (places-below a.n a.k a.wanted a.server p),
      rw are (omega (arith, places-length a.n a.k a.wanted a.server p, query-room a.n a.k a.wanted a.server p)),
    )

pub returns : goal.returns
returns c = let a = c.args in
    c.write_sets.ensures
    ∙ ap (λ (l : List ℕ). put 0 l (replicate 1024 0)) (places-are a.n a.k a.wanted a.server c.requires c.totals-totals.result c.totals-totals.ensures)
    ∙ put-padded (map (λ cell. cell.1) (query_cells a.n a.k a.wanted a.server)) 1024
