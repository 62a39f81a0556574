-- `even_query::Walk::write_row` meets its contract: after p turns the places of the set's messages from p on are still to be written.
use mathlib.Core.List.{List, map}
use Prim.Native.Nat.{ℕ}
use Rattle.lists.specs.Below.{Below}
use Rattle.lists.proofs.Writing.{Pending}
use Rattle.even_places.specs.Rule.{members}
use Rattle.even_sets.specs.Sets.{set_in}
use Rattle.even_layout.proofs.Bytes.{members_from}
use Rattle.even_ranks.specs.declared.Origin.{Origin}
use Rattle.even_ranks.specs.Walk.{origin_place}
use Rattle.even_query.proofs.Walk.write_row.Given as goal

-- the places of the set's messages from p on
abbrev pub places_from : ℕ → ℕ → ℕ → List ℕ → List ℕ → Origin → ℕ → ℕ → List ℕ
places_from n k wanted totals ranks o p rest = map (origin_place n wanted totals ranks o) (members_from k p rest)

abbrev pub invariant-loop-p : goal.invariant-loop-p
invariant-loop-p l =
    Below 256 (places_from l.self.servers l.self.messages l.self.wanted l.self.totals.now l.ranks l.o l.p l.rest)
    × Pending l.at (map (origin_place l.self.servers l.self.wanted l.self.totals.now l.ranks l.o) (members 0 (set_in l.self.messages l.set))) l.initial.out l.end (places_from l.self.servers l.self.messages l.self.wanted l.self.totals.now l.ranks l.o l.p l.rest) l.out
