-- `printing::Queries::put_queries` meets its contract: after so many servers their lines stand side by side. A line has at most 19 bytes and 4 for each
-- byte of its query, and the page has room for N of them.
use mathlib.Core.Path.{◌≡◌}
use mathlib.Core.List.{List}
use Prim.Native.Nat.{ℕ, ◌+◌, ◌*◌, ◌≤◌}
use lib.ListN.{length}
use Rattle.lists.specs.Parts.{put}
use Rattle.codes.specs.Codes.{scheme_of}
use Rattle.printing.specs.Input.{Asked, asked}
use Rattle.printing.proofs.Lines.{lines_to}
use Rattle.printing.proofs.Queries.put_queries.Given as goal

-- after so many servers, over the buffer at first
pub record Printed (a : Asked) (size : ℕ) (first out : List ℕ) (at server : ℕ) : Type 0 where
  pub place : at ≡ length (lines_to scheme_of a server)
  pub most : at ≤ server * (19 + 4 * size)
  pub lines : out ≡ put 0 (lines_to scheme_of a server) first
  pub same : length out ≡ length first

abbrev pub invariant-loop-server : goal.invariant-loop-server
invariant-loop-server l = Printed (asked l.self.catalogue l.self.wanted l.self.key.now) l.self.size l.initial.out l.out l.at l.server
