-- Recovery server by server: one server's parts more are written (`before_more`).
use Prim.Native.Nat.{ℕ, ◌+◌}
use mathlib.Core.Path.{◌≡◌, refl, sym, ap, ◌∙◌}
use mathlib.Core.List.{List, flat_map}
use Rattle.lists.specs.Ranges.{range}
use Rattle.symbol.specs.Sum.{Sum}
use Rattle.scheme.specs.Scheme.{answers_in}
use Rattle.lists.specs.Parts.{lay}
use Rattle.lists.specs.Assembled.{assemble_by, lay_all}
use Rattle.even_scheme.specs.Even.{server_parts, recovered_parts, even_scheme}
use Rattle.lists.proofs.Assembled.{assemble-list}

module _ (sum : Sum) (N K S wanted : ℕ) (key answers : List ℕ) where
  -- the parts of the first servers
  unfoldable pub parts_before : ℕ → List (ℕ × List ℕ)
  parts_before servers = flat_map (server_parts sum N K S wanted key (answers_in (even_scheme sum N K S) N wanted key answers)) (range 0 servers)

  pub before-none : (buffer : List ℕ) → buffer ≡ lay_all (parts_before 0) buffer
  unfolding parts_before range flat_map assemble_by
  before-none buffer = refl

  pub before_more : (server : ℕ) (start message done : List ℕ) → message ≡ lay_all (parts_before server) start
      → done ≡ lay_all (server_parts sum N K S wanted key (answers_in (even_scheme sum N K S) N wanted key answers) server) message
      → done ≡ lay_all (parts_before (server + 1)) start
  unfolding parts_before
  before_more server start message done e f =
      let parts = server_parts sum N K S wanted key (answers_in (even_scheme sum N K S) N wanted key answers) in
      f ∙ ap (lay_all (parts server)) e ∙ sym (assemble-list lay parts server start)

  pub before-all : (servers : ℕ) → servers ≡ N
      → parts_before servers ≡ recovered_parts sum N K S wanted key (answers_in (even_scheme sum N K S) N wanted key answers)
  unfolding parts_before recovered_parts
  before-all servers e = ap (λ (n : ℕ). flat_map (server_parts sum N K S wanted key (answers_in (even_scheme sum N K S) N wanted key answers)) (range 0 n)) e
