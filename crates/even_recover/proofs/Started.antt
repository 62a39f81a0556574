-- Before the first set of a server is recovered: the query, the table of first rows and what is the same for all rows are as they
-- should be (`at_hand`), the answer buffer holds the rows of all (`started-held`), and nothing is written (`fetched-none`).
use Prim.Native.Nat.{ℕ, ◌*◌, ◌≤◌, ◌<◌}
use native.Mathlib.Nat.{mul_assoc}
use native.Mathlib.Omega.{arith}
use mathlib.Core.Path.{◌≡◌, refl, ap, ◌∙◌}
use mathlib.Core.Bool.{true}
use mathlib.Core.List.{List, map, flat_map}
use lib.ListN.{length, get_or, drop, length-append, get_or-append}
use Rattle.lists.specs.Parts.{put}
use Rattle.lists.specs.Sums.{keep, sum as summed}
use Rattle.lists.proofs.Mapped.{mapped-length}
use Rattle.parameters.specs.Bounds.{even_fits}
use Rattle.parameters.specs.Measures.{even_rows}
use Rattle.parameters.proofs.Bounds.{EvenBounds, even-bounds}
use Rattle.symbol.specs.Sum.{Sum}
use Rattle.even_places.specs.Rule.{byte_of, all_sets}
use Rattle.lists.specs.Assembled.{assemble_by}
use Rattle.even_scheme.specs.Even.{even_query}
use Rattle.even_layout.specs.Layout.{first_rows, first_row_of}
use Rattle.even_layout.proofs.Firsts.{first-rows-at}
use Rattle.even_recover.specs.declared.ServerRows.{ServerRows}
use Rattle.even_recover.specs.Rows.{server_rows_of, Held}
use Rattle.even_recover.proofs.Groups.{Reads}
use Rattle.even_recover.proofs.GroupParts.{HasQuery}
use Rattle.even_recover.proofs.Sized.{sized}
use Rattle.even_recover.proofs.Fetched.{AtHand, Fetched, parts_of}

-- a query written to the front of a buffer
has-query : (N K wanted server : ℕ) (key query space : List ℕ) → query ≡ put 0 (even_query N K wanted server key) space
    → HasQuery N K wanted server key query
has-query N K wanted server key query space e =
    let bytes = even_query N K wanted server key in
    let rest = drop (length bytes) space in
    record {
      room = omega (arith, ap length e, length-append bytes rest);
      same = λ c h. ap (λ (l : List ℕ). get_or l c 0) e ∙ get_or-append bytes rest 0 c h;
    }

pub firsts-length : (N K : ℕ) → length (first_rows N K) ≡ 256
unfolding first_rows
firsts-length N K = mapped-length (first_row_of N K) 0 256

module _ (N K S wanted server : ℕ) (fits : even_fits N K S ≡ true) (wanted-known : wanted < K) (server-known : server < N) where
  bounds : EvenBounds N K S
  bounds = even-bounds N K S fits

  reads : (firsts : List ℕ) → firsts ≡ first_rows N K → Reads N K S wanted server firsts
  reads firsts e = record {
    bounds = bounds;
    wanted-known = wanted-known;
    server-known = server-known;
    firsts-are = λ A good. ap (λ (l : List ℕ). get_or l (byte_of A) 0) e ∙ first-rows-at N K A bounds.messages-high good.long good.some;
  }

  pub started-held : (answers : List ℕ) → N * (even_rows N K * S) ≤ length answers → Held (server_rows_of N K S wanted server) answers
  started-held answers h = record {
    bounded = record {
      known = server-known;
      few = bounds.servers-high;
      short = (sized bounds wanted-known).rows-high;
      narrow = bounds.symbol_high;
    };
    held = omega (arith, mul_assoc N (even_rows N K) S);
  }

  pub at_hand : (key sets firsts : List ℕ) (here : ServerRows) (query space : List ℕ)
      → sets ≡ map byte_of (all_sets K) → firsts ≡ first_rows N K
      → here ≡ server_rows_of N K S wanted server → query ≡ put 0 (even_query N K wanted server key) space
      → AtHand N K S wanted server key sets firsts here query
  at_hand key sets firsts here query space sets-are firsts-are here-is query-is = record {
    reads = reads firsts firsts-are;
    asked = has-query N K wanted server key query space query-is;
    sets-are = sets-are;
    table = ap length firsts-are ∙ firsts-length N K;
    here-is = here-is;
  }

pub fetched-none : {sum : Sum} {N K S wanted server : ℕ} {key answers start : List ℕ} → Fetched sum N K S wanted server key answers start start 0 0
unfolding summed parts_of keep flat_map assemble_by
fetched-none = record { cell-is = refl; near = omega arith; written = refl }
