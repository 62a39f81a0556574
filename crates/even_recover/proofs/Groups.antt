-- The group of a set with the wanted message: its numbers are those that the scheme has for the set, its rows are in the answer
-- buffer (`group-grouped`), and what they give is the scheme's `recovered_symbol` (`group-symbol`).
use Prim.Native.Nat.{ℕ, suc, ◌+◌, ◌-◌, ◌*◌, ◌/◌, ◌%◌, ◌^◌, ◌≤◌, ◌<◌}
use native.Mathlib.Nat.{mul_assoc, add-mul, suc-mul, mul-le-mul_right, one-le-pow, pow-succ', mul-div_cancel_left, mod-lt}
use native.Mathlib.Omega.{arith}
use mathlib.Core.Path.{◌≡◌, refl, sym, ap, ap₂, ◌∙◌}
use mathlib.Core.Logic.{◌≢◌}
use mathlib.Core.Bool.{Bool, true, false, cond}
use mathlib.Core.List.{List, []}
use borrow.Author.Tests.{eqb-false, ne_eqb}
use lib.Count.{ones-le}
use lib.Dec.{eqb}
use lib.ListN.{length, get_or, take, set}
use Rattle.lists.specs.Parts.{cut}
use Rattle.lists.proofs.Mapped.{mapped_at}
use Rattle.lists.proofs.Cuts.{cut-cut}
use Rattle.parameters.specs.Measures.{even_rows, even_sizes}
use Rattle.parameters.proofs.Bounds.{EvenBounds}
use Rattle.symbol.specs.Sum.{Sum, symbol_at, less}
use Rattle.scheme.specs.Scheme.{answers_in}
use Rattle.even_places.specs.Rule.{has, byte_of, ones_in, others, rows, layout, first_row}
use Rattle.even_places.proofs.Bytes.{byte-ones, byte-below}
use Rattle.even_places.proofs.ByteParts.{byte-before, byte-without}
use Rattle.even_places.proofs.Counts.{rows-length, row-count-is}
use Rattle.even_places.proofs.RowNumbers.{row_number_lem}
use Rattle.even_places.proofs.SetLaws.{ones-drop}
use Rattle.even_places.proofs.SourceRows.{Source, source_row_lem}
use Rattle.even_places.proofs.AllSets.{IsSet}
use Rattle.even_scheme.specs.Even.{answered_row, source_server, source_row, recovered_symbol, even_scheme}
use Rattle.even_recover.specs.declared.ServerRows.{ServerRows}
use Rattle.even_recover.specs.declared.Group.{Group}
use Rattle.even_recover.specs.Rows.{server_rows_of, own_row, joined_from, group_symbol, group_of, Grouped}

-- a server is read: parameters within their bounds, and a table with the first row of each set at the set's byte
pub record Reads (N K S wanted server : ℕ) (firsts : List ℕ) : Type 0 where
  pub bounds : EvenBounds N K S
  pub wanted-known : wanted < K
  pub server-known : server < N
  pub firsts-are : (A : List Bool) → IsSet K A → get_or firsts (byte_of A) 0 ≡ first_row A (layout N K)

-- a set of messages with the wanted one
pub record WantedSet (K wanted : ℕ) (A : List Bool) : Type 0 where
  pub good : IsSet K A
  pub has-wanted : has wanted A ≡ true

-- the rows of an answer buffer are those of its slots
row_read : (sum : Sum) (N K S wanted : ℕ) (key answers : List ℕ) (server row : ℕ) → server < N → row < even_rows N K
    → symbol_at S answers (server * even_rows N K + row)
    ≡ answered_row sum N K S wanted (answers_in (even_scheme sum N K S) N wanted key answers) server row
unfolding answered_row answers_in even_sizes
row_read sum N K S wanted key answers server row known within =
    ap (λ (at : ℕ). cut at S answers) offset
    ∙ sym (cut-cut (row * S) S (server * (even_rows N K * S)) (even_rows N K * S) answers inside)
    ∙ ap (cut (row * S) S) (sym (mapped_at (λ m. cut (m * (even_rows N K * S)) (even_rows N K * S) answers) [] N server known))
  where
    offset : (server * even_rows N K + row) * S ≡ server * (even_rows N K * S) + row * S
    offset = add-mul (server * even_rows N K) row S ∙ ap (λ (m : ℕ). m + row * S) (mul_assoc server (even_rows N K) S)

    inside : row * S + S ≤ even_rows N K * S
    inside = omega (arith, suc-mul row S, mul-le-mul_right S within)

module _ {N K S wanted server : ℕ} {firsts : List ℕ} (reads : Reads N K S wanted server firsts) where
  wide : 1 < N
  wide = reads.bounds.servers-low

  rows-count : length (rows N K wanted server) ≡ even_rows N K
  unfolding even_rows
  rows-count =
      rows-length N K wanted wide reads.wanted-known server reads.server-known ∙ row-count-is N K wide (omega (arith, reads.bounds.messages-low))

  -- row i of a set is a row of the query
  row_below : (A : List Bool) (i : ℕ) → IsSet K A → i < (N - 1) ^ (ones_in A - 1) → first_row A (layout N K) + i < even_rows N K
  row_below A i good h = omega (arith, (row_number_lem N K wanted wide reads.wanted-known server reads.server-known A i good h).0, rows-count)

  some-rows : (b : ℕ) → 1 ≤ (N - 1) ^ b
  some-rows b = one-le-pow b (N - 1) (omega (arith, wide))

  module _ {A : List Bool} (wanted_set : WantedSet K wanted A) (cell : ℕ) where
    abbrev here : ServerRows
    here = server_rows_of N K S wanted server

    abbrev group : Group
    group = group_of here (byte_of A) cell firsts

    good : IsSet K A
    good = wanted_set.good

    pub messages-is : group.messages ≡ ones_in A
    unfolding group_of
    messages-is = byte-ones A

    pub count-is : group.count ≡ (N - 1) ^ (ones_in A - 1)
    unfolding group_of
    count-is = ap (λ (m : ℕ). (N - 1) ^ (m - 1)) (byte-ones A)

    first-is : group.first ≡ first_row A (layout N K)
    unfolding group_of
    first-is = reads.firsts-are A good

    pub cell-is : group.cell ≡ cell + ones_in (take wanted A)
    unfolding group_of
    cell-is = ap (λ (m : ℕ). cell + m) (byte-before A wanted)

    many : group.messages ≢ 1 → 1 < ones_in A
    many joined = omega (arith, messages-is, good.some)

    -- where rows are joined from others
    module _ (joined : 1 < ones_in A) where
      source : (i : ℕ) → i < (N - 1) ^ (ones_in A - 1)
          → Source N K wanted server A i (get_or (others N server) (i / (N - 1) ^ (ones_in A - 2)) 0) (i % (N - 1) ^ (ones_in A - 2))
      source i h = source_row_lem N K wanted wide reads.wanted-known server reads.server-known A i good wanted_set.has-wanted joined h

      without-good : IsSet K (set A wanted false)
      without-good = (source 0 (some-rows (ones_in A - 1))).set-good

      source_is : group.source ≡ first_row (set A wanted false) (layout N K)
      unfolding group_of
      source_is = ap (λ (byte : ℕ). get_or firsts byte 0) (byte-without A wanted wanted_set.has-wanted) ∙ reads.firsts-are (set A wanted false) without-good

      turns-are : (N - 1) ^ (ones_in A - 1) ≡ (N - 1) * (N - 1) ^ (ones_in A - 2)
      turns-are = ap (λ (b : ℕ). (N - 1) ^ b) (let s : ones_in A - 1 ≡ suc (ones_in A - 2) = omega arith in s) ∙ pow-succ' (N - 1) (ones_in A - 2)

      each-is : group.each ≡ (N - 1) ^ (ones_in A - 2)
      unfolding group_of
      each-is =
          ap (λ (m : ℕ). m / (N - 1)) (count-is ∙ turns-are)
          ∙ mul-div_cancel_left ((N - 1) ^ (ones_in A - 2)) (let some : 0 < N - 1 = omega (arith, wide) in some)

      source-below : (r : ℕ) → r < (N - 1) ^ (ones_in A - 2) → first_row (set A wanted false) (layout N K) + r < even_rows N K
      source-below r h =
          let fewer : ones_in (set A wanted false) - 1 ≡ ones_in A - 2 = omega (arith, ones-drop A wanted wanted_set.has-wanted) in
          row_below (set A wanted false) r without-good (rw fewer h)

    pub group-grouped : Grouped here group
    group-grouped = record {
      small = omega (arith, messages-is, byte-ones A, ones-le (length A) (byte_of A) (byte-below A), good.long, reads.bounds.messages-high);
      own =
          let last = row_below A ((N - 1) ^ (ones_in A - 1) - 1) good (omega (arith, some-rows (ones_in A - 1))) in
          omega (arith, first-is, count-is, some-rows (ones_in A - 1));
      joined = λ joined.
          let last = source-below (many joined) ((N - 1) ^ (ones_in A - 2) - 1) (omega (arith, some-rows (ones_in A - 2))) in
          omega (arith, source_is (many joined), each-is (many joined), some-rows (ones_in A - 2));
      turns = λ joined. omega (arith, count-is, turns-are (many joined), ap (λ (m : ℕ). (N - 1) * m) (each-is (many joined)));
    }

    -- ---- What its rows give

    module _ (sum : Sum) (key answers : List ℕ) where
      abbrev slots : List (List ℕ)
      slots = answers_in (even_scheme sum N K S) N wanted key answers

      own_is : (i : ℕ) → i < (N - 1) ^ (ones_in A - 1)
          → symbol_at S answers (own_row here group i) ≡ answered_row sum N K S wanted slots server (first_row A (layout N K) + i)
      own_is i h =
          ap (λ (r : ℕ). symbol_at S answers (server * even_rows N K + (r + i))) first-is
          ∙ row_read sum N K S wanted key answers server (first_row A (layout N K) + i) reads.server-known (row_below A i good h)

      from_is : (joined : 1 < ones_in A) (i : ℕ) → i < (N - 1) ^ (ones_in A - 1)
          → symbol_at S answers (joined_from here group i)
          ≡ answered_row sum N K S wanted slots (source_server sum N K S wanted server A i) (source_row sum N K S wanted A i)
      unfolding joined_from source_server source_row
      from_is joined i h =
          let q = (N - 1) ^ (ones_in A - 2) in
          let row : ℕ → ℕ → ℕ = λ each first. get_or (others N server) (i / each) 0 * even_rows N K + (first + i % each) in
          ap (λ (t : Bool). symbol_at S answers (cond t (own_row here group i) (row group.each group.source)))
          (ne_eqb group.messages 1 (let many : group.messages ≢ 1 = λ e. omega (arith, messages-is, e) in many))
          ∙ ap₂ (λ (x r : ℕ). symbol_at S answers (row x r)) (each-is joined) (source_is joined)
          ∙ row_read sum N K S wanted key answers (get_or (others N server) (i / q) 0) (first_row (set A wanted false) (layout N K) + i % q)
          (source joined i h).server-below (source-below joined (i % q) (mod-lt i (some-rows (ones_in A - 2))))

      pub group-symbol : (i : ℕ) → i < (N - 1) ^ (ones_in A - 1) → group_symbol sum here group answers i ≡ recovered_symbol sum N K S wanted slots server A i
      unfolding group_symbol less recovered_symbol
      group-symbol i h = ap (λ (m : ℕ). less sum (eqb m 1) own from) messages-is ∙ go (eqb (ones_in A) 1) refl
        where
          own : List ℕ
          own = symbol_at S answers (own_row here group i)

          from : List ℕ
          from = symbol_at S answers (joined_from here group i)

          asked : List ℕ
          asked = answered_row sum N K S wanted slots server (first_row A (layout N K) + i)

          joined-from : List ℕ
          joined-from = answered_row sum N K S wanted slots (source_server sum N K S wanted server A i) (source_row sum N K S wanted A i)

          go : (t : Bool) → eqb (ones_in A) 1 ≡ t → less sum t own from ≡ cond t asked (sum.minus asked joined-from)
          go true alone = own_is i h
          go false f =
              let ne : ones_in A ≢ 1 = eqb-false (ones_in A) 1 f in
              let joined : 1 < ones_in A = omega (arith, ne, good.some) in
              ap₂ (λ (a b : List ℕ). sum.minus a b) (own_is i h) (from_is joined i h)
