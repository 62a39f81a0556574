-- Recovery from one server, set by set: what is at hand (`AtHand`), what holds before set j is recovered (`Fetched`), that its group is
-- ready (`set-ready`), that the same holds of the next set then (`fetched-more`), and that in the end the scheme's `server_parts` are
-- written (`fetched-done`).
use Prim.Native.Nat.{ℕ, ◌+◌, ◌-◌, ◌*◌, ◌/◌, ◌%◌, ◌^◌, ◌≤◌, ◌<◌}
use native.Mathlib.Nat.{mul-le-mul}
use native.Mathlib.Numerals.{add-one}
use native.Mathlib.Omega.{arith}
use mathlib.Core.Path.{◌≡◌, refl, sym, ap, ap₂, ◌∙◌}
use mathlib.Core.Bool.{Bool, true, false, cond}
use mathlib.Core.List.{List, [], ◌∷◌, ◌++◌, append-nil, map, flat_map}
use lib.Count.{ones as count}
use lib.Dec.{eqb}
use lib.ListN.{length, get_or, take, length-map}
use lib.Seq.{take-suc, take_all}
use Rattle.lists.specs.Ranges.{range}
use Rattle.lists.specs.Sums.{bit, keep, keep_if, sum as summed}
use Rattle.lists.proofs.Joined.{flat_map-append}
use Rattle.lists.proofs.Sums.{sum-append}
use Rattle.lists.proofs.Keep.{keep_append}
use Rattle.symbol.specs.Sum.{Sum}
use Rattle.scheme.specs.Scheme.{answers_in}
use Rattle.even_places.specs.Rule.{has, byte_of, ones_in, all_sets}
use Rattle.even_places.proofs.Bytes.{byte-ones, byte-has}
use Rattle.even_places.proofs.ByteParts.{byte-covers}
use Rattle.even_places.proofs.WantedCells.{cells_of}
use Rattle.even_places.proofs.AllSets.{ones-most}
use Rattle.lists.specs.Parts.{lay}
use Rattle.lists.specs.Assembled.{lay_all}
use Rattle.even_scheme.specs.Even.{recovered_part, server_parts, even_scheme}
use Rattle.even_sets.specs.Sets.{rows_of}
use Rattle.even_sets.proofs.Blocks.{all-length, subsets-few}
use Rattle.even_sets.proofs.Fits.{layout-bounds}
use Rattle.even_sets.proofs.SetBytes.{SetByte, byte_at}
use Rattle.even_recover.specs.declared.ServerRows.{ServerRows}
use Rattle.even_recover.specs.Rows.{server_rows_of, group_parts, group_of, set_parts, Ready}
use Rattle.even_recover.proofs.Groups.{Reads, WantedSet, group-grouped}
use Rattle.even_recover.proofs.GroupParts.{HasQuery, group-named, group-parts}
use Rattle.even_recover.proofs.Sized.{Sized, sized}
use Rattle.lists.proofs.Assembled.{assemble-append}

module _ (sum : Sum) (N K S wanted server : ℕ) (key answers : List ℕ) where
  -- the parts that one set gives, and those with the wanted message among some sets
  unfoldable pub parts_of_set : List Bool → List (ℕ × List ℕ)
  parts_of_set A =
      map (recovered_part sum N K S wanted key (answers_in (even_scheme sum N K S) N wanted key answers) server A) (range 0 ((N - 1) ^ (ones_in A - 1)))

  unfoldable pub parts_of : List (List Bool) → List (ℕ × List ℕ)
  parts_of sets = flat_map parts_of_set (keep (has wanted) sets)

  parts_all : parts_of (all_sets K) ≡ server_parts sum N K S wanted key (answers_in (even_scheme sum N K S) N wanted key answers) server
  unfolding parts_of parts_of_set server_parts
  parts_all = refl

  parts_more : (sets : List (List Bool)) (A : List Bool) → parts_of (sets ++ (A ∷ [])) ≡ parts_of sets ++ cond (has wanted A) (parts_of_set A) []
  unfolding parts_of keep keep_if flat_map
  parts_more sets A =
      ap (flat_map parts_of_set) (keep_append (has wanted) sets (A ∷ []))
      ∙ flat_map-append parts_of_set (keep (has wanted) sets) (keep (has wanted) (A ∷ []))
      ∙ ap (λ (l : List (ℕ × List ℕ)). parts_of sets ++ l) (go (has wanted A))
    where
      go : (t : Bool) → flat_map parts_of_set (keep_if t A []) ≡ cond t (parts_of_set A) []
      go true = append-nil (parts_of_set A)
      go false = refl

-- the server's query, all sets in order, the table of first rows, and what is the same for all rows
pub record AtHand (N K S wanted server : ℕ) (key sets firsts : List ℕ) (here : ServerRows) (query : List ℕ) : Type 0 where
  pub reads : Reads N K S wanted server firsts
  pub asked : HasQuery N K wanted server key query
  pub sets-are : sets ≡ map byte_of (all_sets K)
  pub table : length firsts ≡ 256
  pub here-is : here ≡ server_rows_of N K S wanted server

-- sets 0 to j - 1 are recovered
pub record Fetched (sum : Sum) (N K S wanted server : ℕ) (key answers start message : List ℕ) (cell j : ℕ) : Type 0 where
  pub cell-is : cell ≡ summed (cells_of N) (take j (all_sets K))
  pub near : cell ≤ j * 2048
  pub written : message ≡ lay_all (parts_of sum N K S wanted server key answers (take j (all_sets K))) start

module _ {sum : Sum} {N K S wanted server : ℕ} {key sets firsts answers start message : List ℕ} {here : ServerRows} {query : List ℕ} {cell j : ℕ}
    (hand : AtHand N K S wanted server key sets firsts here query) (fetched : Fetched sum N K S wanted server key answers start message cell j)
    (more : j < length sets) where
  abbrev A : List Bool
  A = get_or (all_sets K) j []

  more-sets : j < length (all_sets K)
  more-sets = omega (arith, ap length hand.sets-are, length-map (all_sets K) byte_of)

  pub set-near : j < 256
  set-near = omega (arith, more-sets, all-length K, subsets-few K hand.reads.bounds.messages-high)

  pub set_is : SetByte N K (get_or sets j 0) A
  set_is = byte_at N K j sets [] (layout-bounds hand.reads.bounds) (hand.sets-are ∙ sym (append-nil (map byte_of (all_sets K)))) more-sets

  few-cells : cells_of N A ≤ 2048
  unfolding cells_of rows_of
  few-cells = mul-le-mul set_is.high (let few : ones_in A ≤ 8 = omega (arith, ones-most A, set_is.is.long, hand.reads.bounds.messages-high) in few)

  cells_are : (N - 1) ^ (count (get_or sets j 0) - 1) * count (get_or sets j 0) ≡ cells_of N A
  unfolding cells_of
  cells_are = ap (λ (m : ℕ). (N - 1) ^ (m - 1) * m) (ap count set_is.byte ∙ byte-ones A)

  pub cells-near : cell + (N - 1) ^ (count (get_or sets j 0) - 1) * count (get_or sets j 0) ≤ 524288
  cells-near = omega (arith, few-cells, cells_are, fetched.near, set-near)

  -- the bit of the wanted message
  bit_is : get_or sets j 0 / here.bit % 2 ≡ bit (has wanted A)
  bit_is = ap₂ (λ (set b : ℕ). set / b % 2) set_is.byte (ap (λ (r : ServerRows). r.bit) hand.here-is) ∙ byte-has A wanted

  wanted-set : has wanted A ≡ true → WantedSet K wanted A
  wanted-set e = record { good = record { long = set_is.is.long; some = set_is.is.some }; has-wanted = e }

  set-parts : set_parts sum here (get_or sets j 0) cell firsts query answers ≡ cond (has wanted A) (parts_of_set sum N K S wanted server key answers A) []
  unfolding set_parts parts_of_set bit
  set-parts = rw (bit_is, hand.here-is, set_is.byte, fetched.cell-is) (go (has wanted A) refl)
    where
      parts : List (ℕ × List ℕ)
      parts = group_parts sum (server_rows_of N K S wanted server)
          (group_of (server_rows_of N K S wanted server) (byte_of A) (summed (cells_of N) (take j (all_sets K))) firsts) query answers

      go : (t : Bool) → has wanted A ≡ t → cond (eqb (bit t) 1) parts [] ≡ cond t (parts_of_set sum N K S wanted server key answers A) []
      go true e = group-parts sum hand.reads hand.asked j more-sets (wanted-set e) answers
      go false e = refl

  pub set-ready : get_or sets j 0 / here.bit % 2 ≡ 1 → Ready here (get_or sets j 0) cell firsts query
  unfolding bit
  set-ready e = rw (hand.here-is, set_is.byte, fetched.cell-is) (go (has wanted A) refl (sym bit_is ∙ e))
    where
      small : Sized N K wanted
      small = sized hand.reads.bounds hand.reads.wanted-known

      go : (t : Bool) → has wanted A ≡ t → bit t ≡ 1
          → Ready (server_rows_of N K S wanted server) (byte_of A) (summed (cells_of N) (take j (all_sets K))) firsts query
      go false f g = absurd (let w : ⊥ = omega arith in w)
      go true f g = record {
        given = record {
          two = hand.reads.bounds.servers-low;
          wanted-low = small.bit-low;
          wanted-high = byte-covers A wanted f;
          some = omega (arith, set_is.some, ap count set_is.byte);
          few = omega (arith, set_is.high, set_is.rows, ap (λ (set : ℕ). (N - 1) ^ (count set - 1)) set_is.byte);
          near = omega (arith, cells-near, fetched.cell-is);
          table = hand.table;
        };
        grouped = group-grouped hand.reads (wanted-set f) (summed (cells_of N) (take j (all_sets K)));
        named = group-named sum hand.reads hand.asked j more-sets (wanted-set f);
      }

  next-sets : take (j + 1) (all_sets K) ≡ take j (all_sets K) ++ (A ∷ [])
  next-sets = ap (λ (n : ℕ). take n (all_sets K)) (add-one j) ∙ take-suc (all_sets K) j [] more-sets

  pub fetched-more : (done : List ℕ) (next : ℕ)
      → done ≡ lay_all (set_parts sum here (get_or sets j 0) cell firsts query answers) message
      → next ≡ cell + (N - 1) ^ (count (get_or sets j 0) - 1) * count (get_or sets j 0)
      → Fetched sum N K S wanted server key answers start done next (j + 1)
  unfolding summed
  fetched-more done next e f = record {
    cell-is = rw next-sets (omega (arith, cells_are, fetched.cell-is, sum-append (cells_of N) (take j (all_sets K)) (A ∷ [])));
    near = omega (arith, cells_are, few-cells, fetched.near);
    written =
        e
        ∙ ap₂ lay_all set-parts fetched.written
        ∙ sym (assemble-append lay (parts_of sum N K S wanted server key answers (take j (all_sets K)))
        (cond (has wanted A) (parts_of_set sum N K S wanted server key answers A) []) start)
        ∙ ap (λ (l : List (ℕ × List ℕ)). lay_all l start)
        (sym (ap (parts_of sum N K S wanted server key answers) next-sets ∙ parts_more sum N K S wanted server key answers (take j (all_sets K)) A));
  }

pub fetched-done : {sum : Sum} {N K S wanted server : ℕ} {key sets answers start message : List ℕ} {cell j : ℕ}
    → Fetched sum N K S wanted server key answers start message cell j → sets ≡ map byte_of (all_sets K) → length sets ≤ j
    → message ≡ lay_all (server_parts sum N K S wanted key (answers_in (even_scheme sum N K S) N wanted key answers) server) start
fetched-done {sum} {N} {K} {S} {wanted} {server} {key} {sets} {answers} {start} {j} fetched sets-are end =
    let all : length (all_sets K) ≤ j = omega (arith, ap length sets-are, length-map (all_sets K) byte_of) in
    fetched.written
    ∙ ap (λ (l : List (List Bool)). lay_all (parts_of sum N K S wanted server key answers l) start) (take_all j (all_sets K) all)
    ∙ ap (λ (l : List (ℕ × List ℕ)). lay_all l start) (parts_all sum N K S wanted server key answers)
