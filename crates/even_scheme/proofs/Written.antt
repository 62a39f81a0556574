-- Recovery from answers of any contents writes the whole message and nothing behind it, whatever stood in the buffer and wherever it ends:
-- what is left by writing one part after another (`lay_all`) is the recovered message laid at its start: `slots-written`.
use mathlib.Core.Path.{◌≡◌, refl, ap, ◌∙◌}
use mathlib.Core.Bool.{Bool, true, false, cond}
use mathlib.Core.List.{List, []}
use Prim.Native.Nat.{ℕ, ◌+◌, ◌-◌, ◌*◌, ◌/◌, ◌%◌, ◌^◌, ◌≤◌, ◌<◌}
use native.Mathlib.Nat.{suc-mul, mul-le-mul_right}
use native.Mathlib.Omega.{arith}
use borrow.Author.Tests.{eqb-false}
use lib.Dec.{eqb}
use lib.ListN.{length, get_or, set, length-replicate}
use Rattle.lists.specs.Parts.{cut, lay}
use Rattle.lists.specs.Sums.{All}
use Rattle.lists.proofs.Cuts.{cut-length}
use Rattle.lists.proofs.Mapped.{mapped_at}
use Rattle.parameters.specs.Bounds.{even_fits}
use Rattle.parameters.specs.Measures.{even_sizes, even_rows}
use Rattle.parameters.proofs.Bounds.{EvenBounds, even-bounds}
use Rattle.symbol.specs.Sum.{Sum, zeros}
use Rattle.symbol.specs.Group.{KeepsLength}
use Rattle.scheme.specs.Scheme.{Valid, answers_in, recover_in}
use Rattle.even_places.specs.Rule.{ones_in, others, layout, first_row}
use Rattle.even_places.proofs.Counts.{rows-length}
use Rattle.even_places.proofs.RowNumbers.{row_number_lem}
use Rattle.even_places.proofs.SourceRows.{source_row_lem}
use Rattle.even_places.proofs.AllSets.{IsSet}
use Rattle.lists.specs.Assembled.{lay_all}
use Rattle.even_scheme.specs.Even.{answered_row, source_server, source_row, recovered_symbol, recovered_parts, even_scheme}
use Rattle.lists.proofs.Assembled.{PartWithin}
use Rattle.lists.proofs.Laid.{lay-all}
use Rattle.even_scheme.proofs.Covers.{Whole, parts_within, parts-cover}
use Rattle.even_scheme.proofs.Measures.{rows-counted}

-- an answer of one symbol for each row from each server
abbrev pub FullAnswers : ℕ → ℕ → ℕ → List (List ℕ) → Type 0
FullAnswers N K S answers = (n : ℕ) → n < N → length (get_or answers n []) ≡ even_rows N K * S

module _ (sum : Sum) (N K S k : ℕ) (keeps : KeepsLength sum.minus S) (wide : 1 < N) (known : k < K) (answers : List (List ℕ))
    (long : FullAnswers N K S answers) where
  -- row i of set A lies whole in a server's answer
  answered-long : (n : ℕ) → n < N → (A : List Bool) → IsSet K A → (i : ℕ) → i < (N - 1) ^ (ones_in A - 1)
      → length (answered_row sum N K S k answers n (first_row A (layout N K) + i)) ≡ S
  unfolding answered_row
  answered-long n l A good i h =
      let row = first_row A (layout N K) + i in
      let below : row < even_rows N K =
      omega (
        arith,
        (row_number_lem N K k wide known n l A i good h).0,
        rows-length N K k wide known n l,
        rows-counted N K wide (let w : 0 < K = omega arith in w),
      ) in
      cut-length (row * S) S (get_or answers n []) (omega (arith, suc-mul row S, mul-le-mul_right S below, long n l))

  recovered-whole : Whole sum N K S k answers
  unfolding recovered_symbol source_server source_row
  recovered-whole n A i wanted = go (eqb (ones_in A) 1) refl
    where
      m : ℕ
      m = get_or (others N n) (i / (N - 1) ^ (ones_in A - 2)) 0

      j : ℕ
      j = i % (N - 1) ^ (ones_in A - 2)

      here : List ℕ
      here = answered_row sum N K S k answers n (first_row A (layout N K) + i)

      there : List ℕ
      there = answered_row sum N K S k answers m (first_row (set A k false) (layout N K) + j)

      here-long : length here ≡ S
      here-long = answered-long n wanted.server-below A wanted.set-good i wanted.row_below

      go : (t : Bool) → eqb (ones_in A) 1 ≡ t → length (cond t here (sum.minus here there)) ≡ S
      go true e = here-long
      go false e =
          let many : 1 < ones_in A = omega (arith, eqb-false (ones_in A) 1 e, wanted.set-good.some) in
          let source = source_row_lem N K k wide known n wanted.server-below A i wanted.set-good wanted.in-set many wanted.row_below in
          keeps here there here-long (answered-long m source.server-below (set A k false) source.set-good j source.row_below)

module _ (sum : Sum) (N K S : ℕ) (keeps : KeepsLength sum.minus S) (fits : even_fits N K S ≡ true) (wanted : ℕ) (known : wanted < K)
    (key : List ℕ) (valid : Valid (even_scheme sum N K S) key) where
  bounds : EvenBounds N K S
  bounds = even-bounds N K S fits

  module _ (answers : List (List ℕ)) (long : FullAnswers N K S answers) where
    whole : Whole sum N K S wanted answers
    whole = recovered-whole sum N K S wanted keeps bounds.servers-low known answers long

    within : All (PartWithin (N ^ K * S)) (recovered_parts sum N K S wanted key answers)
    within = parts_within sum N K S wanted key answers bounds.servers-low known valid whole

    -- the parts written into a buffer are the recovered message at its start
    recover-written : (buffer : List ℕ)
        → lay_all (recovered_parts sum N K S wanted key answers) buffer ≡ lay 0 ((even_scheme sum N K S).recover wanted key answers) buffer
    recover-written buffer =
        lay-all (N ^ K * S) (recovered_parts sum N K S wanted key answers) (zeros (N ^ K * S)) buffer within
        (parts-cover sum N K S wanted key answers bounds.servers-low known valid whole bounds.symbol_low)
        (length-replicate (N ^ K * S) 0)

  -- and so from the slots of an answer buffer of any contents
  module _ (slots : List ℕ) (enough : N * (even_scheme sum N K S).sizes.slot ≤ length slots) where
    slots-long : FullAnswers N K S (answers_in (even_scheme sum N K S) N wanted key slots)
    unfolding answers_in even_sizes
    slots-long n l =
        let slot = even_rows N K * S in
        ap length (mapped_at (λ server. cut (server * slot) slot slots) [] N n l)
        ∙ cut-length (n * slot) slot slots (omega (arith, suc-mul n slot, mul-le-mul_right slot l))

    pub slots-written : (buffer : List ℕ)
        → lay_all (recovered_parts sum N K S wanted key (answers_in (even_scheme sum N K S) N wanted key slots)) buffer
        ≡ lay 0 (recover_in (even_scheme sum N K S) N wanted key slots) buffer
    slots-written buffer = recover-written (answers_in (even_scheme sum N K S) N wanted key slots) slots-long buffer
