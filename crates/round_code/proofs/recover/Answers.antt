-- `round_code::recover` meets its contract: after i turns the first i blocks are written, as far as the message reaches, and `before` is how long server
-- 0's answers to their rows are together.
use mathlib.Core.Path.{◌≡◌, sym, ap, ap₂, ◌∙◌}
use mathlib.Core.Bool.{true, cond}
use mathlib.Core.List.{List, flat_map}
use Prim.Native.Nat.{ℕ, ◌+◌, ◌-◌, ◌*◌, ◌≤◌, ◌<◌}
use native.Mathlib.Nat.{mul-le-mul, zero-add}
use native.Mathlib.Numerals.{add-one}
use native.Mathlib.Omega.{arith}
use lib.Dec.{eqb}
use lib.ListN.{length, get_or}
use Rattle.lists.specs.Below.{Below}
use Rattle.lists.specs.Parts.{lay}
use Rattle.lists.specs.Ranges.{range}
use Rattle.lists.proofs.Joined.{flat_map-next}
use Rattle.lists.proofs.Laid.{lay-nil, lay-next}
use Rattle.parameters.specs.Bounds.{blocks, round_fits}
use Rattle.parameters.specs.Measures.{round_sizes}
use Rattle.symbol.specs.Sum.{Sum}
use Rattle.symbol.specs.Operations.{sum_of}
use Rattle.symbol.proofs.Operations.{group_of}
use Rattle.scheme.specs.Scheme.{Valid}
use Rattle.round_scheme.specs.Round.{round_query, round_scheme}
use Rattle.round_scheme.proofs.Lengths.{before-none, before-short}
use Rattle.round_code.specs.Steps.{row_starts, block_from}
use Rattle.round_code.proofs.Fits.{fits-numbers}
use Rattle.round_code.proofs.Blocks.{first_before, block_at, Given, bounds, all, wide, symbols-low, block-low, before-inside, first_next}
use Rattle.round_code.proofs.Blocks.{blocks-long, blocks-recovered}
use Rattle.round_code.proofs.recover.Goals as goal

given : {sum : Sum} {N K S wanted : ℕ} {key answers : List ℕ} → round_fits N K S ≡ true → wanted < K → Valid (round_scheme sum N K S) key
    → N * (round_sizes N K S).slot ≤ length answers → Given sum N K S wanted key answers
given fits known valid room = record { fits = fits; known = known; valid = valid; room = room }

-- a slot has a symbol for each block, and is small
slot-small : {sum : Sum} {N K S wanted : ℕ} {key answers : List ℕ} → Given sum N K S wanted key answers
    → (length key * S ≡ blocks N K * S) × (length key * S ≤ 64 * 4096)
slot-small {N = N} {K = K} {S = S} given =
    let e = ap (λ (v : ℕ). v * S) (all given).long in
    (e, omega (arith, e, symbols-low given (blocks N K) (omega arith)))

pub overflow_mul-slot : goal.overflow_mul-slot
overflow_mul-slot c =
    let given = given c.requires.s_value c.requires.wanted_lt_k c.requires.valid c.requires.s_in_bounds in
    omega (arith, slot-small given)

pub overflow_sub-block : goal.overflow_sub-block
overflow_sub-block c =
    let given = given c.requires.s_value c.requires.wanted_lt_k c.requires.valid c.requires.s_in_bounds in
    omega (arith, wide given)

pub overflow_mul-block : goal.overflow_mul-block
overflow_mul-block c =
    let given = given c.requires.s_value c.requires.wanted_lt_k c.requires.valid c.requires.s_in_bounds in
    omega (arith, block-low given)

pub loop-i-init : goal.loop-i-init
unfolding range flat_map
loop-i-init c =
    let a = c.args in
    (sym (before-none a.k a.s (round_query a.n a.k a.wanted 0 a.key.now)), sym (lay-nil 0 a.message.now))

pub overflow_mul-at : goal.overflow_mul-at
overflow_mul-at c =
    let given = given c.requires.s_value c.requires.wanted_lt_k c.requires.valid c.requires.s_in_bounds in
    let few : c.loop-i.i ≤ 64 = omega (arith, (all given).long, (bounds given).blocks-high) in
    omega (arith, mul-le-mul few (block-low given))

pub overflow_mul-i : goal.overflow_mul-i
overflow_mul-i c =
    let given = given c.requires.s_value c.requires.wanted_lt_k c.requires.valid c.requires.s_in_bounds in
    omega (arith, symbols-low given c.loop-i.i (omega (arith, (all given).long)))

pub recover_block-requires : goal.recover_block-requires
unfolding round_sizes
recover_block-requires c =
    let a = c.args in
    let given = given c.requires.s_value c.requires.wanted_lt_k c.requires.valid c.requires.s_in_bounds in
    let slot = slot-small given in
    let low : c.loop-i.i < blocks a.n a.k = omega (arith, (all given).long) in
    let ends = before-inside given c.loop-i.i low in record {
      round_numbers = fits-numbers a.n a.k a.s given.fits;
      bound = (all given).low c.loop-i.i low;
      s_nonzero = ((bounds given).symbol_low, omega (arith, ends.1, slot), omega (arith, slot));
      s_bound = (omega (arith, ends.0, slot, c.loop-i.invariant.0), omega (arith, ends.1, slot), rw slot.0 given.room);
    }

-- server 0's answers with those to one row more
row-added : {sum : Sum} {N K S wanted : ℕ} {key answers : List ℕ} → Given sum N K S wanted key answers → (i before one : ℕ) → i < blocks N K
    → before ≡ first_before N K S wanted key i → one ≡ cond (eqb (get_or key i 0) 0) 0 S → before + one ≡ first_before N K S wanted key (i + 1)
row-added given i before one low e f = ap₂ (λ (m r : ℕ). m + r) e f ∙ first_next given i low

pub overflow_add-before : goal.overflow_add-before
overflow_add-before c =
    let a = c.args in
    let given = given c.requires.s_value c.requires.wanted_lt_k c.requires.valid c.requires.s_in_bounds in
    let low : c.loop-i.i < blocks a.n a.k = omega (arith, (all given).long) in
    let added = row-added given c.loop-i.i c.loop-i.before c.first_length-before.result low c.loop-i.invariant.0 c.first_length-before.ensures in
    let next = before-short a.k a.s (round_query a.n a.k a.wanted 0 a.key.now) (c.loop-i.i + 1) in
    record { fits = omega (arith, added, next, symbols-low given (c.loop-i.i + 1) (omega (arith, low))) }

pub loop-i-preserved : goal.loop-i-preserved
loop-i-preserved c =
    let a = c.args in
    let given : Given (sum_of a.op) a.n a.k a.s a.wanted a.key.now a.answers.now =
    given c.requires.s_value c.requires.wanted_lt_k c.requires.valid c.requires.s_in_bounds in
    let j = c.loop-i.i in
    let low : j < blocks a.n a.k = omega (arith, (all given).long) in
    let message = c.loop-i.message in
    let size = (a.n - 1) * a.s in
    let f = block_at (sum_of a.op) a.n a.k a.s a.wanted a.key.now a.answers.now in
    let long = blocks-long given (group_of a.op a.s) j (omega (arith, low)) in
    let written =
    c.recover_block.ensures
    ∙ ap₂ (λ (v b : ℕ).
    lay (j * size) (block_from (sum_of a.op) a.n a.k a.s (get_or a.key.now j 0) (row_starts (v * a.s) b (j * a.s)) a.answers.now) message)
    (all given).long c.loop-i.invariant.0 in (
      row-added given j c.loop-i.before c.first_length-before.result low c.loop-i.invariant.0 c.first_length-before.ensures,
      written
          ∙ lay-next 0 (j * size) (flat_map f (range 0 j)) (f j) a.message.now message (sym (zero-add (length (flat_map f (range 0 j))) ∙ long))
          c.loop-i.invariant.1
          ∙ ap (λ (l : List ℕ). lay 0 l a.message.now) (sym (flat_map-next f j) ∙ ap (λ (m : ℕ). flat_map f (range 0 m)) (sym (add-one j))),
    )

pub returns : goal.returns
returns c =
    let a = c.args in
    let given : Given (sum_of a.op) a.n a.k a.s a.wanted a.key.now a.answers.now =
    given c.requires.s_value c.requires.wanted_lt_k c.requires.valid c.requires.s_in_bounds in
    let bytes : Below 256 a.answers.now = λ i h. omega (arith, c.type_inv.answers i) in
    let last : c.loop-i.i ≡ blocks a.n a.k = omega (arith, (all given).long) in
    c.loop-i.invariant.1
    ∙ ap (λ (l : List ℕ). lay 0 l a.message.now)
    (ap (λ (m : ℕ). flat_map (block_at (sum_of a.op) a.n a.k a.s a.wanted a.key.now a.answers.now) (range 0 m)) last
    ∙ blocks-recovered given (group_of a.op a.s) bytes)
