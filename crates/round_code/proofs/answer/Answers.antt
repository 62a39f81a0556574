-- `round_code::answer` meets its contract: after i turns the answers to the first i rows are written, one behind the other.
use mathlib.Core.Path.{◌≡◌, refl, sym, ap, ap₂, ◌∙◌}
use mathlib.Core.List.{List, flat_map}
use Prim.Native.Nat.{ℕ, ◌+◌, ◌-◌, ◌*◌, ◌≤◌, ◌<◌}
use native.Mathlib.Nat.{mul-le-mul}
use native.Mathlib.Numerals.{add-one}
use native.Mathlib.Omega.{arith}
use Rattle.lists.specs.Parts.{put}
use Rattle.lists.specs.Ranges.{range}
use Rattle.lists.proofs.Joined.{flat_map-next}
use Rattle.lists.proofs.Puts.{put_next}
use Rattle.parameters.specs.Bounds.{blocks}
use Rattle.parameters.specs.Measures.{round_sizes}
use Rattle.parameters.proofs.Bounds.{round-bounds}
use Rattle.symbol.specs.Operations.{sum_of}
use Rattle.symbol.proofs.Operations.{group_of}
use Rattle.short_scheme.specs.Short.{short_answer_length, strided_answer}
use Rattle.round_scheme.specs.Round.{row, row_length, row_answer, round_answer}
use Rattle.round_scheme.proofs.Stored.{row-stored}
use Rattle.round_scheme.proofs.Lengths.{before-long, before-none, before-next, before-grows}
use Rattle.round_code.specs.Steps.{RoundNumbers}
use Rattle.round_code.proofs.Fits.{fits-numbers}
use Rattle.round_code.proofs.RowParts.{row-lent}
use Rattle.round_code.proofs.answer.Goals as goal

-- as many symbols as a message has
symbols-small : (N K i : ℕ) → RoundNumbers N K → i ≤ blocks N K → i * (N - 1) ≤ 64 * 15
symbols-small N K i b h =
    let few : i ≤ 64 = omega (arith, b.blocks-high) in
    let short : N - 1 ≤ 15 = omega (arith, b.servers-high) in
    mul-le-mul few short

pub overflow_sub-k : goal.overflow_sub-k
overflow_sub-k c = omega (arith, (fits-numbers c.args.n c.args.k c.args.s c.requires.s_value).messages-low)

pub overflow_sub-stride : goal.overflow_sub-stride
overflow_sub-stride c = omega (arith, (fits-numbers c.args.n c.args.k c.args.s c.requires.s_value).servers-low)

pub overflow_mul-stride : goal.overflow_mul-stride
overflow_mul-stride c =
    omega (
      arith,
      symbols-small c.args.n c.args.k c.power-v.result (fits-numbers c.args.n c.args.k c.args.s c.requires.s_value) (omega (arith, c.power-v.ensures)),
    )

pub loop-i-init : goal.loop-i-init
unfolding range flat_map
loop-i-init c = (sym (before-none c.args.k c.args.s c.args.query.now), refl)

pub overflow_sub-first : goal.overflow_sub-first
overflow_sub-first c = omega (arith, (fits-numbers c.args.n c.args.k c.args.s c.requires.s_value).servers-low)

pub overflow_mul-first : goal.overflow_mul-first
overflow_mul-first c =
    omega (
      arith,
      symbols-small c.args.n c.args.k c.loop-i.i (fits-numbers c.args.n c.args.k c.args.s c.requires.s_value) (omega (arith, c.power-v.ensures)),
    )

pub answer_row-at-requires : goal.answer_row-at-requires
unfolding round_sizes row_length
answer_row-at-requires c =
    let low : c.loop-i.i < blocks c.args.n c.args.k = omega (arith, c.power-v.ensures) in
    let a = c.args in
    let query = a.query.now in
    let i = c.loop-i.i in
    let room = before-grows a.k a.s query i (blocks a.n a.k) low in
    record {
      s_nonzero = (round-bounds a.n a.k a.s c.requires.s_value).symbol_low;
      row_stored = rw (c.power-v.ensures, row-lent a.k query i)
          (row-stored a.n a.k a.s a.store.now c.requires.store_len i low (row a.k query i) (c.requires.digit_rows.rows i low));
      row_in_bounds = rw (row-lent a.k query i) (omega (arith, room, c.loop-i.invariant.0, c.requires.k_in_bounds));
    }

pub loop-i-preserved : goal.loop-i-preserved
unfolding round_sizes row_length row_answer
loop-i-preserved c =
    let a = c.args in
    let query = a.query.now in
    let out = c.loop-i.out in
    let j = c.loop-i.i in
    let low : j < blocks a.n a.k = omega (arith, c.power-v.ensures) in
    let f = row_answer (sum_of a.op) a.n a.k a.s a.store.now query in
    let keeps = (group_of a.op a.s).plus-length in
    let lent = row-lent a.k query j in
    let long = before-long (sum_of a.op) a.n a.k a.s keeps a.store.now c.requires.store_len query c.requires.digit_rows.rows j (omega (arith, low)) in (
      c.answer_row-at.ensures.value
          ∙ ap₂ (λ (n : ℕ) (l : List ℕ). n + short_answer_length a.s l) c.loop-i.invariant.0 lent
          ∙ sym (before-next a.k a.s query j),
      c.answer_row-at.ensures.out_after
          ∙ ap₂ (λ (v : ℕ) (l : List ℕ). put c.loop-i.at (strided_answer (sum_of a.op) (j * (a.n - 1)) (v * (a.n - 1)) a.s a.store.now l) out)
          c.power-v.ensures lent
          ∙ put_next 0 c.loop-i.at (flat_map f (range 0 j)) (f j) a.out.now out (omega arith) (omega (arith, long, c.loop-i.invariant.0)) c.loop-i.invariant.1
          ∙ ap (λ (l : List ℕ). put 0 l a.out.now) (sym (flat_map-next f j) ∙ ap (λ (n : ℕ). flat_map f (range 0 n)) (sym (add-one j))),
    )

pub returns : goal.returns
unfolding round_answer
returns c =
    let a = c.args in
    let last : c.loop-i.i ≡ blocks a.n a.k = omega (arith, c.power-v.ensures) in
    c.loop-i.invariant.1
    ∙ ap (λ (n : ℕ). put 0 (flat_map (row_answer (sum_of a.op) a.n a.k a.s a.store.now a.query.now) (range 0 n)) a.out.now) last
