-- `round_code::expected_length` meets its contract: server 0 is asked for the row of zeros once, and any other server never.
use mathlib.Core.Path.{◌≡◌, sym, ap, ◌∙◌}
use mathlib.Core.Bool.{true}
use mathlib.Core.List.{List}
use Prim.Native.Nat.{ℕ, ◌-◌, ◌*◌, ◌≤◌, ◌<◌}
use native.Mathlib.Omega.{arith}
use lib.ListN.{length}
use Rattle.lists.proofs.Arranged.{Permutation, permutation-facts}
use Rattle.parameters.specs.Bounds.{blocks, round_fits}
use Rattle.parameters.proofs.Bounds.{round-bounds}
use Rattle.round_scheme.specs.Round.{round_query, length_before}
use Rattle.round_scheme.proofs.Queries.{query-admitted}
use Rattle.round_scheme.proofs.Lengths.{first-sent, other_length}
use Rattle.round_code.specs.Steps.{RoundNumbers}
use Rattle.round_code.proofs.Fits.{fits-numbers, blocks-some, slot_small}
use Rattle.round_code.proofs.expected_length.Goals as goal

small : (N K S : ℕ) (key : List ℕ) → round_fits N K S ≡ true → Permutation (blocks N K) key → (i : ℕ) → i ≤ length key
    → i * S ≤ 64 * 4096
small N K S key fits all i h =
    slot_small N K (fits-numbers N K S fits) S i (round-bounds N K S fits).symbol_high (omega (arith, all.long))

pub overflow_sub-result : goal.overflow_sub-result
overflow_sub-result c =
    let numbers : RoundNumbers c.args.n c.args.k =
    fits-numbers c.args.n c.args.k c.args.s c.requires.s_value in
    let all : Permutation (blocks c.args.n c.args.k) c.args.key.now =
    permutation-facts (blocks c.args.n c.args.k) c.args.key.now c.requires.key_value in
    omega (arith, all.long, blocks-some c.args.n c.args.k numbers)

pub overflow_mul-result : goal.overflow_mul-result
overflow_mul-result c =
    let all : Permutation (blocks c.args.n c.args.k) c.args.key.now =
    permutation-facts (blocks c.args.n c.args.k) c.args.key.now c.requires.key_value in
    record {
      fits = omega (arith, small c.args.n c.args.k c.args.s c.args.key.now c.requires.s_value all (length c.args.key.now - 1) (omega arith));
    }

pub returns-then-server-eq0 : goal.returns-then-server-eq0
returns-then-server-eq0 c =
    let numbers : RoundNumbers c.args.n c.args.k =
    fits-numbers c.args.n c.args.k c.args.s c.requires.s_value in
    let all : Permutation (blocks c.args.n c.args.k) c.args.key.now =
    permutation-facts (blocks c.args.n c.args.k) c.args.key.now c.requires.key_value in
    let a = c.args in
    let key = a.key.now in
    let some : 0 < a.n = omega (arith, numbers.servers-low) in
    ap (λ (v : ℕ). (v - 1) * a.s) all.long
    ∙ sym (first-sent a.n a.k a.s a.wanted some c.requires.wanted_lt_k.0 key all)
    ∙ ap (λ (n : ℕ). length_before a.k a.s (round_query a.n a.k a.wanted n key) (blocks a.n a.k)) (sym c.if-server-eq0.true)

pub overflow_mul-result-2 : goal.overflow_mul-result-2
overflow_mul-result-2 c =
    let all : Permutation (blocks c.args.n c.args.k) c.args.key.now =
    permutation-facts (blocks c.args.n c.args.k) c.args.key.now c.requires.key_value in
    record {
      fits = omega (arith, small c.args.n c.args.k c.args.s c.args.key.now c.requires.s_value all (length c.args.key.now) (omega arith));
    }

pub returns : goal.returns
returns c =
    let numbers : RoundNumbers c.args.n c.args.k =
    fits-numbers c.args.n c.args.k c.args.s c.requires.s_value in
    let all : Permutation (blocks c.args.n c.args.k) c.args.key.now =
    permutation-facts (blocks c.args.n c.args.k) c.args.key.now c.requires.key_value in
    let a = c.args in
    let key = a.key.now in
    let some : 0 < a.n = omega (arith, numbers.servers-low) in
    let other : 0 < a.server = omega (arith, c.if-server-eq0.false) in
    let admitted = query-admitted a.n a.k some key all a.wanted a.server c.requires.wanted_lt_k.0 c.requires.wanted_lt_k.1 in
    ap (λ (v : ℕ). v * a.s) all.long
    ∙ sym (other_length a.n a.k a.s a.server (round_query a.n a.k a.wanted a.server key) admitted other)
