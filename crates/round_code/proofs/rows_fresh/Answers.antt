-- `round_code::rows_fresh` meets its contract: the rows so far are the server's, and what is left of their numbers decides, with the marks so far.
use mathlib.Core.Path.{◌≡◌, refl, sym, ap, ◌∙◌, subst}
use mathlib.Core.Bool.{Bool, true, false}
use mathlib.Core.List.{List}
use Prim.Native.Nat.{ℕ, ◌+◌, ◌-◌, ◌*◌, ◌%◌, ◌^◌, ◌≤◌, ◌<◌}
use native.Mathlib.Nat.{not-suc-le-zero, mod-lt}
use native.Mathlib.Omega.{arith}
use borrow.Author.Tests.{eqb-true, eqb-false}
use lib.Dec.{eqb}
use lib.ListN.{length, get_or, set, take, drop, length-set, length-replicate}
use Rattle.lists.specs.Distinct.{is_permutation}
use Rattle.lists.specs.Inserts.{remove_at}
use Rattle.lists.proofs.Below.{all_below-below}
use Rattle.lists.proofs.Cuts.{slot-end}
use Rattle.lists.proofs.Passes.{passes, passes-seen, passes-more, passes-end, permutation-passes}
use Rattle.parameters.specs.Bounds.{blocks}
use Rattle.short_scheme.specs.Short.{digit_sum, short_admits}
use Rattle.short_scheme.proofs.Queries.{admits-sum, key-long, key_below}
use Rattle.round_scheme.specs.Round.{number, row}
use Rattle.round_scheme.proofs.Numbers.{number-below}
use Rattle.round_scheme.proofs.Exchange.{round_key, key-at, key-length}
use Rattle.round_scheme.proofs.Once.{row-refused, repeat-refused, fresh-admitted}
use Rattle.round_code.specs.Steps.{RoundNumbers}
use Rattle.round_code.proofs.Fits.{rows-small}
use Rattle.round_code.proofs.RowParts.{row-lent, rest-lent}
use Rattle.round_code.proofs.rows_fresh.Goals as goal
use Rattle.round_code.proofs.rows_fresh.Goals.{After-number_of-number}

-- the row of a turn
inside : (N K i v : ℕ) (query : List ℕ) → RoundNumbers N K → v ≡ blocks N K → length query ≡ v * K → i < v
    → (i * K + K ≤ length query) × (i * K ≤ 64 * 7)
inside N K i v query b e long h = (omega (arith, slot-end i v K h, long), rows-small N K b i (omega (arith, e, h)))

-- the row is the server's, so its number without the first digit is below that of the blocks
module _ (N K server : ℕ) (b : RoundNumbers N K) (here : List ℕ) (own : short_admits N K server here ≡ true) where
  known : 0 < K
  known = omega (arith, b.messages-low)

  there : server < N
  there =
      let m : digit_sum here % N < N = mod-lt (digit_sum here) (omega (arith, b.servers-low)) in
      omega (arith, m, admits-sum N K server here own)

  rest-low : number N (remove_at 0 here) < blocks N K
  rest-low =
      subst (λ (m : ℕ). number N (remove_at 0 here) < N ^ m) (key-long N K 0 server here known there own)
      (number-below N (omega (arith, b.servers-low)) (remove_at 0 here)
      (all_below-below N (remove_at 0 here) (key_below N K 0 server here known there own)))

-- a turn whose row is the server's, and whose number without the first digit is x
record Turn (N K server v : ℕ) (query : List ℕ) (i x : ℕ) : Type 0 where
  pub low : i < blocks N K
  pub own : short_admits N K server (row K query i) ≡ true
  pub marked : x ≡ get_or (round_key N K 0 query) i 0
  pub mark-low : x < v
  pub numbers-left : i < length (round_key N K 0 query)

turn : (N K server v : ℕ) (query : List ℕ) (i x : ℕ) → RoundNumbers N K → v ≡ blocks N K → length query ≡ v * K → i < v
    → short_admits N K server (row K query i) ≡ true
    → x ≡ number N (take (i * K + K - (i * K + 1)) (drop (i * K + 1) query)) → Turn N K server v query i x
turn N K server v query i x b e long h own made =
    let low : i < blocks N K = omega (arith, e, h) in
    let rest-number : x ≡ number N (remove_at 0 (row K query i)) =
    made ∙ ap (number N) (rest-lent K query i (known N K server b (row K query i) own) (inside N K i v query b e long h).0) in
    record {
      low = low;
      own = own;
      marked = rest-number ∙ sym (key-at N K 0 query i low);
      mark-low = omega (arith, rest-number, rest-low N K server b (row K query i) own, e);
      numbers-left = omega (arith, key-length N K 0 query, low);
    }

-- the rows before the next one are the server's, too
each : (N K server : ℕ) (query : List ℕ) (i : ℕ) → short_admits N K server (row K query i) ≡ true
    → ((j : ℕ) → j < i → short_admits N K server (row K query j) ≡ true)
    → (j : ℕ) → j < i + 1 → (t : Bool) → eqb j i ≡ t → short_admits N K server (row K query j) ≡ true
each N K server query i own before j h true e = ap (λ (m : ℕ). short_admits N K server (row K query m)) (eqb-true j i e) ∙ own
each N K server query i own before j h false e = let d : j ≡ i → ⊥ = eqb-false j i e in before j (omega arith)

-- what the test of a row says
tested : (N K server : ℕ) (query : List ℕ) (i : ℕ) {said t : Bool} → said ≡ short_admits N K server (take (i * K + K - i * K) (drop (i * K) query)) → said ≡ t
    → short_admits N K server (row K query i) ≡ t
tested N K server query i e d = sym (e ∙ ap (short_admits N K server) (row-lent K query i)) ∙ d

-- the turn at hand
this : (c : After-number_of-number) → let a = c.args in Turn a.n a.k a.server a.v a.query.now c.loop-i.i c.number_of-number.result
this c = let a = c.args in
    let r = c.requires in
    turn a.n a.k a.server a.v a.query.now c.loop-i.i c.number_of-number.result r.round_numbers r.v_value r.query_len (omega arith)
    (tested a.n a.k a.server a.query.now c.loop-i.i c.admits.ensures c.if-not-admits.false) c.number_of-number.ensures

pub loop-i-init : goal.loop-i-init
loop-i-init c = let a = c.args in (
  length-replicate {A = Bool} 64 false,
  λ j h. absurd (not-suc-le-zero h),
  permutation-passes a.v 64 (round_key a.n a.k 0 a.query.now) (key-length a.n a.k 0 a.query.now ∙ sym c.requires.v_value),
)

pub returns-then-not-admits : goal.returns-then-not-admits
returns-then-not-admits c = let a = c.args in
    sym (row-refused a.n a.k a.server a.query.now c.loop-i.i (omega (arith, c.requires.v_value))
    (tested a.n a.k a.server a.query.now c.loop-i.i c.admits.ensures c.if-not-admits.true))

pub number_of-number-requires-clause-n_nonzero : goal.number_of-number-requires-clause-n_nonzero
number_of-number-requires-clause-n_nonzero c = let a = c.args in
    let r = c.requires in
    let b = r.round_numbers in
    let here = row a.k a.query.now c.loop-i.i in
    let own = tested a.n a.k a.server a.query.now c.loop-i.i c.admits.ensures c.if-not-admits.false in
    let known = known a.n a.k a.server b here own in
    let lent = rest-lent a.k a.query.now c.loop-i.i known (inside a.n a.k c.loop-i.i a.v a.query.now b r.v_value r.query_len (omega arith)).0 in
    (omega (arith, b.servers-low), rw lent (key_below a.n a.k 0 a.server here known (there a.n a.k a.server b here own) own))

pub bounds-seen-number : goal.bounds-seen-number
bounds-seen-number c = omega (arith, (this (goal.at.bounds-seen-number c).After-number_of-number).mark-low, c.requires.round_numbers.blocks-high)

pub returns-then-seen-number : goal.returns-then-seen-number
returns-then-seen-number c = let a = c.args in
    let b = c.requires.round_numbers in
    let t = this (goal.at.returns-then-seen-number c).After-number_of-number in
    let here = row a.k a.query.now c.loop-i.i in
    let keys = round_key a.n a.k 0 a.query.now in
    let again : is_permutation a.v keys ≡ false =
    c.loop-i.invariant.2
    ∙ passes-seen a.v c.loop-i.seen keys c.loop-i.i t.numbers-left
    (ap (λ (m : ℕ). get_or c.loop-i.seen m false) (sym t.marked) ∙ c.if-seen-number.true) in
    sym (repeat-refused a.n a.k a.server a.query.now (known a.n a.k a.server b here t.own) (there a.n a.k a.server b here t.own)
    (ap (λ (v : ℕ). is_permutation v keys) (sym c.requires.v_value) ∙ again))

pub bounds-seen-number-in-loop-i : goal.bounds-seen-number-in-loop-i
bounds-seen-number-in-loop-i c =
    omega (arith, (this (goal.at.bounds-seen-number-in-loop-i c).After-number_of-number).mark-low, c.requires.round_numbers.blocks-high)

pub loop-i-preserved : goal.loop-i-preserved
loop-i-preserved c = let a = c.args in
    let t = this (goal.at.loop-i-preserved c).After-number_of-number in
    let keys = round_key a.n a.k 0 a.query.now in
    let seen = c.loop-i.seen in
    let i = c.loop-i.i in (
      simp length-set c.loop-i.invariant.0,
      λ j h. each a.n a.k a.server a.query.now i t.own c.loop-i.invariant.1 j h (eqb j i) refl,
      c.loop-i.invariant.2
          ∙ passes-more a.v seen keys i t.numbers-left (omega (arith, t.mark-low, t.marked))
          (omega (arith, t.mark-low, t.marked, c.requires.v_value, c.requires.round_numbers.blocks-high, c.loop-i.invariant.0))
          (ap (λ (m : ℕ). get_or seen m false) (sym t.marked) ∙ c.if-seen-number.false)
          ∙ ap (λ (m : ℕ). passes a.v (set seen m true) (drop (i + 1) keys)) (sym t.marked),
    )

pub returns : goal.returns
returns c = let a = c.args in
    let keys = round_key a.n a.k 0 a.query.now in
    let last : c.loop-i.i ≡ length keys = omega (arith, key-length a.n a.k 0 a.query.now, c.requires.v_value) in
    let fresh : is_permutation a.v keys ≡ true = c.loop-i.invariant.2 ∙ passes-end a.v c.loop-i.seen keys c.loop-i.i last in
    sym (fresh-admitted a.n a.k a.server a.query.now (omega (arith, c.requires.round_numbers.servers-low))
    (c.requires.query_len ∙ ap (λ (v : ℕ). v * a.k) c.requires.v_value) (λ j h. c.loop-i.invariant.1 j (omega (arith, c.requires.v_value)))
    (ap (λ (v : ℕ). is_permutation v keys) (sym c.requires.v_value) ∙ fresh))
