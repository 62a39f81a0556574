-- `round_code::locate` meets its contract: only the row of the symbol's block can name it, by the message's digit.
use mathlib.Core.Path.{◌≡◌, sym, ap, ◌∙◌}
use mathlib.Core.Bool.{Bool, true, cond}
use mathlib.Core.List.{List}
use Prim.Native.Nat.{ℕ, suc, ◌+◌, ◌-◌, ◌*◌, ◌/◌, ◌%◌, ◌≤◌, ◌<◌}
use native.Mathlib.Nat.{mod-lt, div-add-mod', div-lt_iff_lt-mul}
use native.Mathlib.Numerals.{add-one}
use native.Mathlib.Omega.{arith}
use borrow.Author.Tests.{eq-eqb, ne_eqb}
use lib.Dec.{eqb}
use lib.ListN.{get_or}
use Rattle.lists.proofs.Cuts.{cut_at, slot-end}
use Rattle.parameters.specs.Bounds.{blocks, round_fits}
use Rattle.parameters.proofs.Bounds.{round-bounds}
use Rattle.round_scheme.specs.Round.{row, length_before}
use Rattle.std.specs.Prelude.{Some, None}
use Rattle.scheme.specs.Asked.{place_naming}
use Rattle.round_scheme.specs.Asked.{block_rows}
use Rattle.round_scheme.proofs.Located.{round-located}
use Rattle.round_code.specs.Steps.{DigitRows}
use Rattle.round_code.proofs.Fits.{fits-numbers}
use Rattle.round_code.proofs.locate.Goals as goal

-- where the symbol is
record Where (n k message symbol : ℕ) : Type 0 where
  pub divisor : 0 < n - 1
  pub whole : symbol / (n - 1) * (n - 1) + symbol % (n - 1) ≡ symbol
  pub digit : symbol % (n - 1) < n - 1
  pub block : symbol / (n - 1) < blocks n k
  pub place : symbol / (n - 1) * k + message < blocks n k * k
  pub few : symbol / (n - 1) ≤ 64

found : (N K S message symbol : ℕ) → round_fits N K S ≡ true → (message < K) × (symbol < blocks N K * (N - 1)) → Where N K message symbol
found N K S message symbol fits asked =
    let b = round-bounds N K S fits in
    let some : 0 < N - 1 = omega (arith, b.servers-low) in
    let block : symbol / (N - 1) < blocks N K = (div-lt_iff_lt-mul some).1 asked.1 in
    record {
      divisor = some;
      whole = div-add-mod' symbol (N - 1);
      digit = mod-lt symbol some;
      block = block;
      place = omega (arith, slot-end (symbol / (N - 1)) (blocks N K) K block, asked);
      few = omega (arith, block, b.blocks-high);
    }

-- what the digit tells
told : (N K S : ℕ) (query : List ℕ) (message symbol : ℕ) → DigitRows N K query → message < K → Where N K message symbol → (t : Bool)
    → eqb (get_or query (symbol / (N - 1) * K + message) 0) (suc (symbol % (N - 1))) ≡ t
    → place_naming S message symbol (block_rows N K query) ≡ cond t (Some (length_before K S query (symbol / (N - 1)))) None
unfolding row
told N K S query message symbol rows known f t e =
    let b = symbol / (N - 1) in
    let d = symbol % (N - 1) in
    let at = Some (length_before K S query b) in
    ap (λ (y : ℕ). place_naming S message y (block_rows N K query)) (sym f.whole)
    ∙ round-located N K S query rows.rows (omega (arith, f.divisor)) message b d f.block f.digit
    ∙ ap (λ (x : ℕ). cond (eqb x (suc d)) at None) (cut_at (b * K) K message query known)
    ∙ ap (λ (u : Bool). cond u at None) e

pub bounds-query-block : goal.bounds-query-block
bounds-query-block c =
    let f = found c.args.n c.args.k c.args.s c.args.message c.args.symbol c.requires.s_value c.requires.message_lt_k in
    omega (arith, f.place, c.requires.digit_rows.long)

pub returns-then-digit-symbol : goal.returns-then-digit-symbol
returns-then-digit-symbol c =
    let a = c.args in
    let d = a.symbol % (a.n - 1) in
    let f = found a.n a.k a.s a.message a.symbol c.requires.s_value c.requires.message_lt_k in
    let digit = get_or a.query.now (a.symbol / (a.n - 1) * a.k + a.message) 0 in
    sym (told a.n a.k a.s a.query.now a.message a.symbol c.requires.digit_rows c.requires.message_lt_k.0 f _
    (ne_eqb digit (suc d) (λ e. c.if-digit-symbol.true (e ∙ sym (add-one d)))))

pub length_before-requires : goal.length_before-requires
length_before-requires c =
    let f = found c.args.n c.args.k c.args.s c.args.message c.args.symbol c.requires.s_value c.requires.message_lt_k in
    let a = c.args in
    let b = round-bounds a.n a.k a.s c.requires.s_value in
    ((fits-numbers a.n a.k a.s c.requires.s_value).messages-high, b.symbol_high, omega (arith, f.few))

pub returns : goal.returns
returns c =
    let a = c.args in
    let d = a.symbol % (a.n - 1) in
    let f = found a.n a.k a.s a.message a.symbol c.requires.s_value c.requires.message_lt_k in
    let digit = get_or a.query.now (a.symbol / (a.n - 1) * a.k + a.message) 0 in
    ap Some c.length_before.ensures
    ∙ sym (told a.n a.k a.s a.query.now a.message a.symbol c.requires.digit_rows c.requires.message_lt_k.0 f _
    (eq-eqb digit (suc d) (c.if-digit-symbol.false ∙ add-one d)))
