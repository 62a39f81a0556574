-- The symbol of the wanted message in a row's total: a row with no other message is that symbol (`row-alone`), and any other is one
-- symbol more than the row without that message (`row_more`).
use mathlib.Core.Path.{◌≡◌, refl, sym, ap, ◌∙◌}
use mathlib.Core.List.{List, [], ◌∷◌, ◌++◌, map, map-append}
use mathlib.Core.Option.{none, some, some-injective}
use Prim.Native.Nat.{ℕ, zero, suc, ◌+◌}
use native.Mathlib.Nat.{zero-add, add-zero}
use native.Mathlib.Omega.{arith}
use lib.ListN.{length, get_or, set, length-append, length-map}
use Rattle.lists.proofs.Each.{All-front, All-back, All-head, All-tail}
use Rattle.symbol.specs.Group.{Symbols}
use Rattle.symbol.specs.Sum.{Symbol, Sum, total, total_from}
use Rattle.symbol.proofs.Totals.{total-found}
use Rattle.even_places.specs.Rule.{ones_in, Row, cells}
use Rattle.even_places.proofs.SetLaws.{set_of, cells-length}
use Rattle.even_scheme.specs.Even.{entry_at, symbol_of}
use Rattle.even_scheme.proofs.HonestRows.{cell_number, cell_symbol, row_total, Retrieval, row-symbols}

nothing : {x : ℕ} → none ≡ some x → ⊥
nothing e = let z : ◌≡◌ {A = ℕ} 0 1 = cc in omega arith

next : (q k : ℕ) → suc q + k ≡ q + suc k
next q k = omega arith

-- the cells of a row before and after the place x of message k
record Around (q k x : ℕ) (r : Row) : Type 0 where
  pub before : List (ℕ × ℕ)
  pub after : List (ℕ × ℕ)
  pub whole : cells q r ≡ before ++ (q + k, x) ∷ after
  pub without : cells q (set r k none) ≡ before ++ after

around : (q k x : ℕ) (r : Row) → get_or r k none ≡ some x → Around q k x r
unfolding cells
around q k x [] e = absurd (nothing e)
around q zero x (none ∷ r) e = absurd (nothing e)
around q zero x (some y ∷ r) e = record {
  before = [];
  after = cells (suc q) r;
  whole = ap (λ (p : ℕ). (p, y) ∷ cells (suc q) r) (sym (add-zero q)) ∙ ap (λ (z : ℕ). (q + 0, z) ∷ cells (suc q) r) (some-injective y x e);
  without = refl;
}
around q (suc k) x (none ∷ r) e =
    let rest = around (suc q) k x r e in
    record {
      before = rest.before;
      after = rest.after;
      whole = rest.whole ∙ ap (λ (p : ℕ). rest.before ++ (p, x) ∷ rest.after) (next q k);
      without = rest.without;
    }
around q (suc k) x (some y ∷ r) e =
    let rest = around (suc q) k x r e in
    record {
      before = (q, y) ∷ rest.before;
      after = rest.after;
      whole = ap (λ (l : List (ℕ × ℕ)). (q, y) ∷ l) (rest.whole ∙ ap (λ (p : ℕ). rest.before ++ (p, x) ∷ rest.after) (next q k));
      without = ap (λ (l : List (ℕ × ℕ)). (q, y) ∷ l) rest.without;
    }

module _ (sum : Sum) (N K S k : ℕ) (store key : List ℕ) (run : Retrieval sum N K S k store key) (r : Row) (x : ℕ) (long : length r ≡ K)
    (place : get_or r k none ≡ some x) where
  around-wanted : Around 0 k x r
  around-wanted = around 0 k x r place

  named : ℕ × ℕ → List ℕ
  named = cell_symbol sum N K S store key

  before : List (List ℕ)
  before = map named around-wanted.before

  after : List (List ℕ)
  after = map named around-wanted.after

  whole : map named (cells 0 r) ≡ before ++ named (0 + k, x) ∷ after
  unfolding before after
  whole = ap (map named) around-wanted.whole ∙ map-append named around-wanted.before ((0 + k, x) ∷ around-wanted.after)

  parts : Symbols S before × Symbol S (named (0 + k, x)) × Symbols S after
  unfolding named
  parts =
      let all : Symbols S (before ++ named (0 + k, x) ∷ after) = rw whole at (row-symbols sum N K S k store key run r long) in
      let rest = All-back before (named (0 + k, x) ∷ after) all in
      (All-front before (named (0 + k, x) ∷ after) all, All-head rest, All-tail rest)

  wanted-cell : named (0 + k, x) ≡ symbol_of sum N K S store k (entry_at N K key k x)
  unfolding named cell_symbol cell_number
  wanted-cell = ap (λ (p : ℕ). named (p, x)) (zero-add k)

  -- a row is one symbol more than the row without the wanted message
  pub row_more : sum.minus (row_total sum N K S store key r) (row_total sum N K S store key (set r k none)) ≡ symbol_of sum N K S store k (entry_at N K key k x)
  unfolding row_total named before after
  row_more =
      rw (whole, ap (map named) around-wanted.without ∙ map-append named around-wanted.before around-wanted.after)
      (total-found sum S run.group parts.1 parts.0 parts.2)
      ∙ wanted-cell

  -- a row with the wanted message alone is its symbol
  pub row-alone : ones_in (set_of r) ≡ 1 → row_total sum N K S store key r ≡ symbol_of sum N K S store k (entry_at N K key k x)
  unfolding row_total named total total_from
  row-alone one = ap (total sum S) whole ∙ go before after (sym (ap length whole) ∙ length-map (cells 0 r) named ∙ cells-length 0 r ∙ one) ∙ wanted-cell
    where
      go : (xs ys : List (List ℕ)) → length (xs ++ named (0 + k, x) ∷ ys) ≡ 1 → total sum S (xs ++ named (0 + k, x) ∷ ys) ≡ named (0 + k, x)
      go [] [] e = run.group.zero-plus parts.1
      go [] (y ∷ ys) e = absurd (let w : ⊥ = omega arith in w)
      go (y ∷ xs) ys e = absurd (let w : ⊥ = omega (arith, length-append xs (named (0 + k, x) ∷ ys)) in w)
