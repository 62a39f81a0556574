-- The answer to one row: its symbols lie in the store (`symbol-room`), and it is made by copying the first of them and combining the
-- others into it, over any group: `row_more`.
use mathlib.Core.Path.{◌≡◌, refl, sym, ap, ◌∙◌}
use mathlib.Core.Bool.{Bool, true, false, cond}
use mathlib.Core.List.{List, [], ◌∷◌, ◌++◌, zip_with}
use Prim.Native.Nat.{ℕ, suc, ◌+◌, ◌-◌, ◌*◌, ◌^◌, ◌≤◌, ◌<◌}
use native.Mathlib.Nat.{suc-mul}
use native.Mathlib.Numerals.{add-one}
use native.Mathlib.Omega.{arith}
use borrow.Author.Tests.{ne_eqb}
use lib.Dec.{eqb}
use lib.ListN.{length, get_or, drop, replicate}
use lib.Seq.{drop-cons, drop-drop}
use Rattle.lists.specs.Parts.{cut}
use Rattle.lists.specs.Below.{Below}
use Rattle.lists.specs.Sums.{All, all_nil, all_cons}
use Rattle.parameters.specs.Measures.{even_sizes}
use Rattle.symbol.specs.Sum.{Symbol, Sum, total_from, total}
use Rattle.symbol.specs.Group.{KeepsLength, AbelianGroup, Symbols}
use Rattle.symbol.proofs.Totals.{total-symbol}
use Rattle.even_places.specs.Rule.{ones_in}
use Rattle.even_places.proofs.Positions.{members-below}
use Rattle.even_scheme.specs.Even.{symbol_of, row_answer, row_answers}
use Rattle.even_scheme.proofs.Symbols.{symbol_end, symbol-symbol}
use Rattle.even_answer.specs.Answering.{added}

-- what the row becomes, from the symbols that are left of it: none was taken yet, or `out` is what was made of those before
abbrev pub resumed : Sum → Bool → ℕ → List ℕ → List (List ℕ) → List ℕ
resumed sum first S out xs = cond first (total sum S xs) (total_from sum out xs)

resumed-more : (sum : Sum) (S : ℕ) → AbelianGroup sum S → (taken : ℕ) (out x : List ℕ) (xs : List (List ℕ)) → Symbol S x
    → resumed sum (eqb taken 0) S out (x ∷ xs) ≡ resumed sum (eqb (taken + 1) 0) S (added sum (eqb taken 0) out x) xs
unfolding total total_from
resumed-more sum S group taken out x xs s = rw (ne_eqb (taken + 1) 0 (λ e. let w : ⊥ = omega arith in w)) (go (eqb taken 0))
  where
    go : (first : Bool) → resumed sum first S out (x ∷ xs) ≡ total_from sum (added sum first out x) xs
    go true = ap (λ (l : List ℕ). total_from sum l xs) (group.zero-plus s)
    go false = refl

pub added-length : (sum : Sum) (S : ℕ) → KeepsLength sum.plus S → (first : Bool) (old x : List ℕ) → length old ≡ S → length x ≡ S
    → length (added sum first old x) ≡ S
added-length sum S keeps true old x e f = f
added-length sum S keeps false old x e f = keeps old x e f

-- where a symbol is combined from, in a message of `symbols` symbols
pub symbol-room : (N K S : ℕ) (store : List ℕ) → length store ≡ (even_sizes N K S).store → (symbols p i : ℕ) → symbols ≡ N ^ K → p < K → i < N ^ K
    → (p * symbols + i) * S + S ≤ length store
unfolding even_sizes
symbol-room N K S store whole symbols p i e h l = rw e (symbol_end N K S store whole p i h l)

module _ (sum : Sum) (N K S : ℕ) (store : List ℕ) (whole : length store ≡ (even_sizes N K S).store) where
  pub symbol-place : (symbols p i size : ℕ) → symbols ≡ N ^ K → size ≡ S
      → cut ((p * symbols + i) * S) size store ≡ symbol_of sum N K S store p i
  unfolding symbol_of
  symbol-place symbols p i size e f = rw (e, f) refl

  module _ (group : AbelianGroup sum S) (bytes : Below 256 store) where
    pub symbol-is : (p i : ℕ) → p < K → i < N ^ K → Symbol S (symbol_of sum N K S store p i)
    unfolding even_sizes
    symbol-is p i h l = symbol-symbol sum N K S store whole p i h l bytes

    symbols-are : {messages : List ℕ} (numbers : List ℕ) → All (λ p. p < K) messages → Below (N ^ K) numbers
        → Symbols S (zip_with (symbol_of sum N K S store) messages numbers)
    unfolding zip_with
    symbols-are numbers all_nil b = all_nil
    symbols-are [] (all_cons h a) b = all_nil
    symbols-are (i ∷ numbers) (all_cons {x = p} h a) b =
        all_cons (symbol-is p i h (b 0 (omega arith))) (symbols-are numbers a (λ j l. b (suc j) (omega arith)))

    -- a row's answer is a symbol
    pub row_is : (A : List Bool) (numbers : List ℕ) → length A ≡ K → Below (N ^ K) numbers → Symbol S (row_answer sum N K S store A numbers)
    unfolding row_answer
    row_is A numbers e b = total-symbol sum S (group) (symbols-are numbers (members-below K 0 A (omega arith)) b)

    -- one symbol more of a row
    pub row_more : (p taken : ℕ) (messages numbers out : List ℕ) → p < K → taken < length numbers → Below (N ^ K) numbers
        → resumed sum (eqb taken 0) S out (zip_with (symbol_of sum N K S store) (p ∷ messages) (drop taken numbers))
        ≡ resumed sum (eqb (taken + 1) 0) S (added sum (eqb taken 0) out (symbol_of sum N K S store p (get_or numbers taken 0)))
        (zip_with (symbol_of sum N K S store) messages (drop (taken + 1) numbers))
    unfolding zip_with
    row_more p taken messages numbers out h l b =
        rw (add-one taken, drop-cons numbers taken 0 l)
        (rw (add-one taken) at
        (resumed-more sum S group taken out (symbol_of sum N K S store p (get_or numbers taken 0))
        (zip_with (symbol_of sum N K S store) messages (drop (suc taken) numbers)) (symbol-is p (get_or numbers taken 0) h (b taken l))))

-- one row more of a set, whose rows have `size` numbers each
pub set_more : (sum : Sum) (N K S : ℕ) (store : List ℕ) (A : List Bool) (numbers : List ℕ) (rows row size : ℕ)
    → row < rows → ones_in A ≡ size
    → row_answers sum N K S store (replicate (rows - row) A) (drop (row * size) numbers)
    ≡ row_answer sum N K S store A (drop (row * size) numbers)
    ++ row_answers sum N K S store (replicate (rows - (row + 1)) A) (drop ((row + 1) * size) numbers)
unfolding row_answers
set_more sum N K S store A numbers rows row size h e =
    let left : rows - row ≡ suc (rows - (row + 1)) = omega arith in
    let next : row * size + size ≡ (row + 1) * size = sym (ap (λ (n : ℕ). n * size) (add-one row) ∙ suc-mul row size) in
    ap (λ (n : ℕ). row_answers sum N K S store (replicate n A) (drop (row * size) numbers)) left
    ∙ ap (λ (l : List ℕ). row_answer sum N K S store A (drop (row * size) numbers) ++ row_answers sum N K S store (replicate (rows - (row + 1)) A) l)
    (drop-drop (ones_in A) (row * size) numbers ∙ ap (λ (n : ℕ). drop n numbers) (ap (λ (n : ℕ). row * size + n) e ∙ next))
