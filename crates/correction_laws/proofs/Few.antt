-- How many bytes of an answer, right or wrong, one corrected byte moves: at most one under exclusive or, at most two under addition (`few-moved`).
use mathlib.Core.Path.{◌≡◌, refl, sym, ap, ap₂, ◌∙◌, subst}
use mathlib.Core.Bool.{not}
use mathlib.Core.List.{List, [], ◌∷◌, ◌++◌}
use Rattle.std.specs.Prelude.{Option, Some, None}
use Rattle.correction.specs.Moved.{shift_of, moved}
use Rattle.correction_laws.specs.Few.{differing, most_moved}
use Rattle.correction.proofs.Bytes.{behind-one, behind-two, as-symbol, shift-long, rest-stays}
use Prim.Native.Nat.{ℕ, zero, suc, ◌+◌, ◌/◌, ◌%◌, ◌≤◌, ◌<◌}
use native.Mathlib.Omega.{arith}
use borrow.Author.Tests.{eq-eqb}
use lib.Bits.{bit_xor, xor_zero_r}
use lib.Dec.{eqb}
use lib.ListN.{length, take, drop, take-append-drop}
use Rattle.lists.specs.Below.{Below}
use Rattle.lists.specs.Parts.{cut, put}
use Rattle.lists.specs.Sums.{bit}
use Rattle.lists.proofs.Below.{below-take, below-drop}
use Rattle.lists.proofs.Bits.{bit-small}
use Rattle.lists.proofs.Cuts.{cut-length}
use Rattle.symbol.specs.declared.Operation.{Operation}
use Rattle.symbol.specs.declared.Operation.TheVariants.{ExclusiveOr, Addition}
use Rattle.symbol.specs.Operations.{sum_of}
use Rattle.symbol.specs.Words.{add_at, sub_at, word, on_words, add_words, words}
use Rattle.symbol.specs.Xor.{xor_bytes, xor}
use Rattle.symbol.proofs.Operations.{group_of}
use Rattle.symbol.proofs.XorGroup.{xor-group}
use Rattle.symbol.proofs.Totals.{plus-nothing}
use Rattle.scheme.proofs.Places.{Within}

pub differing-none : (a : List ℕ) → differing a a ≡ 0
unfolding differing bit
differing-none [] = refl
differing-none (x ∷ a) = rw (eq-eqb x x refl) (omega (arith, differing-none a))

differing-append : (a b c d : List ℕ) → length a ≡ length b → differing (a ++ c) (b ++ d) ≡ differing a b + differing c d
unfolding differing
differing-append [] [] c d e = omega arith
differing-append [] (y ∷ b) c d e = absurd (let w : ⊥ = omega arith in w)
differing-append (x ∷ a) [] c d e = absurd (let w : ⊥ = omega arith in w)
differing-append (x ∷ a) (y ∷ b) c d e = omega (arith, differing-append a b c d (omega arith))

-- one byte
same_byte : (x y : ℕ) (a b : List ℕ) → y ≡ x → differing (x ∷ a) (y ∷ b) ≡ differing a b
unfolding differing bit
same_byte x y a b e = rw (eq-eqb x y (sym e)) (omega arith)

one_byte : (x y : ℕ) (a : List ℕ) → differing (x ∷ a) (y ∷ a) ≤ 1
unfolding differing
one_byte x y a = omega (arith, bit-small (not (eqb x y)), differing-none a)

two_bytes : (x y v w : ℕ) (a : List ℕ) → differing (x ∷ y ∷ a) (v ∷ w ∷ a) ≤ 2
unfolding differing
two_bytes x y v w a = omega (arith, bit-small (not (eqb x v)), bit-small (not (eqb y w)), differing-none a)

xor-few : (x : List ℕ) (byte new old : ℕ) → Below 256 x → differing x (xor_bytes x (shift_of xor (length x) byte new old)) ≤ 1
unfolding xor_bytes differing
xor-few [] byte new old p = omega arith
xor-few (x ∷ l) zero new old p =
    rw (plus-nothing xor (length l) (xor-group (length l)) (as-symbol l (behind-one x l p))) (one_byte x (bit_xor x (bit_xor new old)) l)
xor-few (x ∷ l) (suc byte) new old p =
    omega (
      arith,
      same_byte x (bit_xor x 0) l (xor_bytes l (shift_of xor (length l) byte new old)) (xor_zero_r x),
      xor-few l byte new old (behind-one x l p),
    )

words-few : (x : List ℕ) (byte new old : ℕ) → Below 256 x → differing x (add_words x (shift_of words (length x) byte new old)) ≤ 2
unfolding on_words differing
words-few [] byte new old p = omega arith
words-few (x ∷ []) zero new old p = omega (arith, one_byte x (add_at 256 x (sub_at 256 new old)) [])
words-few (x ∷ []) (suc byte) new old p = omega (arith, one_byte x (add_at 256 x (sub_at 256 0 0)) [])
words-few (x ∷ y ∷ l) zero new old p =
    let s = sub_at 65536 (word new 0) (word old 0) in
    let t = add_at 65536 (word x y) (word (s % 256) (s / 256)) in
    rw (rest-stays Addition x y l p) (two_bytes x y (t % 256) (t / 256) l)
words-few (x ∷ y ∷ l) (suc zero) new old p =
    let s = sub_at 65536 (word 0 new) (word 0 old) in
    let t = add_at 65536 (word x y) (word (s % 256) (s / 256)) in
    rw (rest-stays Addition x y l p) (two_bytes x y (t % 256) (t / 256) l)
words-few (x ∷ y ∷ l) (suc (suc byte)) new old p =
    let hx : x < 256 = p 0 (omega arith) in
    let hy : y < 256 = p 1 (omega arith) in
    let t = add_at 65536 (word x y) 0 in
    let rest = add_words l (shift_of words (length l) byte new old) in
    omega (
      arith,
      same_byte x (t % 256) (y ∷ l) (t / 256 ∷ rest) (omega arith),
      same_byte y (t / 256) l rest (omega arith),
      words-few l byte new old (behind-two x y l p),
    )

-- a symbol that is moved
symbol-few : (op : Operation) (x : List ℕ) (byte new old : ℕ) → Below 256 x
    → differing x ((sum_of op).plus x (shift_of (sum_of op) (length x) byte new old)) ≤ most_moved op
symbol-few ExclusiveOr x byte new old p = xor-few x byte new old p
symbol-few Addition x byte new old p = words-few x byte new old p

-- a part that is written over one of its length
put-differing : (at S : ℕ) (bytes buffer : List ℕ) → at + S ≤ length buffer → length bytes ≡ S
    → differing buffer (put at bytes buffer) ≡ differing (cut at S buffer) bytes
put-differing at S bytes buffer h long =
    let front = take at buffer in
    let part = cut at S buffer in
    let rest = drop S (drop at buffer) in
    let split : buffer ≡ front ++ (part ++ rest) =
    sym (ap (λ (l : List ℕ). front ++ l) (take-append-drop S (drop at buffer)) ∙ take-append-drop at buffer) in
    let written : put at bytes buffer ≡ front ++ (bytes ++ rest) = ap (λ (n : ℕ). front ++ (bytes ++ drop n (drop at buffer))) long in
    ap₂ differing split written
    ∙ differing-append front front (part ++ rest) (bytes ++ rest) refl
    ∙ omega (
      arith,
      differing-none front,
      differing-append part bytes rest rest (cut-length at S buffer h ∙ sym long),
      differing-none rest,
    )

pub few-moved : (op : Operation) (S byte new old : ℕ) (answer : List ℕ) → Below 256 answer → (place : Option ℕ) → Within S place (length answer)
    → differing answer (moved (sum_of op) S place (shift_of (sum_of op) S byte new old) answer) ≤ most_moved op
unfolding moved
few-moved op S byte new old answer bytes None h = omega (arith, differing-none answer)
few-moved op S byte new old answer bytes (Some at) h =
    let inside : at + S ≤ length answer = h at refl in
    let part = cut at S answer in
    let long : length part ≡ S = cut-length at S answer inside in
    let low : Below 256 part = below-take 256 S (drop at answer) (below-drop 256 at answer bytes) in
    let shift = shift_of (sum_of op) S byte new old in
    let keeps : length ((sum_of op).plus part shift) ≡ S = (group_of op S).plus-length part shift long (shift-long op S byte new old) in
    let few : differing part ((sum_of op).plus part (shift_of (sum_of op) S byte new old)) ≤ most_moved op =
    subst (λ (n : ℕ). differing part ((sum_of op).plus part (shift_of (sum_of op) n byte new old)) ≤ most_moved op) long (symbol-few op part byte new old low) in
    omega (arith, put-differing at S ((sum_of op).plus part shift) answer inside keeps, few)
