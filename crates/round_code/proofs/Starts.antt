-- Where the answers to one row lie in the answer buffer: inside it (`starts-placed`), so that what is made of them are the symbols of a block
-- (`block-long`), and those of the rule: `block-slots`.
use mathlib.Core.Path.{◌≡◌, refl, sym, ap, ap₂, ◌∙◌}
use mathlib.Core.Bool.{Bool, cond}
use mathlib.Core.List.{List, []}
use Prim.Native.Nat.{ℕ, zero, suc, ◌+◌, ◌-◌, ◌*◌, ◌≤◌, ◌<◌}
use native.Mathlib.Nat.{mod-lt, zero-mul, zero-add}
use native.Mathlib.Omega.{arith}
use borrow.Author.Tests.{ne_eqb}
use lib.ListN.{length, get_or}
use Rattle.lists.specs.Below.{Below}
use Rattle.lists.specs.Parts.{cut}
use Rattle.lists.specs.Ranges.{range}
use Rattle.lists.proofs.Arranged.{Permutation}
use Rattle.lists.proofs.Cuts.{cut-cut, slot-end}
use Rattle.lists.proofs.Each.{All-every}
use Rattle.lists.proofs.Joined.{flat_map-size}
use Rattle.lists.proofs.Mapped.{mapped-length, mapped_at}
use Rattle.lists.proofs.Ranges.{range_length}
use Rattle.parameters.specs.Bounds.{blocks}
use Rattle.parameters.specs.Measures.{round_sizes}
use Rattle.symbol.specs.Sum.{Sum}
use Rattle.symbol.specs.Group.{AbelianGroup}
use Rattle.scheme.specs.Scheme.{answers_in}
use Rattle.short_scheme.specs.Short.{all_zero, digit_sum, key_sum, short_query, short_answer_length, short_recover}
use Rattle.short_rows.specs.Steps.{Placed, from_places}
use Rattle.short_rows.proofs.Places.{from-length}
use Rattle.short_rows.proofs.Parts.{recover-places}
use Rattle.round_scheme.specs.Round.{digits, short_key, round_query, row_length, length_before, answers_to, round_scheme}
use Rattle.round_scheme.proofs.Queries.{query-row, query-admitted}
use Rattle.round_scheme.proofs.Lengths.{before-grows, other-before}
use Rattle.round_code.specs.Steps.{start_of, row_starts, block_from}

-- every server but 0
pub later-start : (slot before behind m : ℕ) → 0 < m → start_of slot before behind m ≡ m * slot + behind
later-start slot before behind m h =
    ap (λ (t : Bool). cond t before (m * slot + behind)) (ne_eqb m 0 (λ e. let w : ⊥ = omega (arith, e, h) in w))

module _ (N S slot before behind : ℕ) (answers : List ℕ) (few : N ≤ 16) (some : 0 < S) (small : slot ≤ 1048576) (first : before + S ≤ slot)
    (other : behind + S ≤ slot) (room : N * slot ≤ length answers) where
  start-inside : (m : ℕ) → m < N → start_of slot before behind m + S ≤ length answers
  start-inside zero h = omega (arith, slot-end 0 N slot h)
  start-inside (suc m) h = omega (arith, slot-end (suc m) N slot h, later-start slot before behind (suc m) (omega arith))

  pub starts-placed : Placed N S (row_starts slot before behind) answers
  starts-placed = record {
    few = few;
    some = some;
    small = omega arith;
    known = omega (arith, mapped-length (start_of slot before behind) 0 16);
    inside = λ m h.
        let at = mapped_at (start_of slot before behind) 0 16 m (omega arith) in
        omega (arith, at, start-inside m h);
  }

pub block-long : (sum : Sum) (N K S entry : ℕ) (starts answers : List ℕ) → AbelianGroup sum S → 0 < N → Placed N S starts answers
    → length (block_from sum N K S entry starts answers) ≡ (N - 1) * S
unfolding block_from
block-long sum N K S entry starts answers group some placed =
    let T = key_sum N (digits N (K - 1) entry) in
    let empty = all_zero (digits N (K - 1) entry) in
    flat_map-size (from_places sum N S T empty starts answers) S
    (All-every (from-length sum N S T group starts answers placed (mod-lt (digit_sum (digits N (K - 1) entry)) some) empty) (range 1 (N - 1)))
    ∙ ap (λ n. n * S) (range_length 1 (N - 1))

module _ (sum : Sum) (N K S : ℕ) (group : AbelianGroup sum S) (wide : 0 < N) (wanted : ℕ) (known : wanted < K) (key : List ℕ)
    (all : Permutation (blocks N K) key) (answers : List ℕ) (bytes : Below 256 answers) where
  abbrev asked : ℕ → List ℕ
  asked n = round_query N K wanted n key

  abbrev slots : List (List ℕ)
  slots = answers_in (round_scheme sum N K S) N wanted key answers

  -- the starts of the answers to row i
  abbrev pub starts_at : ℕ → List ℕ
  starts_at i = row_starts (blocks N K * S) (length_before K S (asked 0) i) (i * S)

  module _ (i : ℕ) (inside : i < blocks N K) (placed : Placed N S (starts_at i) answers) where
    -- how far behind the start of its slot a server's answer begins
    begins : (n : ℕ) → n < N → n * (blocks N K * S) + length_before K S (asked n) i ≡ start_of (blocks N K * S) (length_before K S (asked 0) i) (i * S) n
    begins zero h = ap (λ m. m + length_before K S (asked 0) i) (zero-mul (blocks N K * S)) ∙ zero-add (length_before K S (asked 0) i)
    begins (suc n) h =
        ap (λ m. suc n * (blocks N K * S) + m)
        (other-before N K S (suc n) (asked (suc n)) (query-admitted N K wide key all wanted (suc n) known h) (omega arith) i (omega arith))
        ∙ sym (later-start (blocks N K * S) (length_before K S (asked 0) i) (i * S) (suc n) (omega arith))

    lies : (n : ℕ) → n < N
        → get_or (answers_to N K S wanted key slots i) n []
        ≡ cut (get_or (starts_at i) n 0) (short_answer_length S (short_query N wanted n (short_key N K key i))) answers
    unfolding answers_to answers_in round_sizes row_length
    lies n h =
        let query = asked n in
        mapped_at (λ m. cut (length_before K S (asked m) i) (row_length K S (asked m) i) (get_or slots m [])) [] N n h
        ∙ ap (cut (length_before K S query i) (row_length K S query i))
        (mapped_at (λ m. cut (m * (blocks N K * S)) (length_before K S (asked m) (blocks N K)) answers) [] N n h)
        ∙ cut-cut (length_before K S query i) (row_length K S query i) (n * (blocks N K * S)) (length_before K S query (blocks N K)) answers
        (before-grows K S query i (blocks N K) inside)
        ∙ ap₂ (λ (at size : ℕ). cut at size answers)
        (begins n h ∙ sym (mapped_at (start_of (blocks N K * S) (length_before K S (asked 0) i) (i * S)) 0 16 n (omega (arith, placed.few))))
        (ap (short_answer_length S) (query-row N K wide key all wanted n known h i inside))

    pub block-slots : short_recover sum N S (short_key N K key i) (answers_to N K S wanted key slots i) ≡ block_from sum N K S (get_or key i 0) (starts_at i) answers
    unfolding short_recover short_key block_from
    block-slots =
        recover-places sum N S group (starts_at i) answers placed bytes wanted (short_key N K key i) (λ n. n) (answers_to N K S wanted key slots i) lies
        (key_sum N (short_key N K key i)) (mod-lt (digit_sum (short_key N K key i)) wide) (λ d h. refl)
