-- The sets of a query one by one: their bytes (`byte_at`, `front-byte`), and how many rows each has (`rows-low`, `rows-high`).
use mathlib.Core.Path.{◌≡◌, refl, sym, ap, ◌∙◌}
use mathlib.Core.List.{List, [], ◌∷◌, ◌++◌, map, append-nil}
use mathlib.Core.Bool.{Bool, true, false}
use Prim.Native.Nat.{ℕ, zero, suc, ◌-◌, ◌/◌, ◌^◌, ◌≤◌, ◌<◌}
use native.Mathlib.Nat.{pow-le-pow_left, pow-le-pow_right, pow-zero}
use native.Mathlib.Omega.{arith}
use lib.Arith.{digits_mod, digits_div}
use lib.Count.{ones as count}
use lib.ListN.{length, get_or, take, replicate, length-map, get_or-append, get_or-map}
use Rattle.lists.specs.Padded.{padded}
use Rattle.lists.specs.Sums.{bit}
use Rattle.lists.proofs.Cuts.{front-is}
use Rattle.lists.proofs.Each.{All-get}
use Rattle.even_places.specs.Rule.{byte_of, ones_in, all_sets}
use Rattle.even_places.proofs.AllSets.{IsSet, all-sets, ones-most}
use Rattle.even_places.proofs.Bytes.{byte-ones, byte-below}
use Rattle.even_sets.specs.Sets.{LayoutBounds, set_in, rows_of}
use Rattle.even_sets.proofs.Blocks.{all-bytes}

-- a set's byte stands for it
set_in-byte : (A : List Bool) → set_in (length A) (byte_of A) ≡ A
unfolding set_in byte_of bit
set_in-byte [] = refl
set_in-byte (true ∷ A) = rw (digits_mod (byte_of A) {m = 2} {r = 1} (omega arith), digits_div (byte_of A) {m = 2} {r = 1} (omega arith), set_in-byte A)
set_in-byte (false ∷ A) = rw (digits_mod (byte_of A) {m = 2} {r = 0} (omega arith), digits_div (byte_of A) {m = 2} {r = 0} (omega arith), set_in-byte A)

pub set-in : (K : ℕ) (A : List Bool) → length A ≡ K → set_in K (byte_of A) ≡ A
set-in K A e = rw (← e) (set_in-byte A)

pub set_in-length : (K x : ℕ) → length (set_in K x) ≡ K
unfolding set_in
set_in-length zero x = refl
set_in-length (suc K) x = ap suc (set_in-length K (x / 2))

-- a set has no more rows than a message has symbols, and one at least
module _ (N K : ℕ) (bounds : LayoutBounds N K) (A : List Bool) (s : IsSet K A) where
  pub rows-high : rows_of N A ≤ 256
  unfolding rows_of
  rows-high =
      let few : ones_in A ≤ K = omega (arith, ones-most A, s.long) in
      let fewer : (N - 1) ^ (ones_in A - 1) ≤ N ^ (ones_in A - 1) = pow-le-pow_left (omega (arith, bounds.servers-low)) (ones_in A - 1) in
      let all : N ^ (ones_in A - 1) ≤ N ^ K = pow-le-pow_right {n = N} (omega (arith, bounds.servers-low)) (let w : ones_in A - 1 ≤ K = omega arith in w) in
      omega (arith, bounds.symbols-high)

  pub rows-low : 1 ≤ rows_of N A
  unfolding rows_of
  rows-low =
      let least : (N - 1) ^ 0 ≤ (N - 1) ^ (ones_in A - 1) =
      pow-le-pow_right {n = N - 1} (omega (arith, bounds.servers-low)) (let w : 0 ≤ ones_in A - 1 = omega arith in w) in
      omega (arith, pow-zero (N - 1))

-- what holds of a table's byte `set`, which stands for set A
pub record SetByte (N K set : ℕ) (A : List Bool) : Type 0 where
  pub is : IsSet K A
  pub byte : set ≡ byte_of A
  pub small : set < 256
  pub decoded : set_in K set ≡ A
  pub counted : count set ≡ ones_in A
  pub some : 1 ≤ count set
  pub rows : (N - 1) ^ (count set - 1) ≡ rows_of N A
  pub high : rows_of N A ≤ 256

set-byte : (N K set : ℕ) (A : List Bool) → LayoutBounds N K → IsSet K A → set ≡ byte_of A → SetByte N K set A
unfolding rows_of
set-byte N K set A bounds s e =
    let ones-set : count set ≡ ones_in A = ap count e ∙ byte-ones A in
    record {
      is = s;
      byte = e;
      small = omega (arith, rw s.long at (byte-below A), pow-le-pow_right {n = 2} (omega arith) {j = 8} bounds.messages-high);
      decoded = ap (set_in K) e ∙ set-in K A s.long;
      counted = ones-set;
      some = omega (arith, s.some);
      rows = ap (λ (n : ℕ). (N - 1) ^ (n - 1)) ones-set;
      high = rows-high N K bounds A s;
    }

-- the byte at index i of the sets in order, whatever follows them
pub byte_at : (N K i : ℕ) (table more : List ℕ) → LayoutBounds N K → table ≡ map byte_of (all_sets K) ++ more → i < length (all_sets K)
    → SetByte N K (get_or table i 0) (get_or (all_sets K) i [])
unfolding byte_of
byte_at N K i table more bounds e h =
    let bytes = map byte_of (all_sets K) in
    set-byte N K (get_or table i 0) (get_or (all_sets K) i []) bounds (All-get [] (all-sets K) i h)
    (ap (λ (l : List ℕ). get_or l i 0) e ∙ get_or-append bytes more 0 i (omega (arith, length-map (all_sets K) byte_of)) ∙ get_or-map byte_of (all_sets K) i [])

-- the same of the front of the table of sets, up to the last set
module _ (K : ℕ) {power : ℕ} {table : List ℕ} (two : power ≡ 2 ^ K) (whole : table ≡ padded 256 (map byte_of (all_sets K))) where
  pub table-front : take (power - 1) table ≡ map byte_of (all_sets K)
  table-front = front-is (power - 1) table (map byte_of (all_sets K)) (replicate (256 - length (map byte_of (all_sets K))) 0) whole (all-bytes K power two)

  pub front-length : length (take (power - 1) table) ≡ length (all_sets K)
  front-length = ap length table-front ∙ length-map (all_sets K) byte_of

  pub front-byte : {N : ℕ} → LayoutBounds N K → (i : ℕ) → i < length (take (power - 1) table)
      → SetByte N K (get_or (take (power - 1) table) i 0) (get_or (all_sets K) i [])
  front-byte {N} bounds i h =
      byte_at N K i (take (power - 1) table) [] bounds (table-front ∙ sym (append-nil (map byte_of (all_sets K)))) (omega (arith, front-length))
