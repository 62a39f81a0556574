-- The row that a wanted row is joined from, by number (`source_row_lem`): row i of set A at server n, where A has k and another message,
-- is without k the row i % q of the set without k at the other server whose turn is i / q, where q = (N-1)^(b-1) and A's block is b,
-- counted from 0.
use Prim.Native.Nat.{ℕ, suc, ◌-◌, ◌/◌, ◌%◌, ◌^◌, ◌<◌}
use native.Mathlib.Nat.{mod-lt, div-add-mod', div-lt_iff_lt-mul, pow-succ', one-le-pow}
use native.Mathlib.Omega.{arith}
use mathlib.Core.Path.{◌≡◌, sym, ap, ◌∙◌}
use mathlib.Core.List.{List, []}
use mathlib.Core.Bool.{Bool, true, false}
use mathlib.Core.Option.{none}
use lib.ListN.{get_or, set, length-set}
use Rattle.lists.proofs.Each.{All-get}
use Rattle.even_places.specs.Rule.{has, ones_in, others, of_set}
use Rattle.even_places.specs.Counting.{block}
use Rattle.even_places.proofs.SetLaws.{ones-drop}
use Rattle.even_places.proofs.Others.{others_below, others-length}
use Rattle.even_places.proofs.Positions.{joined_at}
use Rattle.even_places.proofs.RowNumbers.{set_rows}
use Rattle.even_places.proofs.AllSets.{IsSet}

module _ (N K k : ℕ) where
  -- server m's row j of the set without k is server n's row i of set A without k
  pub record Source (n : ℕ) (A : List Bool) (i m j : ℕ) : Type 0 where
    pub server-below : m < N
    pub set-good : IsSet K (set A k false)
    pub row_below : j < (N - 1) ^ (ones_in (set A k false) - 1)
    pub without : set (get_or (set_rows N K k n A) i []) k none ≡ get_or (set_rows N K k m (set A k false)) j []

pub source_row_lem : (N K k : ℕ) → 1 < N → k < K → (n : ℕ) → n < N → (A : List Bool) (i : ℕ) → IsSet K A → has k A ≡ true → 1 < ones_in A
    → i < (N - 1) ^ (ones_in A - 1)
    → Source N K k n A i (get_or (others N n) (i / (N - 1) ^ (ones_in A - 2)) 0) (i % (N - 1) ^ (ones_in A - 2))
unfolding set_rows
source_row_lem N K k wide known n l A i good e many h = record {
  server-below = All-get 0 (others_below N n) (i / q) (omega (arith, turn, others-length N n l));
  set-good = record { long = length-set A k false ∙ good.long; some = omega (arith, ones-drop A k e) };
  row_below = rw less (mod-lt i some);
  without =
      ap (λ (b : ℕ). set (get_or (of_set A (block N K k b n)) i []) k none) (let s : ones_in A - 1 ≡ suc (ones_in A - 2) = omega arith in s)
      ∙ ap (λ (r : ℕ). set (get_or (of_set A (block N K k (suc (ones_in A - 2)) n)) r []) k none) (sym (div-add-mod' i q))
      ∙ joined_at N K k wide known (ones_in A - 2) n (i / q) (i % q) A l e good.long (omega arith) turn (mod-lt i some)
      ∙ ap (λ (b : ℕ). get_or (of_set (set A k false) (block N K k b (get_or (others N n) (i / q) 0))) (i % q) []) (sym less);
}
  where
    q : ℕ
    q = (N - 1) ^ (ones_in A - 2)

    some : 0 < q
    some = one-le-pow (ones_in A - 2) (N - 1) (omega arith)

    less : ones_in (set A k false) - 1 ≡ ones_in A - 2
    less = omega (arith, ones-drop A k e)

    turn : i / q < N - 1
    turn = (div-lt_iff_lt-mul some).1
        (rw (ap (λ (b : ℕ). (N - 1) ^ b) (let s : ones_in A - 1 ≡ suc (ones_in A - 2) = omega arith in s) ∙ pow-succ' (N - 1) (ones_in A - 2)) at h)
