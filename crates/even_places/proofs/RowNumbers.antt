-- A query's rows by their numbers: a query goes by its sets (`rows-by-set`), and row i of set A is row `first_row A (layout N K) + i`
-- of each server's query (`row_number_lem`). Rests on the counted rows (Process) and the runs of a layout (SetRuns).
use Prim.Native.Nat.{ℕ, suc, ◌+◌, ◌-◌, ◌^◌, ◌<◌}
use native.Mathlib.Nat.{one-le-pow}
use native.Mathlib.Omega.{arith}
use mathlib.Core.Path.{◌≡◌, refl, sym, ap, ◌∙◌, fun_ext}
use mathlib.Core.List.{List, [], flat_map}
use mathlib.Core.Bool.{Bool, true, false, true≢false, false≢true}
use mathlib.Core.Option.{Option, none, some}
use lib.ListN.{length, get_or, get_or-replicate, get_or-map}
use Rattle.lists.specs.Ranges.{range}
use Rattle.lists.specs.Sums.{bit, sum}
use Rattle.lists.proofs.Joined.{flat_map-flat_map, flat_map-all}
use Rattle.lists.proofs.Each.{All-imp}
use Rattle.even_places.specs.Rule.{has, ones_in, sets, Row, is_some, same, of_set, by_set, rows, all_sets, layout, first_row}
use Rattle.even_places.specs.Counting.{block, counted_rows}
use Rattle.even_places.proofs.Process.{rows-by-counting}
use Rattle.even_places.proofs.AllSets.{IsSet, all-sets, set-stands, layout-by-set}
use Rattle.even_places.proofs.SetRuns.{Numbered, numbered}
use Rattle.even_places.proofs.SetLaws.{set_of, set_of-has, keep-sets}
use Rattle.even_places.proofs.BlockRows.{sets-fit}
use Rattle.even_places.proofs.Joined.{group-size}
use Rattle.even_places.proofs.Positions.{group-length}

module _ (N K k : ℕ) where
  -- server n's rows of set A
  unfoldable pub set_rows : ℕ → List Bool → List Row
  set_rows n A = of_set A (block N K k (ones_in A - 1) n)

module _ (N K k : ℕ) (wide : 1 < N) (known : k < K) (n : ℕ) (l : n < N) where
  -- a query goes by its sets
  pub rows-by-set : rows N K k n ≡ flat_map (set_rows N K k n) (all_sets K)
  unfolding counted_rows by_set all_sets set_rows
  rows-by-set =
      rows-by-counting N K k wide known n l
      ∙ ap (λ g. flat_map g (range 0 K))
      (fun_ext (λ b. flat_map-all (λ A. of_set A (block N K k b n)) (set_rows N K k n) (All-imp (here b) (sets-fit K (suc b)))))
      ∙ sym (flat_map-flat_map (set_rows N K k n) (λ b. sets K (suc b)) (range 0 K))
    where
      here : (b : ℕ) (A : List Bool) → (length A ≡ K) × (ones_in A ≡ suc b) → of_set A (block N K k b n) ≡ set_rows N K k n A
      here b A h = ap (λ j. of_set A (block N K k j n)) (let e : b ≡ ones_in A - 1 = omega (arith, h.1) in e)

  pub set_rows-length : (A : List Bool) → IsSet K A → length (set_rows N K k n A) ≡ (N - 1) ^ (ones_in A - 1)
  unfolding set_rows
  set_rows-length A good = group-length N K k wide known (ones_in A - 1) n A l good.long (omega (arith, good.some))

  -- row i of set A in the whole query
  pub row_number_lem : (A : List Bool) (i : ℕ) → IsSet K A → i < (N - 1) ^ (ones_in A - 1)
      → (first_row A (layout N K) + i < length (rows N K k n)) × (get_or (rows N K k n) (first_row A (layout N K) + i) [] ≡ get_or (set_rows N K k n A) i [])
  row_number_lem A i good h = rw (layout-by-set N K, rows-by-set) (r.number-below, r.number-row)
    where
      q : List Bool → ℕ
      q B = (N - 1) ^ (ones_in B - 1)

      r : Numbered q (set_rows N K k n) [] (all_sets K) A i
      r = numbered q (set_rows N K k n) [] A i h (All-imp (λ B b. (one-le-pow (ones_in B - 1) (N - 1) (omega arith), set_rows-length B b)) (all-sets K))
          (set-stands K A good)

  -- its set is A
  pub row-set : (A : List Bool) (i : ℕ) → IsSet K A → i < (N - 1) ^ (ones_in A - 1) → set_of (get_or (set_rows N K k n A) i []) ≡ A
  unfolding set_rows set_of
  row-set A i good h =
      sym (get_or-map set_of (of_set A R) i [])
      ∙ ap (λ (L : List (List Bool)). get_or L i []) (keep-sets A R)
      ∙ get_or-replicate (sum (λ r. bit (same A r)) R) i A []
      (omega (arith, group-size N K k wide known (ones_in A - 1) n A l good.long (omega (arith, good.some))))
    where
      R : List Row
      R = block N K k (ones_in A - 1) n

  row_has : (A : List Bool) (i p : ℕ) → IsSet K A → i < (N - 1) ^ (ones_in A - 1) → is_some (get_or (get_or (set_rows N K k n A) i []) p none) ≡ has p A
  row_has A i p good h = sym (set_of-has (get_or (set_rows N K k n A) i []) p) ∙ ap (has p) (row-set A i good h)

  -- so it has a place of p if A has p, and else none
  pub row-some : (A : List Bool) (i p : ℕ) → IsSet K A → i < (N - 1) ^ (ones_in A - 1) → has p A ≡ true
      → (x : ℕ) × (get_or (get_or (set_rows N K k n A) i []) p none ≡ some x)
  unfolding is_some
  row-some A i p good h e = go (get_or (get_or (set_rows N K k n A) i []) p none) (row_has A i p good h ∙ e)
    where
      go : (o : Option ℕ) → is_some o ≡ true → (x : ℕ) × (o ≡ some x)
      go none f = absurd (false≢true f)
      go (some x) f = (x, refl)

  pub row-none : (A : List Bool) (i p : ℕ) → IsSet K A → i < (N - 1) ^ (ones_in A - 1) → has p A ≡ false → get_or (get_or (set_rows N K k n A) i []) p none ≡ none
  unfolding is_some
  row-none A i p good h e = go (get_or (get_or (set_rows N K k n A) i []) p none) (row_has A i p good h ∙ e)
    where
      go : (o : Option ℕ) → is_some o ≡ false → o ≡ none
      go none f = refl
      go (some x) f = absurd (true≢false f)

-- row i of set A at server n, where A has k
pub record WantedRow (N K k n : ℕ) (A : List Bool) (i : ℕ) : Type 0 where
  pub server-below : n < N
  pub set-good : IsSet K A
  pub in-set : has k A ≡ true
  pub row_below : i < (N - 1) ^ (ones_in A - 1)
