-- The walk over the sets with counters writes the places of the rule (`walked-is`), for all N, K, k and servers. Rests on the place of
-- each cell (Cells) and on a query's rows by set (`rows-by-set` of even_places).
use Prim.Native.Nat.{ℕ, suc, ◌+◌, ◌-◌, ◌^◌, ◌≤◌, ◌<◌}
use native.Mathlib.Nat.{zero-add, add-zero}
use native.Mathlib.Omega.{arith}
use native.Mathlib.Decide.{dec_lt}
use mathlib.Core.Path.{◌≡◌, refl, sym, ap, ap₂, ◌∙◌, subst}
use mathlib.Core.List.{List, [], ◌∷◌, ◌++◌, map, append_assoc, flat_map}
use mathlib.Core.Bool.{Bool, true, false, false≢true}
use mathlib.Core.Option.{none, some}
use lib.ListN.{length, get_or, length-map, get_or-map, get_or-eq_default}
use Rattle.lists.specs.Below.{Below}
use Rattle.lists.specs.Parts.{cut}
use Rattle.lists.specs.Ranges.{range}
use Rattle.lists.specs.Sums.{All}
use Rattle.lists.proofs.Each.{All-back, All-head}
use Rattle.lists.proofs.Joined.{flat_map-flat_map, map-flat_map}
use Rattle.lists.proofs.Mapped.{map-append}
use Rattle.even_places.specs.Rule.{has, ones_in, members, Row, is_some, cells, query_cells, all_sets}
use Rattle.even_places.proofs.SetLaws.{set_of}
use Rattle.even_places.proofs.RowNumbers.{set_rows, rows-by-set, set_rows-length, row-set}
use Rattle.even_places.proofs.Flat.{inside}
use Rattle.even_places.proofs.AllSets.{IsSet, all-sets}
use Rattle.even_ranks.specs.Counts.{no_counts, counters_of, set_counted, counted_all, totals_of}
use Rattle.even_ranks.specs.Walk.{origin_place, origin_of, row_places, set_places, sets_places, walked}
use Rattle.even_ranks.proofs.Cells.{cell-is}

-- the places of rows, in order
abbrev places_in : List Row → List ℕ
places_in rs = map (λ e. e.1) (flat_map (cells 0) rs)

-- a row's places, where each is known
cells_are : (f : ℕ → ℕ) (q : ℕ) (r : Row) → ((p : ℕ) → has p (set_of r) ≡ true → get_or r p none ≡ some (f (q + p)))
    → map (λ e. e.1) (cells q r) ≡ map f (members q (set_of r))
unfolding cells members set_of is_some has
cells_are f q [] g = refl
cells_are f q (none ∷ r) g = cells_are f (suc q) r (λ p h. g (suc p) h ∙ ap (λ i. some (f i)) (omega arith))
cells_are f q (some x ∷ r) g = ap₂ (λ y l. y ∷ l) here (cells_are f (suc q) r (λ p h. g (suc p) h ∙ ap (λ i. some (f i)) (omega arith)))
  where
    here : x ≡ f q
    here = let e : some x ≡ some (f (q + 0)) = g 0 refl in let d : x ≡ f (q + 0) = cc in d ∙ ap f (add-zero q)

-- rows one after another, by number
rows_are : (h : ℕ → List ℕ) (a : ℕ) (rs : List Row) → ((i : ℕ) → i < length rs → map (λ e. e.1) (cells 0 (get_or rs i [])) ≡ h (a + i))
    → places_in rs ≡ flat_map h (range a (length rs))
unfolding flat_map range
rows_are h a [] g = refl
rows_are h a (r ∷ rs) g =
    map-append (λ e. e.1) (cells 0 r) (flat_map (cells 0) rs)
    ∙ ap₂ (λ l m. l ++ m) (g 0 (omega arith) ∙ ap h (add-zero a)) (rows_are h (suc a) rs (λ i l. g (suc i) (omega arith) ∙ ap h (omega arith)))

has-low : (A : List Bool) (p : ℕ) → has p A ≡ true → p < length A
unfolding has
has-low A p g = go (dec_lt p (length A))
  where
    go : Dec (p < length A) → p < length A
    go (yes h) = h
    go (no h) = absurd (false≢true (sym (get_or-eq_default A false (omega arith)) ∙ g))

counted_all-last : (k : ℕ) (D : List (List Bool)) (A : List Bool) (counts : List ℕ) → counted_all k (D ++ A ∷ []) counts ≡ set_counted k A (counted_all k D counts)
unfolding counted_all
counted_all-last k [] A counts = refl
counted_all-last k (B ∷ D) A counts = counted_all-last k D A (set_counted k B counts)

module _ (N K k n : ℕ) (wide : 1 < N) (wanted : k < K) (few : K ≤ 8) (server : n < N) where
  set_is : (D L : List (List Bool)) (A : List Bool) → D ++ A ∷ L ≡ all_sets K
      → set_places N k n (totals_of K k) (cut (counters_of k A) (length A) (counted_all k D no_counts)) A ≡ places_in (set_rows N K k n A)
  unfolding set_places row_places set_rows
  set_is D L A split = sym (rows_are places 0 (set_rows N K k n A) row ∙ ap (λ s. flat_map places (range 0 s)) size)
    where
      b : ℕ
      b = ones_in A - 1

      known : IsSet K A
      known = All-head (All-back D (A ∷ L) (subst (All (IsSet K)) (sym split) (all-sets K)))

      many : ones_in A ≡ suc b
      many = omega (arith, known.some)

      ranks : List ℕ
      ranks = cut (counters_of k A) (length A) (counted_all k D no_counts)

      places : ℕ → List ℕ
      places i = map (origin_place N k (totals_of K k) ranks (origin_of N k n A i)) (members 0 A)

      size : length (set_rows N K k n A) ≡ (N - 1) ^ b
      size = set_rows-length N K k wide wanted n server A known

      row : (i : ℕ) → i < length (set_rows N K k n A) → map (λ e. e.1) (cells 0 (get_or (set_rows N K k n A) i [])) ≡ places (0 + i)
      row i h =
          cells_are f 0 r (λ p g. cell p (ap (has p) (sym its-set) ∙ g) ∙ ap (λ s. some (f s)) (sym (zero-add p)))
          ∙ ap (λ B. map f (members 0 B)) its-set
          ∙ ap places (sym (zero-add i))
        where
          r : Row
          r = get_or (set_rows N K k n A) i []

          its-set : set_of r ≡ A
          its-set = row-set N K k wide wanted n server A i known (omega (arith, size))

          f : ℕ → ℕ
          f = origin_place N k (totals_of K k) ranks (origin_of N k n A i)

          cell : (p : ℕ) → has p A ≡ true → get_or r p none ≡ some (f p)
          cell p g = cell-is N K k wide wanted few D L A split n server b i p many (omega (arith, size)) (omega (arith, has-low A p g, known.long)) g

  walk_is : (D L : List (List Bool)) → D ++ L ≡ all_sets K
      → sets_places N k n (totals_of K k) (counted_all k D no_counts) L ≡ flat_map (λ A. places_in (set_rows N K k n A)) L
  unfolding sets_places flat_map
  walk_is D [] split = refl
  walk_is D (A ∷ L) split =
      ap₂ (λ l m. l ++ m) (set_is D L A split)
      (ap (λ c. sets_places N k n (totals_of K k) c L) (sym (counted_all-last k D A no_counts)) ∙ walk_is (D ++ A ∷ []) L (append_assoc D (A ∷ []) L ∙ split))

  pub walked-is : walked N K k n ≡ map (λ e. e.1) (query_cells N K k n)
  unfolding walked query_cells counted_all
  walked-is =
      walk_is [] (all_sets K) refl
      ∙ sym
      (ap places_in (rows-by-set N K k wide wanted n server)
      ∙ ap (map (λ e. e.1)) (flat_map-flat_map (cells 0) (set_rows N K k n) (all_sets K))
      ∙ map-flat_map (λ e. e.1) (λ A. flat_map (cells 0) (set_rows N K k n A)) (all_sets K))

  pub walked-below : Below (N ^ K) (walked N K k n)
  walked-below =
      rw walked-is
      (λ i h. rw (get_or-map (λ e. e.1) (query_cells N K k n) i (0, 0))
      (inside N K k wide wanted n i server (omega (arith, length-map (query_cells N K k n) (λ e. e.1)))).1)
