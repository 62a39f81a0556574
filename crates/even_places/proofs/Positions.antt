-- Where things stand: the message at each position of a query, the same at every server and for every wanted message (`same-members`),
-- one of the K messages (`positions-below`), how many positions there are (`positions-length`), and the row that a wanted row is joined from,
-- by number (`joined_at`).
use Prim.Native.Nat.{ℕ, suc, ◌+◌, ◌*◌, ◌-◌, ◌^◌, ◌≤◌, ◌<◌}
use native.Mathlib.Omega.{arith}
use mathlib.Core.Path.{◌≡◌, refl, sym, ap, ◌∙◌, fun_ext}
use mathlib.Core.List.{List, [], ◌∷◌, map, flat_map}
use mathlib.Core.Bool.{Bool, true, false}
use mathlib.Core.Option.{none, some}
use lib.ListN.{length, get_or, set, length-replicate, length-set, length-map, get_or-map}
use Rattle.lists.specs.Below.{Below}
use Rattle.lists.specs.Sums.{bit, sum, All, all_nil, all_cons}
use Rattle.lists.proofs.Joined.{map-flat_map, flat_map-map, flat_map-at}
use Rattle.lists.proofs.Each.{All-get, All-imp, All-flatMap}
use Rattle.even_places.specs.Rule.{has, ones_in, members, Row, others, is_some, same, of_set, cells, rows, query_cells, layout, positions}
use Rattle.even_places.specs.Counting.{block}
use Rattle.even_places.proofs.Others.{others-length, others_below}
use Rattle.even_places.proofs.SetLaws.{set_of, keep-sets, ones-drop}
use Rattle.even_places.proofs.Joined.{same_layout, group-size, joined}
use Rattle.even_places.proofs.Flat.{query-length}
use Rattle.even_places.proofs.AllSets.{layout-long}

cells-members : (q : ℕ) (r : Row) → map (λ e. e.0) (cells q r) ≡ members q (set_of r)
unfolding cells members set_of is_some
cells-members q [] = refl
cells-members q (none ∷ r) = cells-members (suc q) r
cells-members q (some x ∷ r) = ap (λ l. q ∷ l) (cells-members (suc q) r)

-- the message at each position of a query depends on N and K alone
pub same-members : (N K k n : ℕ) → 1 < N → k < K → n < N → map (λ e. e.0) (query_cells N K k n) ≡ flat_map (members 0) (layout N K)
unfolding query_cells
same-members N K k n wide known l =
    map-flat_map (λ e. e.0) (cells 0) (rows N K k n)
    ∙ ap (λ g. flat_map g (rows N K k n)) (fun_ext (cells-members 0))
    ∙ sym (flat_map-map (members 0) set_of (rows N K k n))
    ∙ ap (flat_map (members 0)) (same_layout N K k wide known n l)

pub members-below : (K q : ℕ) (A : List Bool) → q + length A ≤ K → All (λ p. p < K) (members q A)
unfolding members
members-below K q [] h = all_nil
members-below K q (true ∷ A) h = all_cons {x = q} (omega arith) (members-below K (suc q) A (omega arith))
members-below K q (false ∷ A) h = members-below K (suc q) A (omega arith)

pub members-length : (q : ℕ) (A : List Bool) → length (members q A) ≡ ones_in A
unfolding members ones_in sum bit
members-length q [] = refl
members-length q (true ∷ A) = omega (arith, members-length (suc q) A)
members-length q (false ∷ A) = omega (arith, members-length (suc q) A)

-- at each position stands one of the messages
pub positions-below : (N K : ℕ) → Below K (positions N K)
unfolding positions
positions-below N K i h = All-get 0 (All-flatMap (members 0) (All-imp (λ A e. members-below K 0 A (omega (arith, e))) (layout-long N K))) i h

pub positions-length : (N K : ℕ) → 1 < N → 0 < K → length (positions N K) ≡ K * N ^ (K - 1)
unfolding positions
positions-length N K wide some-message =
    ap length (sym (same-members N K 0 0 wide some-message (omega arith)))
    ∙ length-map (query_cells N K 0 0) (λ e. e.0)
    ∙ query-length N K 0 wide some-message 0 (omega arith)

module _ (N K k : ℕ) (wide : 1 < N) (known : k < K) where
  pub group-length : (b n : ℕ) (A : List Bool) → n < N → length A ≡ K → ones_in A ≡ suc b → length (of_set A (block N K k b n)) ≡ (N - 1) ^ b
  group-length b n A l long many =
      sym (length-map (of_set A (block N K k b n)) set_of)
      ∙ ap length (keep-sets A (block N K k b n))
      ∙ length-replicate (sum (λ r. bit (same A r)) (block N K k b n)) A
      ∙ group-size N K k wide known b n A l long many

  -- by number: of server n's rows of a set with k, number j (N-1)^b + r is joined from row r of the set without k at the j-th other server
  pub joined_at : (b n j r : ℕ) (A : List Bool) → n < N → has k A ≡ true → length A ≡ K → ones_in A ≡ suc (suc b) → j < N - 1 → r < (N - 1) ^ b
      → set (get_or (of_set A (block N K k (suc b) n)) (j * (N - 1) ^ b + r) []) k none ≡ get_or (of_set (set A k false) (block N K k b (get_or (others N n) j 0))) r []
  joined_at b n j r A l e long many hj hr =
      sym (get_or-map (λ s. set s k none) (of_set A (block N K k (suc b) n)) (j * (N - 1) ^ b + r) [])
      ∙ ap (λ s. get_or s (j * (N - 1) ^ b + r) []) (joined N K k wide known b n A e)
      ∙ flat_map-at (λ m. of_set (set A k false) (block N K k b m)) ((N - 1) ^ b) [] 0
      (All-imp (λ m h. group-length b m (set A k false) h (length-set A k false ∙ long) (omega (arith, ones-drop A k e, many))) (others_below N n))
      j r (omega (arith, others-length N n l)) hr
