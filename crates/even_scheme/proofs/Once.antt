-- Recovery writes each symbol of the message once: its parts begin at the symbols of a permutation of all of them (`symbols-once`).
-- Rests on the places of the wanted message, each of which stands once in all queries together (`wanted-once`).
use mathlib.Core.Path.{◌≡◌, refl, sym, ap, ◌∙◌, fun_ext}
use mathlib.Core.Bool.{Bool, true, false}
use mathlib.Core.List.{List, [], map, map-map, flat_map}
use Prim.Native.Nat.{ℕ, ◌-◌, ◌*◌, ◌^◌, ◌<◌}
use native.Mathlib.Nat.{one-mul, zero-mul}
use native.Mathlib.Omega.{arith}
use borrow.Author.Tests.{eq-eqb}
use lib.Dec.{eqb, ltb}
use lib.ListN.{length, get_or}
use Rattle.lists.specs.Arranged.{picked}
use Rattle.lists.specs.Below.{all_below}
use Rattle.lists.specs.Distinct.{stands, distinct, is_permutation}
use Rattle.lists.specs.Ranges.{range}
use Rattle.lists.specs.Sums.{bit, keep, sum}
use Rattle.lists.proofs.Arranged.{Permutation, permutation-facts, picked-permutation}
use Rattle.lists.proofs.Below.{all_below-below}
use Rattle.lists.proofs.Bits.{bit-small}
use Rattle.lists.proofs.Distinct.{times, times_below, times-distinct, stands-times, stands-count}
use Rattle.lists.proofs.Joined.{map-flat_map}
use Rattle.lists.proofs.Ranges.{range_length}
use Rattle.lists.proofs.Each.{All-imp}
use Rattle.lists.proofs.Sums.{sum-all, sum-flat_map, sum-keep, sum-map, sum-range, sum-zero, sum_one, sum-at}
use Rattle.symbol.specs.Sum.{Sum}
use Rattle.scheme.specs.Scheme.{Valid}
use Rattle.even_places.specs.Rule.{has, ones_in, rows, all_sets}
use Rattle.even_places.proofs.RowNumbers.{set_rows, rows-by-set, set_rows-length, row-some, row-none}
use Rattle.even_places.proofs.Rows.{below, below-lt, hit, is}
use Rattle.even_places.proofs.Totals.{wanted-once}
use Rattle.even_places.proofs.AllSets.{IsSet, all-sets}
use Rattle.even_scheme.specs.Even.{permutation, entry_at, wanted_place, recovered_part, server_parts, recovered_parts, even_scheme}
use Rattle.lists.specs.Assembled.{Part}
use Rattle.even_scheme.proofs.Keys.{key-permutation}
use Rattle.even_scheme.proofs.Recovery.{wanted-place}

module _ (sums : Sum) (N K S k : ℕ) where
  -- the places of the wanted message in the order of recovery: in the rows of a set, of a server, of all
  set_places : ℕ → List Bool → List ℕ
  set_places n A = map (wanted_place sums N K S k n A) (range 0 ((N - 1) ^ (ones_in A - 1)))

  server_places : ℕ → List ℕ
  server_places n = flat_map (set_places n) (keep (has k) (all_sets K))

  recovered_places : List ℕ
  recovered_places = flat_map server_places (range 0 N)

  -- each place stands among them as often as in the rows of the queries
  module _ (wide : 1 < N) (known : k < K) (v : ℕ) where
    set-times : (n : ℕ) → n < N → (A : List Bool) → IsSet K A → bit (has k A) * times v (set_places n A) ≡ sum (hit k v) (set_rows N K k n A)
    unfolding bit times set_places hit is
    set-times n l A good =
        go (has k A) refl ∙ sym (sum-at (hit k v) [] (set_rows N K k n A) ∙ ap (λ (m : ℕ). sum hits (range 0 m)) (set_rows-length N K k wide known n l A good))
      where
        q : ℕ
        q = (N - 1) ^ (ones_in A - 1)

        hits : ℕ → ℕ
        hits i = hit k v (get_or (set_rows N K k n A) i [])

        go : (t : Bool) → has k A ≡ t → bit t * times v (set_places n A) ≡ sum hits (range 0 q)
        go true e =
            one-mul (times v (set_places n A))
            ∙ sum-map (λ x. bit (eqb x v)) (wanted_place sums N K S k n A) (range 0 q)
            ∙ sum-range (λ i. bit (eqb (wanted_place sums N K S k n A i) v)) hits q (λ i h.
            let place = row-some N K k wide known n l A i k good h e in
            ap (λ (x : ℕ). bit (eqb x v))
            (wanted-place sums N K S k wide known n A i place.0 (record { server-below = l; set-good = good; in-set = e; row_below = h }) place.1)
            ∙ sym (ap (is v) place.1))
        go false e =
            zero-mul (times v (set_places n A))
            ∙ sym (sum-zero (range 0 q))
            ∙ sum-range (λ i. 0) hits q (λ i h. sym (ap (is v) (row-none N K k wide known n l A i k good h e)))

    server-times : (n : ℕ) → n < N → times v (server_places n) ≡ sum (hit k v) (rows N K k n)
    unfolding times server_places
    server-times n l =
        sum-flat_map (λ x. bit (eqb x v)) (set_places n) (keep (has k) (all_sets K))
        ∙ sum-keep (λ A. times v (set_places n A)) (has k) (all_sets K)
        ∙ sum-all (λ A. bit (has k A) * times v (set_places n A)) (λ A. sum (hit k v) (set_rows N K k n A)) (All-imp (set-times n l) (all-sets K))
        ∙ sym (sum-flat_map (hit k v) (set_rows N K k n) (all_sets K))
        ∙ ap (sum (hit k v)) (sym (rows-by-set N K k wide known n l))

    places-times : times v recovered_places ≡ below v (N ^ K)
    unfolding times recovered_places
    places-times =
        sum-flat_map (λ x. bit (eqb x v)) server_places (range 0 N)
        ∙ sum-range (λ n. times v (server_places n)) (λ n. sum (hit k v) (rows N K k n)) N server-times
        ∙ wanted-once N K k wide known v

  -- so they are a permutation of all places
  places-permutation : 1 < N → k < K → Permutation (N ^ K) recovered_places
  unfolding is_permutation below
  places-permutation wide known =
      permutation-facts (N ^ K) recovered_places (rw (eq-eqb (length recovered_places) (N ^ K) long, small, apart))
    where
      small : all_below (N ^ K) recovered_places ≡ true
      small = times_below (N ^ K) recovered_places (λ v. omega (arith, places-times wide known v))

      apart : distinct recovered_places ≡ true
      apart = times-distinct recovered_places (λ v. omega (arith, places-times wide known v, bit-small (ltb v (N ^ K))))

      long : length recovered_places ≡ N ^ K
      long =
          sym (stands-count (N ^ K) recovered_places (all_below-below (N ^ K) recovered_places small) apart)
          ∙ sum-range (λ v. bit (stands v recovered_places)) (λ v. 1) (N ^ K)
          (λ v h. sym (stands-times v recovered_places apart) ∙ places-times wide known v ∙ below-lt v (N ^ K) h)
          ∙ sum_one (range 0 (N ^ K))
          ∙ range_length 0 (N ^ K)

  module _ (key : List ℕ) (answers : List (List ℕ)) where
    start : Part → ℕ
    start part = part.0

    offset : ℕ → ℕ
    offset place = entry_at N K key k place * S

    parts-start : map start (recovered_parts sums N K S k key answers) ≡ map offset recovered_places
    unfolding recovered_parts server_parts recovered_part recovered_places server_places set_places start offset
    parts-start =
        map-flat_map start (server_parts sums N K S k key answers) (range 0 N)
        ∙ ap (λ g. flat_map g (range 0 N)) (fun_ext of-server)
        ∙ sym (map-flat_map offset server_places (range 0 N))
      where
        of-set : (n : ℕ) (A : List Bool)
            → map start (map (recovered_part sums N K S k key answers n A) (range 0 ((N - 1) ^ (ones_in A - 1)))) ≡ map offset (set_places n A)
        of-set n A =
            map-map start (recovered_part sums N K S k key answers n A) (range 0 ((N - 1) ^ (ones_in A - 1)))
            ∙ sym (map-map offset (wanted_place sums N K S k n A) (range 0 ((N - 1) ^ (ones_in A - 1))))

        of-server : (n : ℕ) → map start (server_parts sums N K S k key answers n) ≡ map offset (server_places n)
        of-server n =
            map-flat_map start (λ A. map (recovered_part sums N K S k key answers n A) (range 0 ((N - 1) ^ (ones_in A - 1)))) (keep (has k) (all_sets K))
            ∙ ap (λ g. flat_map g (keep (has k) (all_sets K))) (fun_ext (of-set n))
            ∙ sym (map-flat_map offset (set_places n) (keep (has k) (all_sets K)))

-- from answers of any contents: no symbol of the message is left out, and none is written twice
pub symbols-once : (sums : Sum) (N K S wanted : ℕ) (key : List ℕ) (answers : List (List ℕ)) → 1 < N → wanted < K → Valid (even_scheme sums N K S) key
    → (numbers : List ℕ) × Permutation (N ^ K) numbers
    × (map (λ part. part.0) (recovered_parts sums N K S wanted key answers) ≡ map (λ number. number * S) numbers)
unfolding picked entry_at start offset
symbols-once sums N K S wanted key answers wide known valid = (
  picked (permutation N K key wanted) places,
  picked-permutation (N ^ K) (permutation N K key wanted) places (key-permutation sums N K S key valid wanted known)
      (places-permutation sums N K S wanted wide known),
  parts-start sums N K S wanted key answers ∙ sym (map-map (λ number. number * S) (entry_at N K key wanted) places),
)
  where
    places : List ℕ
    places = recovered_places sums N K S wanted
