-- One turn more of each loop: of counting a set's messages (`counts-more`, `counted-more`), and of adding up what was taken
-- (`taken_more`, `table_more`); and bounds on both (`taken-small`).
use Prim.Native.Nat.{ℕ, zero, suc, ◌+◌, ◌-◌, ◌*◌, ◌/◌, ◌%◌, ◌^◌, ◌≤◌, ◌<◌}
use native.Mathlib.Nat.{add-zero, add-suc, suc-add, add-sub_cancel_left, sub_self, sub-zero, add_comm}
use native.Mathlib.Nat.{not-suc-le-zero, mul-le-mul, pow-le-pow_left, pow-le-pow_right, mod-lt}
use native.Mathlib.Numerals.{add-one}
use native.Mathlib.Omega.{arith}
use mathlib.Core.Path.{◌≡◌, refl, sym, ap, ◌∙◌}
use mathlib.Core.List.{List, [], ◌∷◌, ◌++◌, map, append-nil}
use mathlib.Core.Bool.{Bool, true, false}
use lib.Count.{ones as count}
use lib.Dec.{eqb}
use lib.ListN.{length, get_or, take, drop, set, replicate, length-map, length-replicate}
use lib.Seq.{take_all, drop-cons, drop-set-lt}
use Rattle.lists.specs.Below.{Below}
use Rattle.lists.specs.Ranges.{range}
use Rattle.lists.specs.Sums.{bit, sum}
use Rattle.lists.proofs.Below.{below-cons, below-append, below-take, below-drop, below-zeros}
use Rattle.lists.proofs.Cuts.{cut-length}
use Rattle.lists.proofs.Puts.{put-part, write-more}
use Rattle.lists.proofs.Sums.{sum-next}
use Rattle.lists.proofs.Bits.{bit-of, bit_test}
use Rattle.even_places.specs.Rule.{has, byte_of, ones_in, after, all_sets}
use Rattle.even_places.proofs.Rows.{after-length}
use Rattle.even_places.proofs.Bytes.{byte-has, byte-ones}
use Rattle.even_places.proofs.AllSets.{IsSet, all-sets}
use Rattle.even_sets.specs.Sets.{set_in}
use Rattle.even_sets.proofs.Blocks.{all-length, subsets-few}
use Rattle.even_sets.proofs.SetBytes.{set_in-length, byte_at}
use Rattle.even_ranks.proofs.Counters.{room, counted_all-length}
use Rattle.even_ranks.specs.Counts.{counter, no_counts, Stands, counters_of, set_counted, counted_all, totals_of, takers, taken, taken_table}

-- the counters from p on are still to be counted, by what is left of the set's byte
unfoldable pub counts_from : ℕ → ℕ → ℕ → List ℕ → List ℕ
counts_from k p rest counts = take p counts ++ after (set_in (k - p) rest) (drop p counts)

pub counts-more : (k p rest : ℕ) (counts : List ℕ) → p < k → length counts ≡ k
    → counts_from k p rest counts ≡ counts_from k (p + 1) (rest / 2) (set counts p (get_or counts p 0 + rest % 2))
unfolding counts_from after set_in
counts-more k p rest counts h e =
    let left : k - p ≡ suc (k - (p + 1)) = omega arith in
    let inside : p < length counts = omega arith in
    let next = get_or counts p 0 + rest % 2 in
    rw (
      left,
      drop-cons counts p 0 inside,
      bit-of (rest % 2) (mod-lt rest (omega arith)),
      add_comm (rest % 2) (get_or counts p 0),
      write-more p next counts _ inside,
      add-one p,
      drop-set-lt (suc p) counts p next (omega arith),
    )

pub counts-done : (k rest : ℕ) (counts : List ℕ) → length counts ≡ k → counts_from k k rest counts ≡ counts
unfolding counts_from after set_in
counts-done k rest counts e = rw (sub_self k, append-nil (take k counts), take_all k counts (omega arith))

pub counts_start : (k rest : ℕ) (counts : List ℕ) → counts_from k 0 rest counts ≡ after (set_in k rest) counts
unfolding counts_from
counts_start k rest counts = rw (sub-zero k)

-- a counter grows by one at most
after-below : (c : ℕ) (A : List Bool) (counts : List ℕ) → Below c counts → Below (suc c) (after A counts)
unfolding after bit
after-below c [] counts b = λ i h. absurd (not-suc-le-zero h)
after-below c (a ∷ A) [] b = λ i h. absurd (not-suc-le-zero h)
after-below c (true ∷ A) (x ∷ counts) b =
    below-cons (suc c) (1 + x) (after A counts) (omega (arith, b 0 (omega arith))) (after-below c A counts (λ i h. b (suc i) (omega arith)))
after-below c (false ∷ A) (x ∷ counts) b =
    below-cons (suc c) (0 + x) (after A counts) (omega (arith, b 0 (omega arith))) (after-below c A counts (λ i h. b (suc i) (omega arith)))

pub counted-below : (c k : ℕ) (A : List Bool) (counts : List ℕ) → Below c counts → Below (suc c) (set_counted k A counts)
unfolding set_counted
counted-below c k A counts b =
    let at = counters_of k A in
    let made = after A (take (length A) (drop at counts)) in
    let more : Below (suc c) counts = λ i h. omega (arith, b i h) in
    below-append (suc c) (take at counts) (made ++ drop (length made) (drop at counts)) (below-take (suc c) at counts more)
    (below-append (suc c) made (drop (length made) (drop at counts))
    (after-below c A (take (length A) (drop at counts)) (below-take c (length A) (drop at counts) (below-drop c at counts b)))
    (below-drop (suc c) (length made) (drop at counts) (below-drop (suc c) at counts more)))

-- what is taken in one block more, and how much it can be
module _ (N k : ℕ) (totals : List ℕ) where
  pub taken_none : (p : ℕ) → taken N k totals 0 p ≡ 0
  unfolding taken sum range
  taken_none p = refl

  pub taken_more : (b p : ℕ) → taken N k totals (b + 1) p ≡ taken N k totals b p + (N - 1) ^ b * takers k totals b p
  unfolding taken
  taken_more b p = rw (add-one b) (sum-next (λ j. (N - 1) ^ j * takers k totals j p) b)

  module _ (few : N ≤ 16) (long : length totals ≡ 128) (small : Below 65536 totals) (p : ℕ) (low : p < 8) where
    takers-small : (b : ℕ) → b < 8 → takers k totals b p ≤ 65536
    unfolding takers counter bit
    takers-small b h = go (eqb p k)
      where
        go : (t : Bool) → get_or totals (bit t * 64 + b * 8 + p) 0 ≤ 65536
        go true = omega (arith, small (1 * 64 + b * 8 + p) (omega arith))
        go false = omega (arith, small (0 * 64 + b * 8 + p) (omega arith))

    pub rows-small : (b : ℕ) → b ≤ 8 → (N - 1) ^ b ≤ 4294967296
    rows-small b h =
        omega (
          arith,
          (let w : (N - 1) ^ b ≤ 16 ^ b = pow-le-pow_left (omega arith) b in w),
          (let w : 16 ^ b ≤ 16 ^ 8 = pow-le-pow_right {n = 16} (omega arith) h in w),
        )

    -- each block takes at most 2^48
    pub share-small : (b : ℕ) → b < 8 → (N - 1) ^ b * takers k totals b p ≤ 281474976710656
    share-small b h = omega (arith, mul-le-mul (rows-small b (omega arith)) (takers-small b h))

    pub taken-small : (b : ℕ) → b ≤ 8 → taken N k totals b p ≤ b * 281474976710656
    taken-small zero h = omega (arith, taken_none p)
    taken-small (suc b) h = omega (arith, taken_more b p, ap (λ j. taken N k totals j p) (add-one b), taken-small b (omega arith), share-small b h)

-- the entries of the table from i on
unfoldable pub taken_from : ℕ → ℕ → List ℕ → ℕ → List ℕ
taken_from N k totals i = map (λ j. taken N k totals (j / 8) (j % 8)) (range i (64 - i))

pub table_more : (N k i : ℕ) (totals : List ℕ) → i < 64 → taken_from N k totals i ≡ taken N k totals (i / 8) (i % 8) ∷ taken_from N k totals (i + 1)
unfolding taken_from range
table_more N k i totals h =
    let left : 64 - i ≡ suc (64 - (i + 1)) = omega arith in
    rw (left, add-one i)

pub table-start : (N k : ℕ) (totals : List ℕ) → taken_from N k totals 0 ≡ taken_table N k totals
unfolding taken_from taken_table
table-start N k totals = refl

pub table_done : (N k : ℕ) (totals : List ℕ) → taken_from N k totals 64 ≡ []
unfolding taken_from range
table_done N k totals = refl

-- the byte at index i of the sets in order
pub stands_at : (K i : ℕ) (sets : List ℕ) → 1 ≤ K → K ≤ 8 → sets ≡ map byte_of (all_sets K) → i < length sets
    → Stands K (get_or sets i 0) × (set_in K (get_or sets i 0) ≡ get_or (all_sets K) i [])
stands_at K i sets low high e h =
    let s = byte_at 2 K i sets [] (record { servers-low = omega arith; messages-low = low; messages-high = high; symbols-high = subsets-few K high })
    (e ∙ sym (append-nil (map byte_of (all_sets K)))) (omega (arith, ap length e, length-map (all_sets K) byte_of)) in
    (record { encoded = ap byte_of s.decoded ∙ sym s.byte; some = rw s.decoded s.is.some }, s.decoded)

-- a set's counters by its byte
counters-byte : (k set : ℕ) (A : List Bool) → set ≡ byte_of A → counter (eqb (set / 2 ^ k % 2) 1) (count set - 1) 0 ≡ counters_of k A
unfolding counters_of bit
counters-byte k set A e = rw (e, byte-has A k, byte-ones A) (ap (λ t. counter t (ones_in A - 1) 0) (bit_test (has k A)))

pub stands-count : (K byte : ℕ) → Stands K byte → count byte ≡ ones_in (set_in K byte)
stands-count K byte s = ap count (sym s.encoded) ∙ byte-ones (set_in K byte)

pub stands_set : (K byte : ℕ) → Stands K byte → IsSet K (set_in K byte)
stands_set K byte s = record { long = set_in-length K byte; some = s.some }

-- the counters that are lent for a set, from `at` on
pub record Lent (K k byte at : ℕ) : Type 0 where
  pub set : IsSet K (set_in K byte)
  pub begins : at ≡ counters_of k (set_in K byte)
  pub fits : at + K ≤ 128

pub lent : (K k byte at : ℕ) → K ≤ 8 → Stands K byte → at ≡ counter (eqb (byte / 2 ^ k % 2) 1) (count byte - 1) 0 → Lent K k byte at
lent K k byte at few s e =
    let A = set_in K byte in
    let known = stands_set K byte s in
    let here : at ≡ counters_of k A = e ∙ counters-byte k byte A (sym s.encoded) in
    record {
      set = known;
      begins = here;
      fits = omega (arith, room K k few A (replicate 128 0) known (length-replicate {A = ℕ} 128 0), length-replicate {A = ℕ} 128 0, known.long);
    }

-- the counters given back: the part that was lent is counted
pub counted-part : (K k byte at : ℕ) (counts : List ℕ) → length counts ≡ 128 → Lent K k byte at
    → take at counts ++ (after (set_in K byte) (take (at + K - at) (drop at counts)) ++ drop (at + K - at) (drop at counts)) ≡ set_counted k (set_in K byte) counts
unfolding set_counted
counted-part K k byte at counts long l =
    let A = set_in K byte in
    let part = take K (drop at counts) in
    let made : length (after A part) ≡ K =
    after-length A part (l.set.long ∙ sym (cut-length at K counts (omega (arith, l.fits)))) ∙ cut-length at K counts (omega (arith, l.fits)) in
    ap (λ (n : ℕ). take at counts ++ (after A (take n (drop at counts)) ++ drop (at + K - at) (drop at counts))) (add-sub_cancel_left at K)
    ∙ put-part at K (after A part) counts made
    ∙ rw (l.set.long, l.begins) refl

-- one set more is counted
pub counted-more : (k i : ℕ) (L : List (List Bool)) (counts : List ℕ) → i < length L
    → counted_all k (drop i L) counts ≡ counted_all k (drop (i + 1) L) (set_counted k (get_or L i []) counts)
unfolding counted_all
counted-more k i L counts h = rw (add-one i, drop-cons L i [] h)

counted_all-below : (c k : ℕ) (L : List (List Bool)) (counts : List ℕ) → Below c counts → Below (c + length L) (counted_all k L counts)
unfolding counted_all
counted_all-below c k [] counts b = rw (add-zero c) b
counted_all-below c k (A ∷ L) counts b =
    rw (add-suc c (length L), ← suc-add c (length L)) (counted_all-below (suc c) k L (set_counted k A counts) (counted-below c k A counts b))

-- the counts of all sets: as many as there is room for, and small
pub totals-length : (K k : ℕ) → K ≤ 8 → length (totals_of K k) ≡ 128
unfolding totals_of no_counts
totals-length K k few = counted_all-length K k few no_counts (all-sets K) (length-replicate {A = ℕ} 128 0)

pub totals-below : (K k : ℕ) → K ≤ 8 → Below 65536 (totals_of K k)
unfolding totals_of no_counts
totals-below K k few = λ i h. omega (arith, counted_all-below 1 k (all_sets K) no_counts (below-zeros 1 128 (omega arith)) i h, all-length K, subsets-few K few)
