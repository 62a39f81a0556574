-- The honest answers give the wanted message (`recovers`): each recovered part is a symbol of it (Recovery), and they cover it
-- (Covers).
use mathlib.Core.Path.{◌≡◌, sym, ap, ◌∙◌}
use mathlib.Core.Bool.{true}
use mathlib.Core.List.{List}
use Prim.Native.Nat.{ℕ, ◌*◌, ◌^◌, ◌<◌}
use native.Mathlib.Nat.{suc-mul, mul-le-mul_right}
use native.Mathlib.Omega.{arith}
use lib.ListN.{length, length-replicate}
use Rattle.lists.specs.Below.{Below}
use Rattle.lists.specs.Parts.{cut}
use Rattle.lists.specs.Sums.{All}
use Rattle.lists.proofs.Cuts.{cut-length}
use Rattle.parameters.specs.Bounds.{even_fits}
use Rattle.parameters.specs.Measures.{even_sizes}
use Rattle.parameters.proofs.Bounds.{even-bounds}
use Rattle.symbol.specs.Group.{AbelianGroup}
use Rattle.symbol.specs.Sum.{Sum, zeros}
use Rattle.scheme.specs.Scheme.{Valid, message_of, honest_answers}
use Rattle.even_scheme.specs.Even.{entry_at, wanted_place, recovered_part, recovered_parts, even_scheme}
use Rattle.lists.proofs.Assembled.{PartOf, assemble-message}
use Rattle.even_scheme.proofs.Covers.{each_part, Whole, parts-cover}
use Rattle.even_scheme.proofs.HonestRows.{Retrieval, number_small}
use Rattle.even_scheme.proofs.Recovery.{recovered}
use Rattle.even_scheme.proofs.Symbols.{symbol-long, symbol-part}

module _ (sum : Sum) (N K S k : ℕ) (store key : List ℕ) (run : Retrieval sum N K S k store key) where
  answers : List (List ℕ)
  answers = honest_answers (even_scheme sum N K S) N store k key

  message : List ℕ
  message = cut (k * (N ^ K * S)) (N ^ K * S) store

  message-long : length message ≡ N ^ K * S
  unfolding message
  message-long = cut-length (k * (N ^ K * S)) (N ^ K * S) store (omega (arith, run.long, suc-mul k (N ^ K * S), mul-le-mul_right (N ^ K * S) run.known))

  wanted-small : (place : ℕ) → entry_at N K key k place < N ^ K
  wanted-small place = number_small sum N K S k store key run k place run.known

  whole : Whole sum N K S k answers
  unfolding answers
  whole n A i wanted =
      let place = wanted_place sum N K S k n A i in
      ap length (recovered sum N K S k store key run n A i wanted)
      ∙ symbol-long sum N K S store run.long k (entry_at N K key k place) run.known (wanted-small place)

  parts-of : All (PartOf message) (recovered_parts sum N K S k key answers)
  unfolding recovered_part answers message
  parts-of = each_part sum N K S k key answers (λ n A i wanted.
      let number = entry_at N K key k (wanted_place sum N K S k n A i) in
      let small : number < N ^ K = wanted-small (wanted_place sum N K S k n A i) in
      record {
        within = omega (arith, whole n A i wanted, message-long, suc-mul number S, mul-le-mul_right S small);
        same =
            recovered sum N K S k store key run n A i wanted
            ∙ symbol-part sum N K S store run.long k number run.known small
            ∙ ap (λ (size : ℕ). cut (number * S) size message) (sym (whole n A i wanted));
      })

  message-recovered : 0 < S → (even_scheme sum N K S).recover k key answers ≡ message
  message-recovered sized =
      assemble-message message (recovered_parts sum N K S k key answers) parts-of
      (λ j h. parts-cover sum N K S k key answers run.wide run.known run.valid whole sized j (omega (arith, message-long)))
      (zeros (N ^ K * S))
      (length-replicate (N ^ K * S) 0 ∙ sym message-long)

pub recovers : (sum : Sum) (N K S : ℕ) → AbelianGroup sum S → even_fits N K S ≡ true → (store : List ℕ) (wanted : ℕ) (key : List ℕ) → Below 256 store
    → length store ≡ (even_scheme sum N K S).sizes.store → wanted < K → Valid (even_scheme sum N K S) key
    → (even_scheme sum N K S).recover wanted key (honest_answers (even_scheme sum N K S) N store wanted key) ≡ message_of (even_scheme sum N K S) store wanted
unfolding even_sizes answers message
recovers sum N K S group fits store wanted key bytes long known valid =
    let bounds = even-bounds N K S fits in
    message-recovered sum N K S wanted store key
    (record { group = group; wide = bounds.servers-low; known = known; bytes = bytes; long = long; valid = valid })
    bounds.symbol_low
