-- Strings of bytes as symbols (`as-symbol`), behind their first bytes too (`behind-one`, `behind-two`), where a change of the first word moves nothing
-- (`rest-stays`); what an answer is moved by is as long as a symbol (`shift-long`).
use mathlib.Core.Path.{◌≡◌, refl, ◌∙◌}
use mathlib.Core.List.{List, ◌∷◌}
use Prim.Native.Nat.{ℕ, suc}
use native.Mathlib.Omega.{arith}
use lib.ListN.{length, length-set, length-replicate}
use Rattle.lists.specs.Below.{Below}
use Rattle.symbol.specs.declared.Operation.{Operation}
use Rattle.symbol.specs.Operations.{sum_of}
use Rattle.symbol.specs.Sum.{Symbol, zeros}
use Rattle.symbol.proofs.Operations.{group_of}
use Rattle.symbol.proofs.Totals.{plus-nothing}
use Rattle.correction.specs.Moved.{lone, shift_of}

-- a string of bytes behind its first, and behind its first two
pub behind-one : (x : ℕ) (l : List ℕ) → Below 256 (x ∷ l) → Below 256 l
behind-one x l p i h = p (suc i) (omega arith)

pub behind-two : (x y : ℕ) (l : List ℕ) → Below 256 (x ∷ y ∷ l) → Below 256 l
behind-two x y l p i h = p (suc (suc i)) (omega arith)

pub as-symbol : (l : List ℕ) → Below 256 l → Symbol (length l) l
as-symbol l p = record { long = refl; bytes = p }

-- behind the first word nothing is moved
pub rest-stays : (op : Operation) (x y : ℕ) (l : List ℕ) → Below 256 (x ∷ y ∷ l)
    → (sum_of op).plus l ((sum_of op).minus (zeros (length l)) (zeros (length l))) ≡ l
rest-stays op x y l p = plus-nothing (sum_of op) (length l) (group_of op (length l)) (as-symbol l (behind-two x y l p))

-- the shift is as long as a symbol
pub shift-long : (op : Operation) (S byte new old : ℕ) → length (shift_of (sum_of op) S byte new old) ≡ S
shift-long op S byte new old = (group_of op S).minus-length (lone S byte new) (lone S byte old) (lone-long new) (lone-long old)
  where
    lone-long : (value : ℕ) → length (lone S byte value) ≡ S
    lone-long value = length-set (zeros S) byte value ∙ length-replicate S 0
