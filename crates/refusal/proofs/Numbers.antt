-- Number and refusal turn into each other (`refusal-kept`, `number-kept`), no two refusals have one rank (`same_rank`), among the numbers 1 to 12 the rank
-- goes by the number (`rank-by-number`), which is document 01's rule of the smallest number, a register that is not there comes first (`register-first`),
-- a full meter last (`full-last`), and an edit that is no byte of the store next after a store of the wrong length (`edit-next`). Each is one computed
-- test over the table.
use Prim.Native.Nat.{ℕ, suc, ◌≤◌}
use mathlib.Core.Path.{◌≡◌, refl, sym, ap, ◌∙◌}
use mathlib.Core.Bool.{Bool, true, cond, ◌&&◌}
use mathlib.Core.List.{List, map}
use lib.Dec.{leb}
use lib.ListN.{get_or}
use borrow.Author.Tests.{le-leb}
use Rattle.refusal.specs.declared.Refusal.{Refusal}
use Rattle.refusal.specs.declared.Refusal.TheVariants.{Text, Bounds, Server, Wanted, KeyLength, KeyEntry}
use Rattle.refusal.specs.declared.Refusal.TheVariants.{Query, StoreLength, Room, AnswerLength, History, Missing}
use Rattle.refusal.specs.declared.Refusal.TheVariants.{UnrealDay, OutOfSeason, OddSymbol, MeterFull, OneMessage, Register, EditPlace}
use Rattle.refusal.specs.Numbers.{number_of, refusals, refusal_of, order, rank}

-- two functions that agree over the list of refusals agree at each refusal
module _ {A : Type 0} (f g : Refusal → A) (same : map f refusals ≡ map g refusals) where
  at_place : (place : ℕ) → get_or (map f refusals) place (f Text) ≡ get_or (map g refusals) place (f Text)
  at_place place = ap (λ (values : List A). get_or values place (f Text)) same

  pub at_each : (refusal : Refusal) → f refusal ≡ g refusal
  at_each Text = at_place 0
  at_each Bounds = at_place 1
  at_each Server = at_place 2
  at_each Wanted = at_place 3
  at_each KeyLength = at_place 4
  at_each KeyEntry = at_place 5
  at_each Query = at_place 6
  at_each StoreLength = at_place 7
  at_each Room = at_place 8
  at_each AnswerLength = at_place 9
  at_each History = at_place 10
  at_each Missing = at_place 11
  at_each UnrealDay = at_place 12
  at_each OutOfSeason = at_place 13
  at_each OddSymbol = at_place 14
  at_each MeterFull = at_place 15
  at_each OneMessage = at_place 16
  at_each Register = at_place 17
  at_each EditPlace = at_place 18

pub refusal-kept : (refusal : Refusal) → refusal_of (number_of refusal) ≡ refusal
refusal-kept = at_each (λ (r : Refusal). refusal_of (number_of r)) (λ (r : Refusal). r) refl

pub number-kept : map (λ (n : ℕ). number_of (refusal_of n)) order ≡ order
number-kept = refl

-- the refusal at a place of the order
abbrev at_rank : ℕ → Refusal
at_rank place = refusal_of (get_or order place 0)

rank-kept : (refusal : Refusal) → at_rank (rank refusal) ≡ refusal
rank-kept = at_each (λ (r : Refusal). at_rank (rank r)) (λ (r : Refusal). r) refl

pub same_rank : (a b : Refusal) → rank a ≡ rank b → a ≡ b
same_rank a b e = sym (rank-kept a) ∙ ap at_rank e ∙ rank-kept b

-- both numbers are at most 12
abbrev up_to12 : Refusal → Refusal → Bool
up_to12 a b = leb (number_of a) 12 && leb (number_of b) 12

abbrev by_rank : Refusal → Refusal → Bool
by_rank a b = cond (up_to12 a b) (leb (rank a) (rank b)) true

abbrev by_number : Refusal → Refusal → Bool
by_number a b = cond (up_to12 a b) (leb (number_of a) (number_of b)) true

pub rank-by-number : (a b : Refusal) → number_of a ≤ 12 → number_of b ≤ 12 → leb (rank a) (rank b) ≡ leb (number_of a) (number_of b)
rank-by-number a b low high =
    let table = at_each (λ (x : Refusal). map (by_rank x) refusals) (λ (x : Refusal). map (by_number x) refusals) refl in
    let pair : by_rank a b ≡ by_number a b = at_each (by_rank a) (by_number a) (table a) b in
    rw (le-leb (number_of a) 12 low, le-leb (number_of b) 12 high) at pair

-- a full meter is given last of all (document 02, item 5)
pub full-last : (refusal : Refusal) → leb (rank refusal) (rank MeterFull) ≡ true
full-last = at_each (λ (r : Refusal). leb (rank r) (rank MeterFull)) (λ (r : Refusal). true) refl

-- a register that is not there is given before all others (document 02, item 12)
pub register-first : (refusal : Refusal) → leb (rank Register) (rank refusal) ≡ true
register-first = at_each (λ (r : Refusal). leb (rank Register) (rank r)) (λ (r : Refusal). true) refl

-- an edit that is no byte of the store comes directly after a store of the wrong length (document 02, item 13)
pub edit-next : rank EditPlace ≡ suc (rank StoreLength)
edit-next = refl
