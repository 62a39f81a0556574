-- The number of each refusal, the refusal of each number, and which refusal is given first where several apply (document 01, 'Numbers a call can
-- give'; 13 and 14, 15, 16, 17, 18, 19: document 02, items 1, 2, 5, 9, 12 and 13).
use Rattle.std.specs.Prelude.{ℕ, ◌+◌, cond, List, [], ◌∷◌, eqb}
use Rattle.refusal.specs.declared.Refusal.{Refusal}
use Rattle.refusal.specs.declared.Refusal.TheVariants.{Text, Bounds, Server, Wanted, KeyLength, KeyEntry}
use Rattle.refusal.specs.declared.Refusal.TheVariants.{Query, StoreLength, Room, AnswerLength, History, Missing}
use Rattle.refusal.specs.declared.Refusal.TheVariants.{UnrealDay, OutOfSeason, OddSymbol, MeterFull, OneMessage, Register, EditPlace}

abbrev pub number_of : Refusal → ℕ
number_of Text = 1
number_of Bounds = 2
number_of Server = 3
number_of Wanted = 4
number_of KeyLength = 5
number_of KeyEntry = 6
number_of Query = 7
number_of StoreLength = 8
number_of Room = 9
number_of AnswerLength = 10
number_of History = 11
number_of Missing = 12
number_of UnrealDay = 13
number_of OutOfSeason = 14
number_of OddSymbol = 15
number_of MeterFull = 16
number_of OneMessage = 17
number_of Register = 18
number_of EditPlace = 19

-- every refusal
abbrev pub refusals : List Refusal
refusals =
    Text ∷ Bounds ∷ Server ∷ Wanted ∷ KeyLength ∷ KeyEntry ∷ Query ∷ StoreLength ∷ Room ∷ AnswerLength ∷ History ∷ Missing
    ∷ UnrealDay ∷ OutOfSeason ∷ OddSymbol ∷ MeterFull ∷ OneMessage ∷ Register ∷ EditPlace ∷ []

abbrev with_number : ℕ → List Refusal → Refusal
with_number n [] = Missing
with_number n (refusal ∷ rest) = cond (eqb n (number_of refusal)) refusal (with_number n rest)

-- The refusal that has a number of the table; definitions name refusals by their numbers
abbrev pub refusal_of : ℕ → Refusal
refusal_of n = with_number n refusals

-- Which is given first: the numbers, from the first that is given to the last. 18 comes before all others (02, item 12); after 2 come 17, 15, 13 and 14,
-- before the rest (items 1, 2, 9); 19 comes directly after 8 (item 13), and 16 last of all (item 5)
abbrev pub order : List ℕ
order = 18 ∷ 1 ∷ 2 ∷ 17 ∷ 15 ∷ 13 ∷ 14 ∷ 3 ∷ 4 ∷ 5 ∷ 6 ∷ 7 ∷ 8 ∷ 19 ∷ 9 ∷ 10 ∷ 11 ∷ 12 ∷ 16 ∷ []

abbrev rank_in : List ℕ → ℕ → ℕ
rank_in [] n = 0
rank_in (m ∷ numbers) n = cond (eqb n m) 0 (1 + rank_in numbers n)

-- a refusal's place in the order
abbrev pub rank : Refusal → ℕ
rank refusal = rank_in order (number_of refusal)
