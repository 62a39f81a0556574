-- Decimal numbers, written and read (document 01, 'Catalogue'). A digit is a byte from 48 to 57.
use Rattle.std.specs.Prelude.{ℕ, zero, suc, ◌+◌, ◌-◌, ◌*◌, ◌/◌, ◌%◌, Bool, cond, ◌&&◌, List, [], ◌∷◌, ◌++◌, leb, ltb}

-- the byte of a digit
abbrev pub digit : ℕ → ℕ
digit n = 48 + n

-- the last `places` digits of a number, without leading zeros
unfoldable pub decimal_in : ℕ → ℕ → List ℕ
decimal_in zero n = []
decimal_in (suc places) n = let more = decimal_in places (n / 10) ++ (digit (n % 10) ∷ []) in cond (ltb n 10) (digit n ∷ []) more

-- the digits of a number, of which there are at most n + 1
unfoldable pub decimal : ℕ → List ℕ
decimal n = decimal_in (suc n) n

abbrev pub is_digit : ℕ → Bool
is_digit byte = leb 48 byte && leb byte 57

-- how many digits a text begins with
unfoldable pub digit_count : List ℕ → ℕ
digit_count [] = 0
digit_count (byte ∷ text) = cond (is_digit byte) (suc (digit_count text)) 0

-- the number that digits stand for, where the number `front` stands before them
unfoldable pub value_from : ℕ → List ℕ → ℕ
value_from front [] = front
value_from front (byte ∷ text) = value_from (front * 10 + (byte - 48)) text
