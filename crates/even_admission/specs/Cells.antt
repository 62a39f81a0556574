-- Where admission marks the numbers of a query (document 01, 'Even code').
use Rattle.std.specs.Prelude.{ℕ, ◌+◌, ◌*◌}

-- where message p's number is marked
abbrev pub cell_of : ℕ → ℕ → ℕ → ℕ
cell_of size p number = p * size + number
