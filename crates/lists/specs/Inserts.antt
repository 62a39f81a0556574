-- A list with one element more, and with one less.
use Rattle.std.specs.Prelude.{ℕ, suc, List, ◌∷◌, ◌++◌, take, drop}

-- x inserted at place `at`; what stood there and after moves on by one place
abbrev pub insert_at : ℕ → ℕ → List ℕ → List ℕ
insert_at at x l = take at l ++ (x ∷ drop at l)

-- without what stands at place `at`
abbrev pub remove_at : ℕ → List ℕ → List ℕ
remove_at at l = take at l ++ drop (suc at) l
