-- Parts of a buffer, which is the list of its bytes: what is read from one, and what is written into one.
use Rattle.std.specs.Prelude.{ℕ, ◌-◌, List, ◌++◌, length, take, drop}

-- `size` bytes from place `at`
abbrev pub cut : ℕ → ℕ → List ℕ → List ℕ
cut at size buffer = take size (drop at buffer)

-- `bytes` written from place `at` on, the rest as it was
abbrev pub put : ℕ → List ℕ → List ℕ → List ℕ
put at bytes buffer = take at buffer ++ (bytes ++ drop (length bytes) (drop at buffer))

-- `bytes` written from place `at` on, as far as the buffer reaches
abbrev pub lay : ℕ → List ℕ → List ℕ → List ℕ
lay at bytes buffer = put at (take (length buffer - at) bytes) buffer
