-- The key's entries one by one (`entries-more`): for the message at each position and its place, the number that the key has there;
-- all of them are a list as long as the query (`entries-length`).
use Prim.Native.Nat.{ℕ, suc, ◌+◌, ◌*◌, ◌≤◌, ◌<◌}
use native.Mathlib.Numerals.{add-one}
use native.Mathlib.Omega.{arith}
use mathlib.Core.Path.{◌≡◌, refl, ap}
use mathlib.Core.List.{List, [], ◌∷◌, zip_with}
use lib.ListN.{length, get_or, drop, drop_of_length-le}
use lib.Seq.{drop-cons}
use Rattle.even_query.specs.Query.{entries}

-- those from i on
unfoldable pub entries_from : ℕ → List ℕ → List ℕ → List ℕ → ℕ → List ℕ
entries_from symbols key messages places i = entries symbols key (drop i messages) (drop i places)

module _ (symbols : ℕ) where
  pub entries-start : (key messages places : List ℕ) → entries_from symbols key messages places 0 ≡ entries symbols key messages places
  unfolding entries_from
  entries-start key messages places = refl

  pub entries-more : (i : ℕ) (key messages places : List ℕ) → length messages ≡ length places → i < length places
      → entries_from symbols key messages places i ≡ get_or key (get_or messages i 0 * symbols + get_or places i 0) 0 ∷ entries_from symbols key messages places (i + 1)
  unfolding entries_from entries zip_with
  entries-more i key messages places e h =
      let inside : i < length messages = omega arith in
      rw (add-one i, drop-cons messages i 0 inside, drop-cons places i 0 h)

  pub entries-length : (key messages places : List ℕ) → length messages ≡ length places → length (entries symbols key messages places) ≡ length places
  unfolding entries zip_with
  entries-length key [] [] e = refl
  entries-length key [] (x ∷ places) e = absurd (omega arith)
  entries-length key (p ∷ messages) [] e = absurd (omega arith)
  entries-length key (p ∷ messages) (x ∷ places) e = ap suc (entries-length key messages places (omega arith))

  pub entries-done : (i : ℕ) (key messages places : List ℕ) → length places ≤ i → entries_from symbols key messages places i ≡ []
  unfolding entries_from entries zip_with
  entries-done i key messages places h = rw (drop_of_length-le places h) (none (drop i messages))
    where
      none : (l : List ℕ) → entries symbols key l [] ≡ []
      none [] = refl
      none (p ∷ l) = refl
