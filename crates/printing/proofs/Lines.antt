-- The output's lines, server by server: those of the first servers (`lines_to`), one more (`lines_more`), and all (`lines-all`).
use mathlib.Core.Path.{◌≡◌, refl, ap, ◌∙◌}
use mathlib.Core.List.{List, [], ◌++◌, flat_map}
use Prim.Native.Nat.{ℕ, ◌+◌}
use native.Mathlib.Numerals.{add-one}
use Rattle.lists.specs.Ranges.{range}
use Rattle.lists.proofs.Joined.{flat_map-next}
use Rattle.scheme.specs.Scheme.{Scheme}
use Rattle.catalogue.specs.declared.Catalogue.{Catalogue}
use Rattle.printing.specs.Input.{Asked}
use Rattle.printing.specs.Output.{query_line, asked_query, query_lines}

module _ (scheme_of : Catalogue → Scheme) (a : Asked) where
  -- those of the first servers
  unfoldable pub lines_to : ℕ → List ℕ
  lines_to count = flat_map (λ server. query_line server (asked_query scheme_of a server)) (range 0 count)

  pub lines_none : lines_to 0 ≡ []
  unfolding lines_to flat_map range
  lines_none = refl

  pub lines_more : (count : ℕ) → lines_to (count + 1) ≡ lines_to count ++ query_line count (asked_query scheme_of a count)
  unfolding lines_to
  lines_more count =
      let line : ℕ → List ℕ = λ server. query_line server (asked_query scheme_of a server) in
      ap (λ (n : ℕ). flat_map line (range 0 n)) (add-one count) ∙ flat_map-next line count

  pub lines-all : lines_to a.catalogue.servers ≡ query_lines scheme_of a
  unfolding lines_to query_lines
  lines-all = refl
