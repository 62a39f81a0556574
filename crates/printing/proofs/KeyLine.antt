-- The key's line of an input: where it was read, its numbers stand after its name (`key-line-read`).
use mathlib.Core.Path.{◌≡◌, refl, ap, ◌∙◌}
use mathlib.Core.Bool.{Bool, true, false}
use mathlib.Core.List.{List}
use Prim.Native.Nat.{ℕ, ◌+◌, ◌≤◌}
use native.Mathlib.Omega.{arith}
use lib.ListN.{length, drop, length-append, length-drop}
use Rattle.text_lines.specs.Lines.{begins}
use Rattle.text_lines.proofs.Begins.{begins-split}
use Rattle.std.specs.Prelude.{Some}
use Rattle.std.proofs.lemmas.Option.{none-some}
use Rattle.number_lists.specs.NumberLists.{numbers_at, scanned, scan_of}
use Rattle.printing.specs.Input.{key_name, key_line}

pub key-line-read : (text : List ℕ) (at count : ℕ) (bytes : Bool) → scan_of (key_line text at) ≡ Some (scanned count bytes)
    → (at ≤ length text) × (key_line text at ≡ numbers_at text (at + length key_name))
unfolding key_line
key-line-read text at count bytes e = go (begins key_name (drop at text)) refl
  where
    go : (t : Bool) → begins key_name (drop at text) ≡ t → (at ≤ length text) × (key_line text at ≡ numbers_at text (at + length key_name))
    go true f =
        let l = ap length (begins-split key_name (drop at text) f) ∙ length-append key_name (drop (length key_name) (drop at text)) in
        let d = length-drop at text in
        (omega arith, rw f)
    go false f = absurd (none-some (scanned count bytes) (rw f at e))
