-- The bounds of the even code give those of its layout (`layout-bounds`, `layout-fits`). Rests on the bounds that a
-- catalogue's numbers keep (Bounds of parameters).
use mathlib.Core.Path.{◌≡◌}
use mathlib.Core.Bool.{true}
use Prim.Native.Nat.{ℕ}
use Rattle.parameters.specs.Bounds.{even_fits}
use Rattle.parameters.proofs.Bounds.{EvenBounds, even-bounds}
use Rattle.even_sets.specs.Sets.{LayoutBounds}

pub layout-bounds : {N K S : ℕ} → EvenBounds N K S → LayoutBounds N K
layout-bounds b = record {
  servers-low = b.servers-low;
  messages-low = b.messages-low;
  messages-high = b.messages-high;
  symbols-high = b.symbols-high;
}

pub layout-fits : (N K S : ℕ) → even_fits N K S ≡ true → LayoutBounds N K
layout-fits N K S e = layout-bounds (even-bounds N K S e)
