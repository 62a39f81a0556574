-- Parts and players: every server plays a server of the short code (`part-below`), the player of a part plays it (`plays-part`), and players go around
-- as the parts do (`players-around`).
use mathlib.Core.Path.{◌≡◌, sym, ap, ◌∙◌}
use mathlib.Core.List.{List}
use Prim.Native.Nat.{ℕ, ◌+◌, ◌-◌, ◌%◌, ◌<◌}
use native.Mathlib.Nat.{add_assoc, mod-lt, mod-eq_of_lt, mod-add-mod, add-mod-mod, add-mod_right}
use native.Mathlib.Omega.{arith}
use Rattle.turn_code.specs.Turn.{turn_of, part_of, player_of}

-- r places further on and back again, modulo N, and back and on again
module _ (N a r : ℕ) (here : a < N) (low : r < N) where
  pub on-and-back : ((a + r) % N + (N - r)) % N ≡ a
  on-and-back =
      mod-add-mod (a + r) N (N - r) ∙ ap (λ (m : ℕ). m % N) (let e : a + r + (N - r) ≡ a + N = omega arith in e) ∙ add-mod_right a N
      ∙ mod-eq_of_lt here

  pub back-and-on : ((a + (N - r)) % N + r) % N ≡ a
  back-and-on =
      mod-add-mod (a + (N - r)) N r ∙ ap (λ (m : ℕ). m % N) (let e : a + (N - r) + r ≡ a + N = omega arith in e) ∙ add-mod_right a N
      ∙ mod-eq_of_lt here

module _ (N : ℕ) (key : List ℕ) (some : 0 < N) where
  pub part-below : (n : ℕ) → part_of N key n < N
  part-below n = mod-lt (n + turn_of key) some

  pub player-below : (part : ℕ) → player_of N key part < N
  player-below part = mod-lt (part + (N - turn_of key)) some

  pub plays-part : turn_of key < N → (part : ℕ) → part < N → part_of N key (player_of N key part) ≡ part
  plays-part low part h = back-and-on N part (turn_of key) h low

  -- d parts further on, d players further on
  pub players-around : (d T : ℕ) → player_of N key ((d + T) % N) ≡ (d + player_of N key T) % N
  players-around d T =
      let back = N - turn_of key in
      mod-add-mod (d + T) N back ∙ ap (λ (m : ℕ). m % N) (add_assoc d T back) ∙ sym (add-mod-mod d (T + back) N)

  pub parts-around : turn_of key < N → (d T : ℕ) → part_of N key ((d + player_of N key T) % N) ≡ (d + T) % N
  parts-around low d T = ap (part_of N key) (sym (players-around d T)) ∙ plays-part low ((d + T) % N) (mod-lt (d + T) some)
