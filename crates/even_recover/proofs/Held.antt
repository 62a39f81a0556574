-- The rows that recovery reads are in the answer buffer (`row_inside`): a group's own rows (`own-row`), and those that they are joined
-- from (`source_row_lem`, `joined-row`).
use Prim.Native.Nat.{ℕ, ◌+◌, ◌-◌, ◌*◌, ◌/◌, ◌%◌, ◌≤◌, ◌<◌}
use native.Mathlib.Nat.{mul-le-mul, mul-le-mul_right, suc-mul, mul-zero, mod-lt, div-lt_iff_lt-mul}
use native.Mathlib.Decide.{dec_lt}
use native.Mathlib.Omega.{arith}
use mathlib.Core.Path.{◌≡◌, refl, ap, ◌∙◌}
use mathlib.Core.Logic.{◌≢◌}
use mathlib.Core.Bool.{Bool, true, false, cond}
use mathlib.Core.List.{List}
use borrow.Author.Tests.{eqb-false}
use lib.Dec.{eqb}
use lib.ListN.{length, get_or}
use Rattle.lists.proofs.Each.{All-get}
use Rattle.even_places.specs.Rule.{others}
use Rattle.even_places.proofs.Others.{others-length, others_below}
use Rattle.even_recover.specs.declared.ServerRows.{ServerRows}
use Rattle.even_recover.specs.declared.Group.{Group}
use Rattle.even_recover.specs.Rows.{own_row, joined_from, Bounded, Held, Grouped}

-- row x of the answer buffer is one of the servers' rows, and its number is small
pub record RowAt (here : ServerRows) (x : ℕ) : Type 0 where
  pub below : x < here.servers * here.rows
  pub small : x < 4096

row_at : (here : ServerRows) (server row : ℕ) → Bounded here → server < here.servers → row < here.rows → RowAt here (server * here.rows + row)
row_at here server row bounded known within =
    let last = mul-le-mul_right here.rows known in
    let next = suc-mul server here.rows in
    let most = mul-le-mul bounded.few bounded.short in
    record { below = omega arith; small = omega arith }

-- such a row is in the buffer
pub row_inside : (here : ServerRows) (answers : List ℕ) (x : ℕ) → Held here answers → RowAt here x → x * here.symbol + here.symbol ≤ length answers
row_inside here answers x held at = omega (arith, suc-mul x here.symbol, mul-le-mul_right here.symbol at.below, held.held)

module _ (here : ServerRows) (group : Group) (i : ℕ) (bounded : Bounded here) (grouped : Grouped here group) (within : i < group.count) where
  pub own-row : RowAt here (own_row here group i)
  own-row = row_at here here.server (group.first + i) bounded bounded.known (omega (arith, grouped.own))

  -- whose turn it is, and which row of that server's
  pub record Source : Type 0 where
    pub some-each : 0 < group.each
    pub turn : i / group.each < here.servers - 1
    pub source : RowAt here (get_or (others here.servers here.server) (i / group.each) 0 * here.rows + (group.source + i % group.each))

  pub source_row_lem : group.messages ≢ 1 → Source
  source_row_lem joined =
      let turns = grouped.turns joined in
      let some-each : 0 < group.each = positive (dec_lt 0 group.each) in
      let turn : i / group.each < here.servers - 1 = (div-lt_iff_lt-mul some-each).1 (omega arith) in
      record {
        some-each = some-each;
        turn = turn;
        source =
            row_at here (get_or (others here.servers here.server) (i / group.each) 0) (group.source + i % group.each) bounded
            (All-get 0 (others_below here.servers here.server) (i / group.each)
            (omega (arith, turn, others-length here.servers here.server bounded.known)))
            (omega (arith, grouped.joined joined, mod-lt i some-each));
      }
    where
      positive : Dec (0 < group.each) → 0 < group.each
      positive (yes h) = h
      positive (no h) =
          let none : group.each ≡ 0 = omega arith in
          let nothing : (here.servers - 1) * group.each ≡ 0 = ap (λ (e : ℕ). (here.servers - 1) * e) none ∙ mul-zero (here.servers - 1) in
          absurd (let w : ⊥ = omega (arith, grouped.turns joined) in w)

  pub joined-row : RowAt here (joined_from here group i)
  unfolding joined_from
  joined-row = go (eqb group.messages 1) refl
    where
      go : (t : Bool) → eqb group.messages 1 ≡ t
          → RowAt here (cond t (own_row here group i)
          (get_or (others here.servers here.server) (i / group.each) 0 * here.rows + (group.source + i % group.each)))
      go true e = own-row
      go false e = (source_row_lem (eqb-false group.messages 1 e)).source
