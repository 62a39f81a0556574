-- The empty answer goes round (document 02, item 4): an answer is empty exactly if the key's other digits are all 0 and the server plays server 0 of the
-- short code (`empty-exactly`), and for each server this is so at exactly one turn (`plays-first`).
use mathlib.Core.Path.{◌≡◌, refl, sym, ap, ◌∙◌}
use mathlib.Core.Bool.{Bool, true, false}
use mathlib.Core.Logic.{◌↔◌}
use mathlib.Core.List.{List}
use Prim.Native.Nat.{ℕ, zero, suc, ◌+◌, ◌-◌, ◌%◌, ◌<◌}
use native.Mathlib.Nat.{zero-add, add_comm, add-mod-mod, mod_self}
use native.Mathlib.Omega.{arith}
use Rattle.short_scheme.specs.Short.{all_zero, short_query, short_answer_length}
use Rattle.short_scheme.proofs.ZeroRow.{query-zeros, query-some, length_none, length_some}
use Rattle.turn_code.specs.Turn.{turn_of, other_digits, part_of, turn_query}
use Rattle.turn_code.proofs.Parts.{on-and-back, part-below}

-- only the row of zeros calls for nothing
none-zeros : (S : ℕ) (query : List ℕ) → 0 < S → short_answer_length S query ≡ 0 → all_zero query ≡ true
none-zeros S query some none = go (all_zero query) refl
  where
    go : (t : Bool) → all_zero query ≡ t → all_zero query ≡ true
    go true e = e
    go false e = absurd (let w : ⊥ = omega (arith, length_some S query e, none) in w)

module _ (N wanted server : ℕ) (key : List ℕ) (there : server < N) where
  pub empty-exactly : (S : ℕ) → 0 < S
      → (short_answer_length S (turn_query N wanted server key) ≡ 0) ↔ ((all_zero (other_digits key) ≡ true) × (part_of N key server ≡ 0))
  unfolding turn_query
  empty-exactly S some = go (part_of N key server) (part-below N key (omega arith) server)
    where
      go : (part : ℕ) → part < N → (short_answer_length S (short_query N wanted part (other_digits key)) ≡ 0) ↔ ((all_zero (other_digits key) ≡ true) × (part ≡ 0))
      go zero h = (
        λ none. (sym (query-zeros N wanted (other_digits key) h) ∙ none-zeros S (short_query N wanted 0 (other_digits key)) some none, refl),
        λ zeros. length_none S (short_query N wanted 0 (other_digits key)) (query-zeros N wanted (other_digits key) h ∙ zeros.0),
      )
      go (suc part) h = (
        λ none. absurd (let w : ⊥ =
            omega (
              arith,
              none,
              length_some S (short_query N wanted (suc part) (other_digits key)) (query-some N wanted (other_digits key) (suc part) h (omega arith)),
            )
            in w),
        λ zeros. absurd (let w : ⊥ = omega (arith, zeros.1) in w),
      )

  -- the turn that makes the server play server 0
  pub plays-first : turn_of key < N → (part_of N key server ≡ 0) ↔ (turn_of key ≡ (N - server) % N)
  plays-first low =
      let r = turn_of key in (
        λ first.
            sym (on-and-back N r server low there)
            ∙ ap (λ (m : ℕ). (m % N + (N - server)) % N) (add_comm r server) ∙ ap (λ (m : ℕ). (m + (N - server)) % N) first
            ∙ ap (λ (m : ℕ). m % N) (zero-add (N - server)),
        λ turn.
            ap (λ (m : ℕ). (server + m) % N) turn ∙ add-mod-mod server (N - server) N
            ∙ ap (λ (m : ℕ). m % N) (let e : server + (N - server) ≡ N = omega arith in e) ∙ mod_self N,
      )
