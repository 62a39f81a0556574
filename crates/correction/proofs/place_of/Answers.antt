-- `correction::place_of` meets its contract: an admitted catalogue is measured, and its sizes are its scheme's.
use mathlib.Core.Path.{◌≡◌, ap}
use Prim.Native.Nat.{ℕ, ◌+◌, ◌*◌, ◌^◌, ◌≤◌, ◌<◌}
use native.Mathlib.Nat.{le-mul_of_pos_right}
use native.Mathlib.Omega.{arith}
use Rattle.std.proofs.Common.{rules}
use Rattle.lists.proofs.Cuts.{slot-end}
use Rattle.parameters.specs.declared.Sizes.{Sizes}
use Rattle.catalogue.specs.declared.Catalogue.{Catalogue}
use Rattle.catalogue.specs.Catalogue.{Admitted}
use Rattle.catalogue.proofs.Admitted.{admitted-numbers, admitted-small}
use Rattle.codes.specs.Codes.{scheme_of}
use Rattle.codes.proofs.Measured.{measured, measured-admitted}
use Rattle.codes.proofs.Promises.{scheme-sizes}
use Rattle.correction.specs.declared.Edit.{Edit}
use Rattle.correction.specs.Correction.{EditIn}
use Rattle.codes.proofs.Asks.{asks_of}
use Rattle.correction.proofs.place_of.Goals as goal

-- the numbers on the way stay small, since the place lies in the store
record Way (symbols size message symbol byte : ℕ) : Type 0 where
  pub first : message * symbols < 2 ^ 32
  pub number : message * symbols + symbol < 2 ^ 32
  pub begins : (message * symbols + symbol) * size < 2 ^ 32
  pub place : (message * symbols + symbol) * size + byte < 2 ^ 32

way : (c : Catalogue) (e : Edit) → Admitted c → EditIn c e → (sizes : Sizes) → sizes ≡ (scheme_of c).sizes
    → Way sizes.symbols c.symbol e.message e.symbol e.byte
way c e a i sizes same =
    let S = c.symbol in
    let symbols = (scheme_of c).sizes.symbols in
    let number = e.message * symbols + e.symbol in
    let all = c.messages * symbols in
    let low : number < all = omega (arith, slot-end e.message c.messages symbols i.message-in, i.symbol-in) in
    let store : all * S < 2 ^ 32 =
    omega (arith, (admitted-small c a).store, ap (λ (s : Sizes). s.store) (scheme-sizes c), (asks_of c a).store-whole) in
    let some : 1 ≤ S = (admitted-numbers c a).symbol_low in
    let few : number ≤ number * S = le-mul_of_pos_right number some in
    let last = slot-end number all S low in
    rw same (record {
      first = omega (arith, few, last, store);
      number = omega (arith, few, last, store);
      begins = omega (arith, last, store);
      place = omega (arith, last, store, i.byte-in);
    })

pub unwrap-sizes-requires : goal.unwrap-sizes-requires
unwrap-sizes-requires c = search (rules, measured-admitted c.args.c c.requires.admitted)

pub overflow_mul-result : goal.overflow_mul-result
overflow_mul-result c = let sized : c.unwrap-sizes.result ≡ (scheme_of c.args.c).sizes =
    (measured c.args.c c.sizes.result c.unwrap-sizes.result c.sizes.ensures c.unwrap-sizes.ensures).1 in
    let on-way : let a = c.args in
    Way c.unwrap-sizes.result.symbols a.c.symbol a.edit.message a.edit.symbol a.edit.byte =
    way c.args.c c.args.edit c.requires.admitted c.requires.edit_in c.unwrap-sizes.result (sized) in
    omega (arith, (on-way).first)

pub overflow_add-result : goal.overflow_add-result
overflow_add-result c = let sized : c.unwrap-sizes.result ≡ (scheme_of c.args.c).sizes =
    (measured c.args.c c.sizes.result c.unwrap-sizes.result c.sizes.ensures c.unwrap-sizes.ensures).1 in
    let on-way : let a = c.args in
    Way c.unwrap-sizes.result.symbols a.c.symbol a.edit.message a.edit.symbol a.edit.byte =
    way c.args.c c.args.edit c.requires.admitted c.requires.edit_in c.unwrap-sizes.result (sized) in
    omega (arith, (on-way).number)

pub overflow_mul-result-2 : goal.overflow_mul-result-2
overflow_mul-result-2 c = let sized : c.unwrap-sizes.result ≡ (scheme_of c.args.c).sizes =
    (measured c.args.c c.sizes.result c.unwrap-sizes.result c.sizes.ensures c.unwrap-sizes.ensures).1 in
    let on-way : let a = c.args in
    Way c.unwrap-sizes.result.symbols a.c.symbol a.edit.message a.edit.symbol a.edit.byte =
    way c.args.c c.args.edit c.requires.admitted c.requires.edit_in c.unwrap-sizes.result (sized) in
    omega (arith, (on-way).begins)

pub overflow_add-result-2 : goal.overflow_add-result-2
overflow_add-result-2 c = let sized : c.unwrap-sizes.result ≡ (scheme_of c.args.c).sizes =
    (measured c.args.c c.sizes.result c.unwrap-sizes.result c.sizes.ensures c.unwrap-sizes.ensures).1 in
    let on-way : let a = c.args in
    Way c.unwrap-sizes.result.symbols a.c.symbol a.edit.message a.edit.symbol a.edit.byte =
    way c.args.c c.args.edit c.requires.admitted c.requires.edit_in c.unwrap-sizes.result (sized) in
    omega (arith, (on-way).place)

pub returns : goal.returns
returns c = let sized : c.unwrap-sizes.result ≡ (scheme_of c.args.c).sizes =
    (measured c.args.c c.sizes.result c.unwrap-sizes.result c.sizes.ensures c.unwrap-sizes.ensures).1 in
    let a = c.args in
    ap (λ (s : Sizes). (a.edit.message * s.symbols + a.edit.symbol) * a.c.symbol + a.edit.byte) (sized)
