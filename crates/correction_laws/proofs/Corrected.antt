-- One corrected byte under an admitted catalogue, whatever its code and sum (document 02, item 13). The store keeps all its bytes but one (`store-one`). An
-- honest saved answer becomes the honest answer of the corrected store (`fresh`). Any saved answer of the length that the query calls for keeps it
-- (`as_long`), moves by the new value less the old in the row that names the symbol (`named-moves`), else not at all (`unnamed-stays`), by one byte at most
-- under exclusive or and two under addition (`few`). New less old is the new symbol less the old one (`shift-symbols`), and of the store the one byte decides
-- (`one-byte-read`).
use mathlib.Core.Path.{◌≡◌, sym, ap, ◌∙◌}
use mathlib.Core.Bool.{true, false}
use mathlib.Core.List.{List}
use Prim.Native.Nat.{ℕ, ◌+◌, ◌*◌, ◌≤◌, ◌<◌}
use native.Mathlib.Omega.{arith}
use borrow.Author.Tests.{ltb-true, ltb-false}
use lib.ListN.{length, get_or}
use Rattle.lists.specs.Below.{Below}
use Rattle.lists.specs.Sums.{sum}
use Rattle.symbol.specs.Operations.{sum_of}
use Rattle.std.specs.Prelude.{Option, Some}
use Rattle.scheme.specs.Asked.{cell_symbol, times_in, place_naming}
use Rattle.scheme.proofs.Places.{place-within, place_found, placed-none}
use Rattle.catalogue.specs.declared.Catalogue.{Catalogue}
use Rattle.catalogue.specs.Catalogue.{Admitted}
use Rattle.codes.specs.Codes.{scheme_of}
use Rattle.codes.specs.Asked.{rows_of}
use Rattle.codes.proofs.Asks.{asks_of}
use Rattle.correction.specs.declared.Edit.{Edit}
use Rattle.correction.specs.Moved.{shift_of, moved}
use Rattle.correction.specs.Correction.{EditIn, place_of, corrected_store, corrected_answer}
use Rattle.correction.proofs.Calls.{place_inside}
use Rattle.correction_laws.specs.Few.{differing, most_moved}
use Rattle.correction_laws.specs.Named.{names, RowMoved, OnlyOne}
use Rattle.correction_laws.proofs.Store.{only_one}
use Rattle.correction_laws.proofs.Moved.{shift-difference, moved-fresh, moved-long, moved-there, rows_few}

-- where the answer to the row that names the edit's symbol begins, if a row names it
abbrev place_in : Catalogue → Edit → List ℕ → Option ℕ
place_in c e query = place_naming c.symbol e.message e.symbol (rows_of c query)

-- the new value less the old, which stands in the store
abbrev pub shift_by : Catalogue → Edit → List ℕ → List ℕ
shift_by c e store = shift_of (sum_of c.sum) c.symbol e.byte e.value (get_or store (place_of c e) 0)

-- the edit's symbol in a store
abbrev pub symbol_in : Catalogue → Edit → List ℕ → List ℕ
symbol_in c e store = cell_symbol (scheme_of c).sizes.symbols c.symbol store (e.message, e.symbol)

-- of the store one byte decides what becomes of an answer
pub one-byte-read : (c : Catalogue) (e : Edit) (store other query answer : List ℕ) → get_or store (place_of c e) 0 ≡ get_or other (place_of c e) 0
    → corrected_answer c e store query answer ≡ corrected_answer c e other query answer
unfolding corrected_answer
one-byte-read c e store other query answer same =
    ap (λ (old : ℕ). moved (sum_of c.sum) c.symbol (place_in c e query) (shift_of (sum_of c.sum) c.symbol e.byte e.value old) answer) same

module _ (c : Catalogue) (admitted : Admitted c) (e : Edit) (store : List ℕ) where
  module _ (known : EditIn c e) (whole : length store ≡ (scheme_of c).sizes.store) where
    pub store-one : OnlyOne store (corrected_store c e store) (place_of c e) e.value
    store-one = only_one store (place_of c e) e.value (omega (arith, place_inside c e admitted known, whole))

    module _ (byte : e.value < 256) (bytes : Below 256 store) where
      pub shift-symbols : (sum_of c.sum).minus (symbol_in c e (corrected_store c e store)) (symbol_in c e store) ≡ shift_by c e store
      shift-symbols =
          shift-difference c.sum c.messages (scheme_of c).sizes.symbols c.symbol store (whole ∙ (asks_of c admitted).store-whole) bytes
          e.message e.symbol e.byte e.value known.message-in known.symbol-in known.byte-in byte

      pub fresh : (server : ℕ) (query : List ℕ) → (scheme_of c).admits server query ≡ true
          → corrected_answer c e store query ((scheme_of c).answer store query) ≡ (scheme_of c).answer (corrected_store c e store) query
      unfolding corrected_answer
      fresh server query admits =
          let asks = asks_of c admitted in
          ap (moved (sum_of c.sum) c.symbol (place_in c e query) (shift_by c e store)) (asks.answers store query)
          ∙ moved-fresh c.sum c.messages (scheme_of c).sizes.symbols c.symbol store (whole ∙ asks.store-whole) bytes
          e.message e.symbol e.byte e.value known.message-in known.symbol-in known.byte-in byte
          (rows_of c query) (asks.inside server query admits) (asks.once server query admits e.message e.symbol known.message-in)
          ∙ sym (asks.answers (corrected_store c e store) query)

  -- any answer of the length that the query calls for
  module _ (query answer : List ℕ) (long : length answer ≡ (scheme_of c).answer_length query) where
    inside-answer : (at : ℕ) → place_in c e query ≡ Some at → at + c.symbol ≤ length answer
    inside-answer at p =
        omega (arith, place-within c.symbol e.message e.symbol (rows_of c query) at p, long, (asks_of c admitted).lengths query)

    pub as_long : length (corrected_answer c e store query answer) ≡ length answer
    unfolding corrected_answer
    as_long = moved-long c.sum c.symbol e.byte e.value (get_or store (place_of c e) 0) answer (place_in c e query) inside-answer

    -- the query does not name the symbol
    pub unnamed-stays : names c e query ≡ false → corrected_answer c e store query answer ≡ answer
    unfolding corrected_answer moved
    unnamed-stays n =
        let low = ltb-false _ (sum (times_in e.message e.symbol) (rows_of c query)) n in
        let none : sum (times_in e.message e.symbol) (rows_of c query) ≡ 0 = omega (arith, low) in
        ap (λ (place : Option ℕ). moved (sum_of c.sum) c.symbol place (shift_by c e store) answer)
        (placed-none c.symbol e.message e.symbol (rows_of c query) none)

    -- it does
    pub named-moves : names c e query ≡ true → RowMoved c e query (shift_by c e store) answer (corrected_answer c e store query answer)
    unfolding corrected_answer
    named-moves n =
        let some-times = ltb-true 0 (sum (times_in e.message e.symbol) (rows_of c query)) n in
        let found = place_found c.symbol e.message e.symbol (rows_of c query) some-times in
        let at = found.row * c.symbol in
        record {
          row = found.row;
          inside = found.inside;
          naming = found.naming;
          at_row =
              rw found.there
              (moved-there c.sum c.symbol e.byte e.value (get_or store (place_of c e) 0) answer at (inside-answer at found.there));
        }

    pub few : Below 256 answer → differing answer (corrected_answer c e store query answer) ≤ most_moved c.sum
    unfolding corrected_answer
    few low =
        rows_few c.sum c.symbol e.message e.symbol e.byte e.value (get_or store (place_of c e) 0) (rows_of c query) answer low
        (long ∙ (asks_of c admitted).lengths query)
