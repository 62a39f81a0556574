-- At each server every row of K digits below N comes from exactly one key, for each wanted message (document 02, item 4): `turn-one-key`.
use mathlib.Core.Path.{sym, ap, ◌∙◌}
use Prim.Native.Nat.{ℕ}
use Rattle.parameters.specs.Measures.{turn_sizes}
use Rattle.symbol.specs.Sum.{Sum}
use Rattle.scheme.specs.Reach.{Aim, OneKey}
use Rattle.short_scheme.specs.Rows.{DigitRow}
use Rattle.turn_code.specs.Turn.{turn_scheme}
use Rattle.turn_code.proofs.Queries.{turn_key, admitted-row, key_back, made-long, made-good, made-gives}

module _ (sum : Sum) (N K S : ℕ) where
  row_of : (a : Aim N K (turn_scheme sum N K S)) → DigitRow N K a.query
  row_of a = admitted-row N K a.query a.admitted

  pub turn-one-key : OneKey N K (turn_scheme sum N K S)
  unfolding turn_sizes
  turn-one-key = record {
    the-key = λ a. turn_key N a.wanted a.server a.query;
    gives = λ a. record {
      valid = record {
        long = made-long N K a.wanted a.server a.query a.known a.there (row_of a);
        good = made-good N K a.wanted a.server a.query a.known a.there (row_of a);
      };
      shown = made-gives N K a.wanted a.server a.query a.known a.there (row_of a);
    };
    only = λ a key given.
        sym (key_back N K a.wanted a.server key a.known a.there given.valid.long given.valid.good)
        ∙ ap (turn_key N a.wanted a.server) given.shown;
  }
