-- The turning code keeps the promises of a retrieval code, over any abelian group of symbols: `turn-laws`. The exchange of keys is 'the key of the query'.
use mathlib.Core.Path.{◌≡◌, refl, ap, ◌∙◌}
use mathlib.Core.Bool.{true}
use mathlib.Core.List.{List}
use Prim.Native.Nat.{ℕ}
use native.Mathlib.Omega.{arith}
use lib.ListN.{replicate, length-replicate}
use Rattle.lists.proofs.Below.{below-all_below, below-zeros}
use Rattle.parameters.specs.Bounds.{short_fits}
use Rattle.parameters.specs.Measures.{short_sizes, turn_sizes}
use Rattle.parameters.proofs.Bounds.{short-bounds}
use Rattle.symbol.specs.Sum.{Sum}
use Rattle.symbol.specs.Group.{AbelianGroup}
use Rattle.scheme.specs.Laws.{Laws}
use Rattle.short_scheme.proofs.Answers.{short-answer-long, answer-short}
use Rattle.turn_code.specs.Turn.{turn_query, turn_scheme}
use Rattle.turn_code.proofs.Queries.{turn_key, admitted-row, row-admitted, query-row, key_back, made-long, made-good, made-gives}
use Rattle.turn_code.proofs.Recovery.{message-turned}

-- the key that shows the server, for `other`, what `key` shows it for `wanted`
abbrev turn_exchange : ℕ → ℕ → ℕ → ℕ → List ℕ → List ℕ
turn_exchange N server wanted other key = turn_key N other server (turn_query N wanted server key)

pub turn-laws : (sum : Sum) (N K S : ℕ) → AbelianGroup sum S → short_fits N K S ≡ true → Laws N K (turn_scheme sum N K S)
unfolding turn_sizes short_sizes
turn-laws sum N K S group fits =
    let b = short-bounds N K S fits in
    record {
      servers-some = omega arith;
      servers-fit = b.servers-high;
      key_fits = omega arith;
      store-whole = refl;
      some_key = replicate K 0;
      some-key-valid = record {
        long = length-replicate {A = ℕ} K 0;
        good = below-all_below N (replicate K 0) (below-zeros N K (omega (arith, b.servers-low)));
      };
      query-length = λ wanted n key w s v. (query-row N K wanted n key w s v.long v.good).long;
      query-admitted = λ wanted n key w s v. row-admitted N K (turn_query N wanted n key) (query-row N K wanted n key w s v.long v.good);
      answer-length = λ n store query whole a. short-answer-long sum N K S group.plus-length store whole query (admitted-row N K query a);
      answer-fits = λ n query a. answer-short S query;
      recovers = λ store wanted key bytes whole w v.
          message-turned sum N K S store wanted key group whole b.symbol_low bytes (omega (arith, b.servers-low)) w v.long v.good;
      exchange = turn_exchange N;
      exchange-valid = λ n wanted other key s w o v.
          let row = query-row N K wanted n key w s v.long v.good in
          record {
            long = made-long N K other n (turn_query N wanted n key) o s row;
            good = made-good N K other n (turn_query N wanted n key) o s row;
          };
      exchange-back = λ n wanted other key s w o v.
          ap (turn_key N wanted n) (made-gives N K other n (turn_query N wanted n key) o s (query-row N K wanted n key w s v.long v.good))
          ∙ key_back N K wanted n key w s v.long v.good;
      exchange-shown = λ n wanted other key s w o v.
          made-gives N K other n (turn_query N wanted n key) o s (query-row N K wanted n key w s v.long v.good);
    }
