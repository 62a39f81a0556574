-- The short code keeps the promises of a retrieval code, over any abelian group of symbols: `short-laws`.
use mathlib.Core.Path.{◌≡◌, refl}
use mathlib.Core.Bool.{true}
use Prim.Native.Nat.{ℕ, ◌-◌}
use native.Mathlib.Omega.{arith}
use lib.ListN.{replicate, length-replicate}
use Rattle.lists.proofs.Below.{below-all_below, below-zeros}
use Rattle.parameters.specs.Bounds.{short_fits}
use Rattle.parameters.specs.Measures.{short_sizes}
use Rattle.parameters.proofs.Bounds.{short-bounds}
use Rattle.symbol.specs.Sum.{Sum}
use Rattle.symbol.specs.Group.{AbelianGroup}
use Rattle.scheme.specs.Laws.{Laws}
use Rattle.short_scheme.specs.Short.{short_scheme}
use Rattle.short_scheme.proofs.Queries.{admits-row, query-long, query-admits}
use Rattle.short_scheme.proofs.Answers.{short-answer-long, answer-short}
use Rattle.short_scheme.proofs.Recovery.{message-recovered}
use Rattle.short_scheme.proofs.Exchange.{short_exchange, exchanged-valid, exchanged-back, exchanged-shown}

pub short-laws : (sum : Sum) (N K S : ℕ) → AbelianGroup sum S → short_fits N K S ≡ true → Laws N K (short_scheme sum N K S)
unfolding short_sizes
short-laws sum N K S group fits =
    let b = short-bounds N K S fits in
    record {
      servers-some = omega arith;
      servers-fit = b.servers-high;
      key_fits = omega arith;
      store-whole = refl;
      some_key = replicate (K - 1) 0;
      some-key-valid = record {
        long = length-replicate {A = ℕ} (K - 1) 0;
        good = below-all_below N (replicate (K - 1) 0) (below-zeros N (K - 1) (omega (arith, b.servers-low)));
      };
      query-length = λ wanted n key w s v. query-long N K wanted n key w s v.long v.good;
      query-admitted = λ wanted n key w s v. query-admits N K wanted n key w s v.long v.good;
      answer-length = λ n store query whole a. short-answer-long sum N K S group.plus-length store whole query (admits-row N K n query a);
      answer-fits = λ n query a. answer-short S query;
      recovers = λ store wanted key bytes whole w v. message-recovered sum N K S group store whole b.symbol_low bytes wanted w key v.long v.good;
      exchange = short_exchange N;
      exchange-valid = exchanged-valid sum N K S;
      exchange-back = exchanged-back sum N K S;
      exchange-shown = exchanged-shown sum N K S;
    }
