-- The round code keeps the promises of a retrieval code, over any abelian group of symbols: `round-laws`. Every admitted query comes, at each server and for
-- each wanted message, from exactly one key: `round-one-key`. And to every admitted query server 0 sends one symbol less than there are blocks, and any other
-- server as many (document 02, item 8): `first-sends`, `other-sends`.
use mathlib.Core.Path.{◌≡◌, refl, ◌∙◌}
use mathlib.Core.Bool.{true}
use mathlib.Core.List.{List}
use Prim.Native.Nat.{ℕ, ◌-◌, ◌*◌, ◌<◌}
use native.Mathlib.Omega.{arith}
use lib.ListN.{length}
use Rattle.lists.specs.Ranges.{range}
use Rattle.lists.proofs.Arranged.{permutation-facts, facts-permutation, range-permutation}
use Rattle.lists.proofs.Ranges.{range_length}
use Rattle.parameters.specs.Bounds.{blocks, round_fits}
use Rattle.parameters.specs.Measures.{round_sizes}
use Rattle.parameters.proofs.Bounds.{round-bounds}
use Rattle.symbol.specs.Group.{AbelianGroup}
use Rattle.symbol.specs.Sum.{Sum}
use Rattle.scheme.specs.Laws.{Laws}
use Rattle.scheme.specs.Reach.{Aim, OneKey}
use Rattle.round_scheme.specs.Round.{round_scheme}
use Rattle.round_scheme.proofs.Queries.{admitted-rows, query-length, query-admitted}
use Rattle.round_scheme.proofs.Exchange.{OnlyKey, round_key, key-length, one_key, round_exchange, exchanged-valid, exchanged-back, exchanged-shown}
use Rattle.round_scheme.proofs.Lengths.{round-long, before-short, first-length, other_length}
use Rattle.round_scheme.proofs.Recovery.{round-recovered}

module _ (sum : Sum) (N K S : ℕ) where
  pub round-laws : AbelianGroup sum S → round_fits N K S ≡ true → Laws N K (round_scheme sum N K S)
  unfolding round_sizes
  round-laws group fits =
      let b = round-bounds N K S fits in
      let wide : 0 < N = omega (arith, b.servers-low) in
      record {
        servers-some = wide;
        servers-fit = b.servers-high;
        key_fits = omega (arith, b.blocks-high);
        store-whole = refl;
        some_key = range 0 (blocks N K);
        some-key-valid = record {
          long = range_length 0 (blocks N K);
          good = facts-permutation (blocks N K) (range 0 (blocks N K)) (range-permutation (blocks N K));
        };
        query-length = λ wanted n key w s v. query-length N K wide key (permutation-facts (blocks N K) key v.good) wanted n w s;
        query-admitted = λ wanted n key w s v. query-admitted N K wide key (permutation-facts (blocks N K) key v.good) wanted n w s;
        answer-length = λ n store query whole a. round-long sum N K S group.plus-length store whole query (admitted-rows N K n query a);
        answer-fits = λ n query a. before-short K S query (blocks N K);
        recovers = λ store wanted key bytes whole w v.
            round-recovered sum N K S group wide b.symbol_low store whole bytes wanted w key (permutation-facts (blocks N K) key v.good);
        exchange = round_exchange N K;
        exchange-valid = λ n wanted other key s w o v.
            let good = exchanged-valid N K n wanted other key s w o v.good in
            record { long = (permutation-facts (blocks N K) (round_exchange N K n wanted other key) good).long; good = good };
        exchange-back = λ n wanted other key s w o v. exchanged-back N K n wanted other key s w o v.good;
        exchange-shown = λ n wanted other key s w o v. exchanged-shown N K n wanted other key s w o v.good;
      }

  known-key : (a : Aim N K (round_scheme sum N K S)) → OnlyKey N K a.wanted a.server a.query (round_key N K a.wanted a.query)
  known-key a = one_key N K a.wanted a.server a.known a.there a.query a.admitted

  pub round-one-key : OneKey N K (round_scheme sum N K S)
  unfolding round_sizes
  round-one-key = record {
    the-key = λ a. round_key N K a.wanted a.query;
    gives = λ a. record {
      valid = record { long = key-length N K a.wanted a.query; good = (known-key a).valid };
      shown = (known-key a).gives;
    };
    only = λ a key given. (known-key a).only key given.valid.good given.shown;
  }

  module _ (group : AbelianGroup sum S) (store : List ℕ) (whole : length store ≡ (round_scheme sum N K S).sizes.store) (query : List ℕ) where
    pub first-sends : 0 < N → 0 < K → (round_scheme sum N K S).admits 0 query ≡ true
        → length ((round_scheme sum N K S).answer store query) ≡ (blocks N K - 1) * S
    unfolding round_sizes
    first-sends wide known admits =
        round-long sum N K S group.plus-length store whole query (admitted-rows N K 0 query admits) ∙ first-length N K S query wide known admits

    pub other-sends : (server : ℕ) → 0 < server → (round_scheme sum N K S).admits server query ≡ true
        → length ((round_scheme sum N K S).answer store query) ≡ blocks N K * S
    unfolding round_sizes
    other-sends server other admits =
        round-long sum N K S group.plus-length store whole query (admitted-rows N K server query admits) ∙ other_length N K S server query admits other
