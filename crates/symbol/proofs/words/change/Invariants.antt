-- `symbol::words::change` meets its contract: the first k words are changed, and what is left behind them is still to be changed.
use Rattle.std.proofs.Common.{◌≡◌, ℕ, ◌*◌}
use Rattle.symbol.specs.Words.{on_words, Steps}
use Rattle.symbol.proofs.WordSteps.{from}
use Rattle.symbol.proofs.words.change.Given as goal

abbrev pub invariant-loop-k : goal.invariant-loop-k
invariant-loop-k g l =
    (by : ℕ → ℕ → ℕ → ℕ) → Steps (goal.F-post g l.step) by → on_words by l.initial.dst l.src ≡ from by (2 * l.k) l.dst l.src
