-- `symbol::words::change` meets its contract: the first k words are changed, and what is left behind them is still to be changed.
use Rattle.std.proofs.Common.{◌≡◌, ℕ, ◌+◌, ◌*◌, ◌/◌, List, length, get_or, set, sym, ap, ap₂, ◌∙◌, arith}
use Rattle.symbol.proofs.WordSteps.{from, low_byte, word-step, byte_left, words-done}
use Rattle.symbol.proofs.words.change.Goals as goal

pub loop-k-preserved : goal.loop-k-preserved
loop-k-preserved g c = λ by steps.
    let next : 2 * c.loop-k.k + 2 ≡ 2 * (c.loop-k.k + 1) = omega arith in
    c.loop-k.invariant by steps
    ∙ word-step by (2 * c.loop-k.k) c.step-value.result c.loop-k.dst c.args.src.now c.put_word.new.dst (omega arith) (omega arith)
    (rw (← c.word_at.ensures, ← c.word_at-in-loop-k.ensures) (steps.on_word _ _ _ (omega arith) (omega arith) c.step-value.ensures)) c.put_word.ensures
    ∙ ap (λ (i : ℕ). from by i c.put_word.new.dst c.args.src.now) next

pub returns-then-last-src : goal.returns-then-last-src
returns-then-last-src g c = λ by steps.
    let last = 2 * (length c.args.src.now / 2) in
    let all : last ≡ 2 * c.loop-k.k = omega arith in
    let old = c.loop-k.dst in
    let low = ap (λ (l : List ℕ). get_or l 0 0) c.to_le_bytes.ensures
    ∙ low_byte _ by steps _ _ _ (omega (arith, c.from.ensures)) (omega (arith, c.from-then-last-src.ensures)) c.step.ensures
    ∙ ap₂ (by 256) c.from.ensures c.from-then-last-src.ensures in
    ap (set old last) low
    ∙ sym (c.loop-k.invariant by steps ∙ ap (λ (i : ℕ). from by i old c.args.src.now) (sym all)
    ∙ byte_left by last old c.args.src.now (omega arith) (omega arith))

pub returns : goal.returns
returns g c = λ by steps.
    sym (c.loop-k.invariant by steps ∙ words-done by (2 * c.loop-k.k) c.loop-k.dst c.args.src.now (omega arith))
