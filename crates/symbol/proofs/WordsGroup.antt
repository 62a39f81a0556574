-- Addition of words is an abelian group on the symbols of each size, odd or even: `words-group`, by the laws of OnWords and AddWords.
use mathlib.Core.Path.{sym, ap, ◌∙◌}
use Prim.Native.Nat.{ℕ}
use Rattle.symbol.specs.Sum.{zeros}
use Rattle.symbol.specs.Group.{AbelianGroup}
use Rattle.symbol.specs.Words.{add_at, sub_at, add_words, words}
use Rattle.symbol.proofs.OnWords.{words-length}
use Rattle.symbol.proofs.AddWords.{add-below, sub-below, add-sub-words, sub-add-words, add-words-comm, add-words-assoc, add-zeros}

pub words-group : (size : ℕ) → AbelianGroup words size
words-group size = record {
  plus-length = λ a b l m. words-length add_at a b ∙ l;
  minus-length = λ a b l m. words-length sub_at a b ∙ l;
  plus-symbol = λ {a} {b} p q. record { long = words-length add_at a b ∙ p.long; bytes = add-below a b p.bytes };
  minus-symbol = λ {a} {b} p q. record { long = words-length sub_at a b ∙ p.long; bytes = sub-below a b p.bytes };
  plus_assoc = λ {a} {b} {c} p q r. add-words-assoc a b c (p.long ∙ sym q.long) (q.long ∙ sym r.long);
  plus_comm = λ {a} {b} p q. add-words-comm a b (p.long ∙ sym q.long);
  zero-plus = λ {a} p. ap (λ (n : ℕ). add_words (zeros n) a) (sym p.long) ∙ add-zeros a p.bytes;
  plus-minus = λ {a} {b} p q. add-sub-words a b p.bytes;
  minus_plus = λ {a} {b} p q. sub-add-words a b p.bytes;
}
