-- The verdict on a catalogue in numbers: which is admitted (`admitted-exactly`), which refused 2 (`refused-bounds`), 17 (`refused-one-message`: one
-- message is, in every code, `one-message`) and 15 (`refused-odd-symbol`). Rests on the chain of its faults.
use mathlib.Core.Path.{◌≡◌, refl, sym, ◌∙◌}
use mathlib.Core.Bool.{Bool, true, false, true≢false, not, ◌&&◌}
use mathlib.Core.Logic.{◌↔◌}
use Prim.Native.Nat.{ℕ, ◌%◌, ◌^◌, ◌≤◌}
use native.Mathlib.Nat.{pow-zero, pow-le-pow_left}
use native.Mathlib.Omega.{arith}
use borrow.Author.Tests.{eqb-true, eqb-false, eq-eqb, ne_eqb, leb-true, le-leb}
use lib.Dec.{eqb, leb}
use Rattle.lists.proofs.Both.{both_true, true-both}
use Rattle.refusal.specs.Verdicts.{accepted}
use Rattle.refusal.specs.Chain.{refused, refuse_if}
use Rattle.refusal.specs.Numbers.{refusal_of}
use Rattle.refusal.proofs.Chain.{not-refused, other-number}
use Rattle.parameters.specs.Bounds.{servers_fit, symbol_fits, short_fits, even_fits, round_fits}
use Rattle.symbol.specs.declared.Operation.{Operation}
use Rattle.symbol.specs.declared.Operation.TheVariants.{ExclusiveOr, Addition}
use Rattle.symbol.proofs.Operations.{not-added}
use Rattle.catalogue.specs.declared.Code.{Code}
use Rattle.catalogue.specs.declared.Code.TheVariants.{Short, Even, Turn, Round}
use Rattle.catalogue.specs.declared.Catalogue.{Catalogue}
use Rattle.catalogue.specs.Catalogue.{fits, numbers_fit, dates_fit, messages_end, in_bounds, whole_words, catalogue_verdict, Admitted}
use Rattle.catalogue.proofs.Admitted.{fits-numbers}
use Rattle.catalogue.proofs.Faults.{catalogue-chain}

-- ---- whole words

whole-even : (sum : Operation) (S : ℕ) → whole_words sum S ≡ true → sum ≡ Addition → S % 2 ≡ 0
whole-even ExclusiveOr S e f = not-added f
whole-even Addition S e f = eqb-true (S % 2) 0 e

even-whole : (sum : Operation) (S : ℕ) → (sum ≡ Addition → S % 2 ≡ 0) → whole_words sum S ≡ true
even-whole ExclusiveOr S e = refl
even-whole Addition S e = eq-eqb (S % 2) 0 (e refl)

odd-added : (sum : Operation) (S : ℕ) → whole_words sum S ≡ false → (sum ≡ Addition) × (S % 2 ≡ 1)
odd-added ExclusiveOr S e = absurd (true≢false e)
odd-added Addition S e = let odd = eqb-false (S % 2) 0 e in (refl, omega (arith, odd))

added-odd : (sum : Operation) (S : ℕ) → sum ≡ Addition → S % 2 ≡ 1 → whole_words sum S ≡ false
added-odd ExclusiveOr S e odd = not-added e
added-odd Addition S e odd = ne_eqb (S % 2) 0 (λ zero. omega (arith, odd, zero))

-- ---- the verdict in numbers

module _ (c : Catalogue) where
  judged : (within one whole : Bool) → in_bounds c ≡ within → eqb c.messages 1 ≡ one → whole_words c.sum c.symbol ≡ whole
      → catalogue_verdict c ≡ refuse_if (not within) 2 (refuse_if one 17 (refuse_if (not whole) 15 accepted))
  judged within one whole e f g = catalogue-chain c ∙ rw (e, f, g)

  -- within its bounds with more than one message there are two or more
  two-messages : in_bounds c ≡ true → (c.messages ≡ 1 → ⊥) → 2 ≤ c.messages
  two-messages within more =
      let kept = (both_true (numbers_fit c) (dates_fit c.opening c.closing && messages_end c) within).0 in
      (fits-numbers c.code c.servers c.messages c.symbol kept more).messages-low

  -- out of bounds and refused 2, or within them with one message and refused 17, or with more, and odd symbols are added, and refused 15, or admitted
  cases : {A : Type 0} → (in_bounds c ≡ false → catalogue_verdict c ≡ refused 2 → A)
      → (in_bounds c ≡ true → c.messages ≡ 1 → catalogue_verdict c ≡ refused 17 → A)
      → (in_bounds c ≡ true → 2 ≤ c.messages → whole_words c.sum c.symbol ≡ false → catalogue_verdict c ≡ refused 15 → A)
      → (in_bounds c ≡ true → 2 ≤ c.messages → whole_words c.sum c.symbol ≡ true → Admitted c → A) → A
  cases {A} outside single odd admitted = go (in_bounds c) (eqb c.messages 1) (whole_words c.sum c.symbol) refl refl refl
    where
      go : (within one whole : Bool) → in_bounds c ≡ within → eqb c.messages 1 ≡ one → whole_words c.sum c.symbol ≡ whole → A
      go false one whole e f g = outside e (judged false one whole e f g)
      go true true whole e f g = single e (eqb-true c.messages 1 f) (judged true true whole e f g)
      go true false false e f g = odd e (two-messages e (eqb-false c.messages 1 f)) g (judged true false false e f g)
      go true false true e f g = admitted e (two-messages e (eqb-false c.messages 1 f)) g (judged true false true e f g)

  -- with two messages or more there is not one
  not-one : 2 ≤ c.messages → eqb c.messages 1 ≡ false
  not-one two = ne_eqb c.messages 1 (λ e. omega (arith, two, e))

  -- admitted exactly if it is within the bounds of its code, has two messages or more, and adds no odd symbols
  pub admitted-exactly : Admitted c ↔ ((in_bounds c ≡ true) × (2 ≤ c.messages) × (c.sum ≡ Addition → c.symbol % 2 ≡ 0))
  admitted-exactly = (
    λ a. cases (λ out v. not-refused (refusal_of 2) (sym v ∙ a)) (λ within one v. not-refused (refusal_of 17) (sym v ∙ a))
        (λ within two odd v. not-refused (refusal_of 15) (sym v ∙ a)) (λ within two whole v. (within, two, whole-even c.sum c.symbol whole)),
    λ h. judged true false true h.0 (not-one h.1) (even-whole c.sum c.symbol h.2),
  )

  -- refused 2 exactly if it is out of bounds, whatever its messages and its sum
  pub refused-bounds : (catalogue_verdict c ≡ refused 2) ↔ (in_bounds c ≡ false)
  refused-bounds = (
    λ e. cases (λ out v. out) (λ within one v. other-number (refusal_of 17) (refusal_of 2) refl (sym v ∙ e))
        (λ within two odd v. other-number (refusal_of 15) (refusal_of 2) refl (sym v ∙ e)) (λ within two whole a. not-refused (refusal_of 2) (sym e ∙ a)),
    λ out. judged false (eqb c.messages 1) (whole_words c.sum c.symbol) out refl refl,
  )

  -- refused 17 exactly if it is within its bounds and has one message, whatever its sum
  pub refused-one-message : (catalogue_verdict c ≡ refused 17) ↔ ((in_bounds c ≡ true) × (c.messages ≡ 1))
  refused-one-message = (
    λ e. cases (λ out v. other-number (refusal_of 2) (refusal_of 17) refl (sym v ∙ e)) (λ within one v. (within, one))
        (λ within two odd v. other-number (refusal_of 15) (refusal_of 17) refl (sym v ∙ e)) (λ within two whole a. not-refused (refusal_of 17) (sym e ∙ a)),
    λ h. judged true true (whole_words c.sum c.symbol) h.0 (eq-eqb c.messages 1 h.1) refl,
  )

  -- refused 15 exactly if it is within its bounds, has two messages or more, and odd symbols are added
  pub refused-odd-symbol : (catalogue_verdict c ≡ refused 15)
      ↔ ((in_bounds c ≡ true) × (2 ≤ c.messages) × (c.sum ≡ Addition) × (c.symbol % 2 ≡ 1))
  refused-odd-symbol = (
    λ e. cases (λ out v. other-number (refusal_of 2) (refusal_of 15) refl (sym v ∙ e))
        (λ within one v. other-number (refusal_of 17) (refusal_of 15) refl (sym v ∙ e))
        (λ within two odd v. let o = odd-added c.sum c.symbol odd in (within, two, o.0, o.1))
        (λ within two whole a. not-refused (refusal_of 15) (sym e ∙ a)),
    λ h. judged true false false h.0 (not-one h.1) (added-odd c.sum c.symbol h.2 h.3),
  )

-- ---- one message

one-short : (N S : ℕ) → servers_fit N ≡ true → symbol_fits S ≡ true → short_fits N 1 S ≡ true
unfolding short_fits
one-short N S n s = rw (n, s)

-- one message is within the bounds of every code, where N and S are
one-fits : (code : Code) (N S : ℕ) → servers_fit N ≡ true → symbol_fits S ≡ true → fits code N 1 S ≡ true
unfolding even_fits round_fits
one-fits Short N S n s = one-short N S n s
one-fits Turn N S n s = one-short N S n s
one-fits Round N S n s = rw (n, s, pow-zero N)
one-fits Even N S n s =
    let high = leb-true N 16 (both_true (leb 2 N) (leb N 16) n).1 in
    let small : N ^ 1 ≤ 16 ^ 1 = pow-le-pow_left high 1 in
    let few : leb (N ^ 1) 256 ≡ true = le-leb (N ^ 1) 256 (omega arith) in
    rw (n, s, few)

-- so that no code refuses it by 2 where its dates and lengths are kept, and none by 15
pub one-message : (c : Catalogue) → servers_fit c.servers ≡ true → symbol_fits c.symbol ≡ true → dates_fit c.opening c.closing ≡ true
    → messages_end c ≡ true → c.messages ≡ 1 → catalogue_verdict c ≡ refused 17
one-message c n s dates ends one =
    let fit : numbers_fit c ≡ true = rw one (one-fits c.code c.servers c.symbol n s) in
    (refused-one-message c).1 (true-both fit (true-both dates ends), one)
