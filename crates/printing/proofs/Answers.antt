-- What the output for an input is, verdict by verdict: the checks that need no code come first (`answer-refused`), and then the key's
-- entries (`answer-bad-key`, `answer-queries`).
use mathlib.Core.Path.{◌≡◌, refl, sym, ap, ◌∙◌}
use mathlib.Core.Bool.{Bool, true, false, not}
use mathlib.Core.List.{List}
use Prim.Native.Nat.{ℕ, ◌<◌}
use native.Mathlib.Omega.{arith}
use borrow.Author.Tests.{leb-false, lt-leb, eqb-true, eq-eqb, not-false}
use lib.Dec.{leb, eqb}
use lib.ListN.{length}
use Rattle.lists.specs.Below.{all_below}
use Rattle.std.specs.Prelude.{Ok, Err}
use Rattle.refusal.specs.Verdicts.{Verdict, accepted}
use Rattle.refusal.specs.declared.Refusal.{Refusal}
use Rattle.refusal.specs.Numbers.{refusal_of}
use Rattle.refusal.specs.Chain.{refused, refuse_if, and_then, chain}
use Rattle.refusal.proofs.Chain.{not-refused}
use Rattle.refusal.proofs.Accepted.{both-accepted}
use Rattle.scheme.specs.Scheme.{Scheme}
use Rattle.catalogue.specs.declared.Catalogue.{Catalogue}
use Rattle.catalogue.specs.Catalogue.{catalogue_verdict, Admitted}
use Rattle.catalogue.proofs.Faults.{after-catalogue, call-passed}
use Rattle.session.specs.Calls.{begin_faults, begin_verdict}
use Rattle.printing.specs.Input.{Asked, asked}
use Rattle.printing.specs.Output.{refusal_line, asked_verdict, query_lines, print_by, answer_to}
use Rattle.printing.specs.Steps.{key_faults, check_verdict, value_by}

-- a refusal by the first checks stands, whatever the key's entries are worth
checks-first : (v : Verdict) (wanted long good bytes : Bool) (refusal : Refusal)
    → and_then v (refuse_if wanted 4 (refuse_if long 5 (refuse_if (not bytes) 6 accepted))) ≡ Err refusal
    → and_then v (refuse_if wanted 4 (refuse_if long 5 (refuse_if good 6 (refuse_if (not bytes) 6 accepted)))) ≡ Err refusal
checks-first (Err other) wanted long good bytes refusal e = e
checks-first (Ok _) true long good bytes refusal e = e
checks-first (Ok _) false true good bytes refusal e = e
checks-first (Ok _) false false good true refusal e = not-refused refusal (sym e)
checks-first (Ok _) false false true false refusal e = e
checks-first (Ok _) false false false false refusal e = e

-- an outcome by a verdict says the verdict
pub value-given : (v : Verdict) (n value : ℕ) → value_by v n ≡ Ok value → (v ≡ accepted) × (value ≡ n)
value-given (Ok _) n value e = (refl, cc)
value-given (Err refusal) n value e = let z : ◌≡◌ {A = ℕ} 0 1 = cc in absurd (let w : ⊥ = omega arith in w)

pub value-refused : (v : Verdict) (n : ℕ) (refusal : Refusal) → value_by v n ≡ Err refusal → v ≡ Err refusal
value-refused (Ok _) n refusal e = let z : ◌≡◌ {A = ℕ} 0 1 = cc in absurd (let w : ⊥ = omega arith in w)
value-refused (Err other) n refusal e = cc

-- the answer goes by its verdict
pub answer-by : (scheme_of : Catalogue → Scheme) (a : Asked) (v : Verdict) → asked_verdict scheme_of a ≡ v → answer_to scheme_of a ≡ print_by scheme_of v a
unfolding answer_to
answer-by scheme_of a v e = ap (λ (w : Verdict). print_by scheme_of w a) e

module _ (scheme_of : Catalogue → Scheme) (c : Catalogue) (wanted : ℕ) where
  -- what accepted checks say
  pub record Checked (count : ℕ) : Type 0 where
    pub admitted : Admitted c
    pub inside : wanted < c.messages
    pub long : count ≡ (scheme_of c).sizes.key

  pub check-passed : (count : ℕ) (bytes : Bool) → check_verdict scheme_of c wanted count bytes ≡ accepted → Checked count × (bytes ≡ true)
  unfolding check_verdict
  check-passed count bytes e =
      let p = call-passed c _ e in
      let n = p.1 in (
        record {
          admitted = p.0;
          inside = leb-false c.messages wanted n.0;
          long = eqb-true count (scheme_of c).sizes.key (not-false _ n.1.0);
        },
        not-false bytes n.1.1.0,
      )

  -- the catalogue's verdict decides, and else the other checks
  pub check-chain : Admitted c → (count : ℕ) (bytes : Bool)
      → chain (key_faults c.messages wanted (scheme_of c).sizes.key count bytes) ≡ check_verdict scheme_of c wanted count bytes
  unfolding check_verdict
  check-chain a count bytes = after-catalogue c _ refl accepted _ (sym a) refl

  pub check-refused : (refusal : Refusal) → catalogue_verdict c ≡ Err refusal → (count : ℕ) (bytes : Bool)
      → Err refusal ≡ check_verdict scheme_of c wanted count bytes
  unfolding check_verdict
  check-refused refusal e count bytes = after-catalogue c _ refl (Err refusal) _ (sym e) refl

  module _ (key : List ℕ) where
    -- refused by the first checks
    pub answer-refused : (refusal : Refusal) → check_verdict scheme_of c wanted (length key) (all_below 256 key) ≡ Err refusal
        → answer_to scheme_of (asked c wanted key) ≡ refusal_line refusal
    unfolding check_verdict asked_verdict
    answer-refused refusal e =
        let v = catalogue_verdict c in
        let checked = after-catalogue c (key_faults c.messages wanted (scheme_of c).sizes.key (length key) (all_below 256 key)) refl v _ refl refl ∙ e in
        answer-by scheme_of (asked c wanted key) (Err refusal)
        (sym (after-catalogue c _ refl v _ refl
        (sym (checks-first v (leb c.messages wanted) (not (eqb (length key) (scheme_of c).sizes.key))
        (not ((scheme_of c).key_good key)) (all_below 256 key) refusal checked))))

    -- refused for the key's entries
    pub answer-bad-key : Checked (length key) → (scheme_of c).key_good key ≡ false → answer_to scheme_of (asked c wanted key) ≡ refusal_line (refusal_of 6)
    unfolding asked_verdict
    answer-bad-key k e =
        answer-by scheme_of (asked c wanted key) (refused 6)
        (sym (after-catalogue c _ refl accepted _ (sym k.admitted)
        (rw (lt-leb c.messages wanted k.inside, eq-eqb (length key) (scheme_of c).sizes.key k.long, e))))

    -- the queries
    pub answer-queries : begin_verdict scheme_of c wanted key ≡ accepted → all_below 256 key ≡ true
        → answer_to scheme_of (asked c wanted key) ≡ query_lines scheme_of (asked c wanted key)
    unfolding asked_verdict begin_verdict
    answer-queries e b = answer-by scheme_of (asked c wanted key) accepted (both-accepted (begin_faults scheme_of c wanted key) _ e (ap not b, tt))
