-- When each number of a correction is given: the faults before it are not there, and its own is (`server-refused`, .., `length-refused`). Accepted, none is
-- there (`correct-passed`, `correct-accepted`); its numbers are its own (`correct-numbers`).
use mathlib.Core.Path.{◌≡◌, refl, sym, ap}
use mathlib.Core.Bool.{Bool, true, false, not, ◌||◌, true≢false}
use mathlib.Core.List.{List}
use Prim.Native.Nat.{ℕ, ◌≤◌, ◌<◌}
use borrow.Author.Tests.{le-leb, lt-leb, leb-false, eq-eqb, ne_eqb, eqb-true, not-false}
use lib.Dec.{leb}
use Rattle.lists.specs.Distinct.{stands}
use Rattle.refusal.specs.Verdicts.{accepted}
use Rattle.refusal.specs.Chain.{refused}
use Rattle.refusal.specs.Within.{Within}
use Rattle.refusal.proofs.Within.{faults-within}
use Rattle.catalogue.specs.declared.Catalogue.{Catalogue}
use Rattle.catalogue.specs.Catalogue.{Admitted}
use Rattle.catalogue.proofs.Faults.{after-catalogue, call-passed, call-accepted}
use Rattle.codes.specs.Codes.{scheme_of}
use Rattle.correction.specs.declared.Edit.{Edit}
use Rattle.correction.specs.Correction.{EditIn}
use Rattle.correction.specs.Calls.{outside, correct_faults, correct_numbers, correct_verdict}

neither : (a b : Bool) → a || b ≡ false → (a ≡ false) × (b ≡ false)
neither true b e = absurd (true≢false e)
neither false b e = (refl, e)

-- not outside is inside
pub inside_of : (c : Catalogue) (e : Edit) → outside c e ≡ false → EditIn c e
inside_of c e o =
    let p = neither (leb c.messages e.message) (leb (scheme_of c).sizes.symbols e.symbol || leb c.symbol e.byte) o in
    let q = neither (leb (scheme_of c).sizes.symbols e.symbol) (leb c.symbol e.byte) p.1 in
    record {
      message-in = leb-false c.messages e.message p.0;
      symbol-in = leb-false (scheme_of c).sizes.symbols e.symbol q.0;
      byte-in = leb-false c.symbol e.byte q.1;
    }

pub inside-outside : (c : Catalogue) (e : Edit) → EditIn c e → outside c e ≡ false
inside-outside c e i =
    rw (
      lt-leb c.messages e.message i.message-in,
      lt-leb (scheme_of c).sizes.symbols e.symbol i.symbol-in,
      lt-leb c.symbol e.byte i.byte-in,
    )

module _ (c : Catalogue) (server stored : ℕ) (query : List ℕ) (e : Edit) (saved : ℕ) where
  -- what an accepted verdict says
  pub record Corrects : Type 0 where
    pub admitted : Admitted c
    pub below : server < c.servers
    pub admits : (scheme_of c).admits server query ≡ true
    pub store_long : stored ≡ (scheme_of c).sizes.store
    pub inside : outside c e ≡ false
    pub saved-long : saved ≡ (scheme_of c).answer_length query

  pub correct-passed : correct_verdict c server stored query e saved ≡ accepted → Corrects
  unfolding correct_verdict
  correct-passed v =
      let p = call-passed c _ v in
      let n = p.1 in
      record {
        admitted = p.0;
        below = leb-false c.servers server n.0;
        admits = not-false _ n.1.0;
        store_long = eqb-true stored (scheme_of c).sizes.store (not-false _ n.1.1.0);
        inside = n.1.1.1.0;
        saved-long = eqb-true saved ((scheme_of c).answer_length query) (not-false _ n.1.1.1.1.0);
      }

  pub correct-accepted : Corrects → correct_verdict c server stored query e saved ≡ accepted
  unfolding correct_verdict
  correct-accepted a =
      call-accepted c _ a.admitted (
        lt-leb c.servers server a.below,
        (
          ap not a.admits,
          (
            ap not (eq-eqb stored (scheme_of c).sizes.store a.store_long),
            (a.inside, (ap not (eq-eqb saved ((scheme_of c).answer_length query) a.saved-long), tt)),
          ),
        ),
      )

  pub correct-numbers : Within correct_numbers (correct_verdict c server stored query e saved)
  unfolding correct_verdict stands
  correct-numbers = faults-within correct_numbers (correct_faults c server stored query e saved) _ refl refl

  module _ (admitted : Admitted c) where
    pub server-refused : c.servers ≤ server → refused 3 ≡ correct_verdict c server stored query e saved
    unfolding correct_verdict
    server-refused unknown = after-catalogue c _ refl accepted _ (sym admitted) (rw (le-leb c.servers server unknown))

    module _ (known : server < c.servers) where
      pub query-refused : (scheme_of c).admits server query ≡ false → refused 7 ≡ correct_verdict c server stored query e saved
      unfolding correct_verdict
      query-refused bad = after-catalogue c _ refl accepted _ (sym admitted) (rw (lt-leb c.servers server known, bad))

      module _ (good : (scheme_of c).admits server query ≡ true) where
        pub store-refused : (stored ≡ (scheme_of c).sizes.store → ⊥) → refused 8 ≡ correct_verdict c server stored query e saved
        unfolding correct_verdict
        store-refused other =
            after-catalogue c _ refl accepted _ (sym admitted)
            (rw (lt-leb c.servers server known, good, ne_eqb stored (scheme_of c).sizes.store other))

        module _ (whole : stored ≡ (scheme_of c).sizes.store) where
          pub edit-refused : outside c e ≡ true → refused 19 ≡ correct_verdict c server stored query e saved
          unfolding correct_verdict
          edit-refused out =
              after-catalogue c _ refl accepted _ (sym admitted)
              (rw (lt-leb c.servers server known, good, eq-eqb stored (scheme_of c).sizes.store whole, out))

          pub length-refused : outside c e ≡ false → (saved ≡ (scheme_of c).answer_length query → ⊥)
              → refused 10 ≡ correct_verdict c server stored query e saved
          unfolding correct_verdict
          length-refused inside other =
              after-catalogue c _ refl accepted _ (sym admitted)
              (rw (
                lt-leb c.servers server known,
                good,
                eq-eqb stored (scheme_of c).sizes.store whole,
                inside,
                ne_eqb saved ((scheme_of c).answer_length query) other,
              ))
