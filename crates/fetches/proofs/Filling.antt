-- Marks and meters that are filled place by place: before place i they are what they are to be, and nothing from there on (`Filled`); while place i is
-- filled it has the marks x and y and the meters a and b, and the places beside it stay (`Filling`). An issue or a take at place i moves these alone
-- (`issue-fills`, `take-fills`), and at the end all is filled (`filled-all`).
use mathlib.Core.Path.{◌≡◌, sym, ap, ap₂, ◌∙◌}
use mathlib.Core.Bool.{Bool, true, false}
use mathlib.Core.List.{List}
use Prim.Native.Nat.{ℕ, suc, ◌+◌, ◌≤◌, ◌<◌}
use lib.ListN.{length, set}
use lib.Seq.{get_or-set_same}
use Rattle.session_parts.specs.declared.Meters.{Meters}
use Rattle.session_parts.specs.Marks.{no_marks, marked}
use Rattle.session_parts.specs.Meters.{no_meters, no_bytes, counted, count_issued, count_taken}
use Rattle.session_parts.proofs.Marks.{none-marked}
use Rattle.session_parts.proofs.Metering.{none-counted, count-here}
use Rattle.fetches.proofs.Upto.{Upto, Beside, upto-none, upto-here, upto-beside, beside-set, beside-upto, upto_all}

-- what the marks and meters are to be
module _ (issued taken : List Bool) (meters : Meters) where
  pub record Filled (i : ℕ) (first second : List Bool) (m : Meters) : Type 0 where
    pub first-upto : Upto false i first issued
    pub second-upto : Upto false i second taken
    pub sent-upto : Upto 0 i m.sent meters.sent
    pub got-upto : Upto 0 i m.got meters.got

  pub record Filling (i : ℕ) (first second : List Bool) (m : Meters) (x y : Bool) (a b : ℕ) : Type 0 where
    pub first-beside : Beside false i first issued
    pub second-beside : Beside false i second taken
    pub sent-beside : Beside 0 i m.sent meters.sent
    pub got-beside : Beside 0 i m.got meters.got
    pub first-here : marked first i ≡ x
    pub second-here : marked second i ≡ y
    pub sent-here : counted m.sent i ≡ a
    pub got-here : counted m.got i ≡ b

  pub filled_none : Filled 0 no_marks no_marks no_meters
  filled_none = record {
    first-upto = upto-none false no_marks issued none-marked;
    second-upto = upto-none false no_marks taken none-marked;
    sent-upto = upto-none 0 no_bytes meters.sent none-counted;
    got-upto = upto-none 0 no_bytes meters.got none-counted;
  }

  module _ (i : ℕ) (first second : List Bool) (m : Meters) where
    -- a place is come to, and left
    pub arrive : Filled i first second m → Filling i first second m false false 0 0
    arrive f = record {
      first-beside = upto-beside false i first issued f.first-upto;
      second-beside = upto-beside false i second taken f.second-upto;
      sent-beside = upto-beside 0 i m.sent meters.sent f.sent-upto;
      got-beside = upto-beside 0 i m.got meters.got f.got-upto;
      first-here = upto-here false i first issued f.first-upto;
      second-here = upto-here false i second taken f.second-upto;
      sent-here = upto-here 0 i m.sent meters.sent f.sent-upto;
      got-here = upto-here 0 i m.got meters.got f.got-upto;
    }

    pub leave : (x y : Bool) (a b : ℕ) → Filling i first second m x y a b → marked issued i ≡ x → marked taken i ≡ y → counted meters.sent i ≡ a
        → counted meters.got i ≡ b → Filled (suc i) first second m
    leave x y a b f e g h k = record {
      first-upto = beside-upto false i first issued f.first-beside (f.first-here ∙ sym e);
      second-upto = beside-upto false i second taken f.second-beside (f.second-here ∙ sym g);
      sent-upto = beside-upto 0 i m.sent meters.sent f.sent-beside (f.sent-here ∙ sym h);
      got-upto = beside-upto 0 i m.got meters.got f.got-beside (f.got-here ∙ sym k);
    }

    -- a query or an answer of so many bytes
    module _ (x y : Bool) (a b bytes : ℕ) (f : Filling i first second m x y a b) where
      pub issue-fills : i < length first → i < length m.sent → Filling i (set first i true) second (count_issued m i bytes) true y (a + bytes) b
      issue-fills h k = record {
        first-beside = beside-set false i first issued true f.first-beside;
        second-beside = f.second-beside;
        sent-beside = beside-set 0 i m.sent meters.sent (counted m.sent i + bytes) f.sent-beside;
        got-beside = f.got-beside;
        first-here = get_or-set_same first i true false h;
        second-here = f.second-here;
        sent-here = count-here m.sent i bytes k ∙ ap (λ (before : ℕ). before + bytes) f.sent-here;
        got-here = f.got-here;
      }

      pub take-fills : i < length second → i < length m.got → Filling i first (set second i true) (count_taken m i bytes) x true a (b + bytes)
      take-fills h k = record {
        first-beside = f.first-beside;
        second-beside = beside-set false i second taken true f.second-beside;
        sent-beside = f.sent-beside;
        got-beside = beside-set 0 i m.got meters.got (counted m.got i + bytes) f.got-beside;
        first-here = f.first-here;
        second-here = get_or-set_same second i true false h;
        sent-here = f.sent-here;
        got-here = count-here m.got i bytes k ∙ ap (λ (before : ℕ). before + bytes) f.got-here;
      }

    -- lists of the same lengths
    pub record Filled-whole : Type 0 where
      pub marks-issued : first ≡ issued
      pub marks-taken : second ≡ taken
      pub all-meters : m ≡ meters

    pub filled-all : Filled i first second m → length first ≡ length issued → length issued ≤ i → length second ≡ length taken → length taken ≤ i
        → length m.sent ≡ length meters.sent → length meters.sent ≤ i → length m.got ≡ length meters.got → length meters.got ≤ i
        → Filled-whole
    filled-all f e e' g g' h h' k k' = record {
      marks-issued = upto_all false i first issued f.first-upto e e';
      marks-taken = upto_all false i second taken f.second-upto g g';
      all-meters = ap₂ (λ (sent got : List ℕ). record { sent = sent; got = got }) (upto_all 0 i m.sent meters.sent f.sent-upto h h')
          (upto_all 0 i m.got meters.got f.got-upto k k');
    }
