-- Meters that some history of calls gives: none at first (`meters-none`); what they say place by place (`meters-at`, `meters-good`); a mark that is set
-- stands for one or more whole queries (`whole-queries`, `queries-good`; `one-query`), one that is not for nothing (`none-sent`, `none-got`).
use mathlib.Core.Path.{◌≡◌, refl, sym, ap}
use mathlib.Core.Bool.{Bool, true, false, ◌&&◌}
use mathlib.Core.List.{List}
use Prim.Native.Nat.{ℕ, suc, ◌+◌, ◌-◌, ◌*◌, ◌/◌, ◌%◌, ◌≤◌, ◌<◌}
use native.Mathlib.Nat.{div-add-mod', mul-mod_left, mod_self, mod-eq-sub-mod, suc-mul}
use native.Mathlib.Omega.{arith}
use borrow.Author.Tests.{eqb-true, eqb-false, eq-eqb, leb-true, le-leb, lt-leb}
use lib.Dec.{leb, eqb}
use lib.ListN.{length, length-set, length-replicate}
use lib.Seq.{get_or-set_same, get_or-set_other}
use Rattle.lists.proofs.Both.{both_true, true-both}
use Rattle.lists.proofs.Every.{every_true, every-at}
use Rattle.lists.proofs.Replicate.{get_or-replicate-same}
use Rattle.parameters.specs.Measures.{most_servers}
use Rattle.session_parts.specs.declared.Meters.{Meters}
use Rattle.session_parts.specs.Marks.{no_marks, marked}
use Rattle.session_parts.specs.Meters.{no_bytes, no_meters, counted, count_more, sent_good, got_good, meters_good}
use Rattle.session_parts.proofs.Marks.{none-marked}

pub none-long : length no_bytes ≡ most_servers
unfolding no_bytes
none-long = length-replicate {A = ℕ} most_servers 0

pub none-counted : (place : ℕ) → counted no_bytes place ≡ 0
unfolding no_bytes
none-counted place = get_or-replicate-same {A = ℕ} most_servers place 0

-- a place with so many bytes more, and the others
pub count-here : (meters : List ℕ) (place bytes : ℕ) → place < length meters → counted (count_more meters place bytes) place ≡ counted meters place + bytes
count-here meters place bytes h = get_or-set_same meters place (counted meters place + bytes) 0 h

pub count-other : (meters : List ℕ) (place bytes other : ℕ) → (other ≡ place → ⊥) → counted (count_more meters place bytes) other ≡ counted meters other
count-other meters place bytes other ne = get_or-set_other meters place other (counted meters place + bytes) 0 ne

pub count_long : (meters : List ℕ) (place bytes : ℕ) → length (count_more meters place bytes) ≡ length meters
count_long meters place bytes = length-set meters place (counted meters place + bytes)

-- place by place
module _ (query : ℕ) (answer : ℕ → ℕ) (issued taken : List Bool) (m : Meters) where
  -- both meters of a place are good
  pub record GoodAt (place : ℕ) : Type 0 where
    pub sent : sent_good query (marked issued place) (counted m.sent place) ≡ true
    pub got : got_good (answer place) (marked taken place) (counted m.got place) ≡ true

  abbrev test : ℕ → Bool
  test place = sent_good query (marked issued place) (counted m.sent place) && got_good (answer place) (marked taken place) (counted m.got place)

  pub meters-at : meters_good query answer issued taken m ≡ true → (place : ℕ) → place < most_servers → GoodAt place
  unfolding meters_good
  meters-at good place h =
      let p = both_true (sent_good query (marked issued place) (counted m.sent place)) (got_good (answer place) (marked taken place) (counted m.got place))
      (every-at most_servers test good place h) in
      record { sent = p.0; got = p.1 }

  pub meters-good : ((place : ℕ) → place < most_servers → GoodAt place) → meters_good query answer issued taken m ≡ true
  unfolding meters_good
  meters-good each = every_true most_servers test (λ place h. let g = each place h in true-both g.sent g.got)

pub meters-none : (query : ℕ) (answer : ℕ → ℕ) → meters_good query answer no_marks no_marks no_meters ≡ true
meters-none query answer =
    meters-good query answer no_marks no_marks no_meters
    (λ place h. record {
      sent = rw (none-marked place) (eq-eqb (counted no_bytes place) 0 (none-counted place));
      got = rw (none-marked place) (eq-eqb (counted no_bytes place) 0 (none-counted place));
    })

-- a mark that is not set
pub none-sent : (query bytes : ℕ) → sent_good query false bytes ≡ true → bytes ≡ 0
none-sent query bytes e = eqb-true bytes 0 e

pub none-got : (answer bytes : ℕ) → got_good answer false bytes ≡ true → bytes ≡ 0
none-got answer bytes e = eqb-true bytes 0 e

-- and one that is
pub one-got : (answer bytes : ℕ) → got_good answer true bytes ≡ true → bytes ≡ answer
one-got answer bytes e = eqb-true bytes answer e

pub queries-good : (query count : ℕ) → sent_good query true (suc count * query) ≡ true
queries-good query count =
    true-both (le-leb query (suc count * query) (omega (arith, suc-mul count query))) (eq-eqb (suc count * query % query) 0 (mul-mod_left (suc count) query))

-- up to one query: it is one
pub one-query : (query bytes : ℕ) → bytes ≤ query → eqb bytes query ≡ sent_good query true bytes
one-query query bytes h = go (eqb bytes query) refl
  where
    go : (t : Bool) → eqb bytes query ≡ t → t ≡ (leb query bytes && eqb (bytes % query) 0)
    go true e = rw (eqb-true bytes query e) (sym (true-both (le-leb query query (omega arith)) (eq-eqb (query % query) 0 (mod_self query))))
    go false e =
        let other = eqb-false bytes query e in
        sym (ap (λ (t : Bool). t && eqb (bytes % query) 0) (lt-leb query bytes (omega (arith, h, other))))

-- how many queries there were, but for the first
pub further : ℕ → ℕ → ℕ
further query bytes = (bytes - query) / query

pub whole-queries : (query bytes : ℕ) → sent_good query true bytes ≡ true → bytes ≡ suc (further query bytes) * query
unfolding further
whole-queries query bytes e =
    let p = both_true (leb query bytes) (eqb (bytes % query) 0) e in
    let low : query ≤ bytes = leb-true query bytes p.0 in
    let none : bytes % query ≡ 0 = eqb-true (bytes % query) 0 p.1 in
    let same : bytes % query ≡ (bytes - query) % query = mod-eq-sub-mod {n = bytes} {m = query} low in
    omega (arith, suc-mul ((bytes - query) / query) query, div-add-mod' (bytes - query) query, none, same)
