-- Marks that some history of calls gives: none at first (`marks-none`), and one more at an issue or a take keeps them so (`marks-issue`,
-- `marks-take`).
use mathlib.Core.Path.{◌≡◌, refl, sym, ap, ◌∙◌}
use mathlib.Core.Bool.{Bool, true, false, ◌&&◌}
use mathlib.Core.List.{List}
use Prim.Native.Nat.{ℕ, zero, suc, ◌≤◌, ◌<◌}
use native.Mathlib.Numerals.{add-one}
use native.Mathlib.Omega.{arith}
use borrow.Author.Tests.{eqb-true, eqb-false, lt-ltb, ltb-true, not-true}
use lib.Dec.{eqb}
use lib.ListN.{length, take, set, length-set, length-replicate}
use lib.Seq.{get_or-set_same, get_or-set_other}
use Rattle.std.specs.List.{list_all}
use Rattle.std.proofs.lemmas.List.Folds.{list_all_more}
use Rattle.lists.specs.Ranges.{every}
use Rattle.lists.proofs.Every.{every_true, every-at}
use Rattle.lists.proofs.Replicate.{get_or-replicate-same}
use Rattle.parameters.specs.Measures.{most_servers}
use Rattle.session_parts.specs.Marks.{no_marks, marked, mark_good, marks_good}

pub record Marks (servers : ℕ) (issued taken : List Bool) : Type 0 where
  pub issued-long : length issued ≡ most_servers
  pub taken-long : length taken ≡ most_servers
  pub good : marks_good servers issued taken ≡ true

-- an answer is taken only from a server
pub taken-below : (servers : ℕ) (issued taken : List Bool) → marks_good servers issued taken ≡ true → (place : ℕ) → place < most_servers
    → marked taken place ≡ true → place < servers
unfolding marks_good
taken-below servers issued taken good place h t =
    go (marked issued place) (every-at most_servers (λ place. mark_good servers place (marked issued place) (marked taken place)) good place h)
  where
    go : (b : Bool) → mark_good servers place b (marked taken place) ≡ true → place < servers
    go true e = ltb-true place servers e
    go false e = let f = not-true (marked taken place) e in absurd (let z : ◌≡◌ {A = ℕ} 0 1 = cc in let w : ⊥ = omega arith in w)

-- the first so many marks are all set, as a test of the list
pub every_marked : (count : ℕ) (marks : List Bool) → count ≤ length marks → list_all (λ t. t) (take count marks) ≡ every count (marked marks)
unfolding every
every_marked zero marks h = refl
every_marked (suc count) marks h =
    ap (λ n. list_all (λ t. t) (take n marks)) (sym (add-one count)) ∙ list_all_more (λ t. t) marks count false (omega arith)
    ∙ ap (λ t. t && marked marks count) (every_marked count marks (omega arith))

pub none-marked : (place : ℕ) → marked no_marks place ≡ false
unfolding no_marks
none-marked place = get_or-replicate-same most_servers place false

-- a mark that is set, and the others
pub mark_set : (marks : List Bool) (place : ℕ) → place < length marks → marked (set marks place true) place ≡ true
mark_set marks place h = get_or-set_same marks place true false h

pub mark-other : (marks : List Bool) (place other : ℕ) → (other ≡ place → ⊥) → marked (set marks place true) other ≡ marked marks other
mark-other marks place other ne = get_or-set_other marks place other true false ne

pub marks-none : (servers : ℕ) → Marks servers no_marks no_marks
unfolding no_marks marks_good
marks-none servers = record {
  issued-long = length-replicate most_servers false;
  taken-long = length-replicate most_servers false;
  good = every_true most_servers _ (λ place h. rw (get_or-replicate-same most_servers place false));
}

module _ (servers : ℕ) (issued taken : List Bool) (m : Marks servers issued taken) (server : ℕ) (below : server < servers) (fit : servers ≤ most_servers) where
  each : (place : ℕ) → place < most_servers → mark_good servers place (marked issued place) (marked taken place) ≡ true
  unfolding marks_good
  each = every-at most_servers (λ place. mark_good servers place (marked issued place) (marked taken place)) m.good

  pub marks-issue : Marks servers (set issued server true) taken
  unfolding marks_good
  marks-issue = record {
    issued-long = length-set issued server true ∙ m.issued-long;
    taken-long = m.taken-long;
    good = every_true most_servers _ (λ place h. go place h (eqb place server) refl);
  }
    where
      go : (place : ℕ) → place < most_servers → (t : Bool) → eqb place server ≡ t
          → mark_good servers place (marked (set issued server true) place) (marked taken place) ≡ true
      go place h true q =
          rw (eqb-true place server q, mark_set issued server (let e = m.issued-long in omega arith)) (lt-ltb server servers below)
      go place h false q = rw (mark-other issued server place (eqb-false place server q)) (each place h)

  pub marks-take : marked issued server ≡ true → Marks servers issued (set taken server true)
  unfolding marks_good
  marks-take was = record {
    issued-long = m.issued-long;
    taken-long = length-set taken server true ∙ m.taken-long;
    good = every_true most_servers _ (λ place h. go place h (eqb place server) refl);
  }
    where
      go : (place : ℕ) → place < most_servers → (t : Bool) → eqb place server ≡ t
          → mark_good servers place (marked issued place) (marked (set taken server true) place) ≡ true
      go place h true q = rw (eqb-true place server q, was) (lt-ltb server servers below)
      go place h false q = rw (mark-other taken server place (eqb-false place server q)) (each place h)
