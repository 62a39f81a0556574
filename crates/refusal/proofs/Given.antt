-- What is given of several faults, said without the definition: a refusal, exactly if it is that of a fault which is there, and no fault which is there
-- comes before it in the order (`given-exactly`). Then none has a smaller number, among the numbers up to 12 (`smallest-number`).
use mathlib.Core.Path.{◌≡◌, refl, sym, ap, ◌∙◌}
use mathlib.Core.Bool.{Bool, true, false, cond}
use mathlib.Core.List.{List, [], ◌∷◌}
use mathlib.Core.Logic.{◌↔◌}
use Prim.Native.Nat.{ℕ, ◌≤◌}
use native.Mathlib.Omega.{arith}
use lib.Dec.{leb}
use borrow.Author.Tests.{leb-true, leb-false, le-leb}
use Rattle.lists.specs.Any.{Any, any_here, any_later}
use Rattle.lists.specs.Sums.{All, all_nil, all_cons}
use Rattle.lists.proofs.Each.{All-imp}
use Rattle.std.specs.Prelude.{Ok, Err}
use Rattle.refusal.specs.Verdicts.{Verdict}
use Rattle.refusal.specs.declared.Refusal.{Refusal}
use Rattle.refusal.specs.Numbers.{number_of, rank}
use Rattle.refusal.specs.Foremost.{Fault, earlier, foremost}
use Rattle.refusal.proofs.Chain.{not-refused, same-refusal}
use Rattle.refusal.proofs.Accepted.{NoneThere, accepted-none}
use Rattle.refusal.proofs.Numbers.{same_rank, rank-by-number}

-- the fault is there, and this is its refusal
abbrev pub There : Refusal → Fault → Type 0
There refusal f = (f.there ≡ true) × (f.refusal ≡ refusal)

-- the fault does not come before the refusal, if it is there
abbrev pub NotBefore : Refusal → Fault → Type 0
NotBefore refusal f = f.there ≡ true → rank refusal ≤ rank f.refusal

pub record Given (refusal : Refusal) (faults : List Fault) : Type 0 where
  pub there : Any (There refusal) faults
  pub first : All (NotBefore refusal) faults

not_there : {A : Type 0} {t : Bool} → t ≡ false → t ≡ true → A
not_there {A} {t} e f = absurd (let z : ◌≡◌ {A = ℕ} 0 1 = cc in let w : ⊥ = omega arith in w)

none_before : (refusal : Refusal) (faults : List Fault) → NoneThere faults → All (NotBefore refusal) faults
none_before refusal [] n = all_nil
none_before refusal (f ∷ faults) n = all_cons (λ e. not_there n.0 e) (none_before refusal faults n.1)

-- a fault in front that is there
module _ (f : Fault) (faults : List Fault) (there : f.there ≡ true) where
  own : (refusal : Refusal) → f.refusal ≡ refusal → All (NotBefore refusal) faults → Given refusal (f ∷ faults)
  own refusal e rest = record {
    there = any_here (there, e);
    first = all_cons {x = f} (λ h. let w : rank refusal ≤ rank f.refusal = rw e (omega arith) in w) rest;
  }

  before : (v : Verdict) → foremost faults ≡ v → ((other : Refusal) → foremost faults ≡ Err other → Given other faults) → (refusal : Refusal)
      → earlier f.refusal v ≡ Err refusal → Given refusal (f ∷ faults)
  before (Ok _) e rest refusal given = own refusal (same-refusal given) (none_before refusal faults (accepted-none faults e))
  before (Err other) e rest refusal given = go (leb (rank f.refusal) (rank other)) refl given (rest other e)
    where
      go : (t : Bool) → leb (rank f.refusal) (rank other) ≡ t → cond {A = Verdict} t (Err f.refusal) (Err other) ≡ Err refusal → Given other faults
          → Given refusal (f ∷ faults)
      go true l g r =
          let same : f.refusal ≡ refusal = same-refusal g in
          let low : rank f.refusal ≤ rank other = leb-true (rank f.refusal) (rank other) l in
          let low' : rank refusal ≤ rank other = rw same at low in
          own refusal same (All-imp (λ x h k. let m : rank other ≤ rank x.refusal = h k in omega (arith, m, low')) r.first)
      go false l g r =
          let same : other ≡ refusal = same-refusal g in
          let low : rank other ≤ rank f.refusal = let w = leb-false (rank f.refusal) (rank other) l in omega (arith, w) in
          rw (← same) (record { there = any_later r.there; first = all_cons {x = f} (λ h. low) r.first })

pub foremost-given : (faults : List Fault) (refusal : Refusal) → foremost faults ≡ Err refusal → Given refusal faults
unfolding foremost
foremost-given [] refusal e = not-refused refusal (sym e)
foremost-given (f ∷ faults) refusal e = go f.there refl e (foremost-given faults)
  where
    go : (t : Bool) → f.there ≡ t → cond t (earlier f.refusal (foremost faults)) (foremost faults) ≡ Err refusal
        → ((other : Refusal) → foremost faults ≡ Err other → Given other faults) → Given refusal (f ∷ faults)
    go true h g rest = before f faults h (foremost faults) refl rest refusal g
    go false h g rest =
        let r = rest refusal g in
        record { there = any_later r.there; first = all_cons {x = f} (λ k. not_there h k) r.first }

-- of two refusals, one that is first among the faults that are there and one of such a fault
not_after : (first other : Refusal) {faults : List Fault} → All (NotBefore first) faults → Any (There other) faults → rank first ≤ rank other
not_after first other all_nil x3 = elim x3 [ ]
not_after first other (all_cons here rest) (any_here t) = rw t.1 at (here t.0)
not_after first other (all_cons here rest) (any_later t) = not_after first other rest t

none-there : {A : Type 0} {refusal : Refusal} (faults : List Fault) → NoneThere faults → Any (There refusal) faults → A
none-there [] n x = elim x [ ]
none-there (f ∷ faults) n (any_here t) = not_there n.0 t.0
none-there (f ∷ faults) n (any_later t) = none-there faults n.1 t

given-foremost : (faults : List Fault) (refusal : Refusal) → Given refusal faults → foremost faults ≡ Err refusal
given-foremost faults refusal g = go (foremost faults) refl
  where
    go : (v : Verdict) → foremost faults ≡ v → foremost faults ≡ Err refusal
    go (Ok _) e = none-there faults (accepted-none faults e) g.there
    go (Err other) e =
        let h = foremost-given faults other e in
        let low : rank other ≤ rank refusal = not_after other refusal h.first g.there in
        let high : rank refusal ≤ rank other = not_after refusal other g.first h.there in
        e ∙ ap Err (same_rank other refusal (omega arith))

pub given-exactly : (faults : List Fault) (refusal : Refusal) → (foremost faults ≡ Err refusal) ↔ Given refusal faults
given-exactly faults refusal = (foremost-given faults refusal, given-foremost faults refusal)

-- document 01's rule: of the faults that are there, with numbers up to 12, the smallest number is given
pub smallest-number : (faults : List Fault) (refusal : Refusal) → foremost faults ≡ Err refusal → number_of refusal ≤ 12
    → All (λ f. f.there ≡ true → number_of f.refusal ≤ 12 → number_of refusal ≤ number_of f.refusal) faults
smallest-number faults refusal e low =
    All-imp (λ f first there small.
    leb-true (number_of refusal) (number_of f.refusal)
    (sym (rank-by-number refusal f.refusal low small) ∙ le-leb (rank refusal) (rank f.refusal) (first there)))
    (foremost-given faults refusal e).first
