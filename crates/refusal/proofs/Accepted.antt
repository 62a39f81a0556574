-- A verdict is accepted exactly if none of its faults is there (`accepted-none`, `none-accepted`); in parts, if the first faults are accepted
-- and none of the rest is there (`first-accepted`, `both-accepted`).
use mathlib.Core.Path.{◌≡◌, refl}
use mathlib.Core.Bool.{Bool, true, false, cond}
use mathlib.Core.List.{List, [], ◌∷◌, ◌++◌}
use lib.Dec.{leb}
use Rattle.std.specs.Prelude.{Ok, Err}
use Rattle.refusal.specs.Verdicts.{Verdict, accepted}
use Rattle.refusal.specs.declared.Refusal.{Refusal}
use Rattle.refusal.specs.Numbers.{rank}
use Rattle.refusal.specs.Foremost.{Fault, earlier, foremost}
use Rattle.refusal.proofs.Chain.{not-refused}

abbrev pub NoneThere : List Fault → Type 0
NoneThere [] = Unit {0}
NoneThere (f ∷ faults) = (f.there ≡ false) × NoneThere faults

earlier-refuses : {A : Type 0} (refusal : Refusal) (v : Verdict) → earlier refusal v ≡ accepted → A
earlier-refuses refusal (Ok _) e = not-refused refusal e
earlier-refuses refusal (Err other) e = go (leb (rank refusal) (rank other)) e
  where
    go : {A : Type 0} (t : Bool) → cond t (Err refusal) (Err other) ≡ accepted → A
    go true e = not-refused refusal e
    go false e = not-refused other e

pub accepted-none : (faults : List Fault) → foremost faults ≡ accepted → NoneThere faults
unfolding foremost
accepted-none [] e = tt
accepted-none (f ∷ faults) e = go f.there e (accepted-none faults)
  where
    go : (t : Bool) → cond t (earlier f.refusal (foremost faults)) (foremost faults) ≡ accepted → (foremost faults ≡ accepted → NoneThere faults)
        → (t ≡ false) × NoneThere faults
    go true e rest = earlier-refuses f.refusal (foremost faults) e
    go false e rest = (refl, rest e)

pub none-accepted : (faults : List Fault) → NoneThere faults → foremost faults ≡ accepted
unfolding foremost
none-accepted [] n = refl
none-accepted (f ∷ faults) n = rw n.0 (none-accepted faults n.1)

none-split : (faults rest : List Fault) → NoneThere (faults ++ rest) → NoneThere faults × NoneThere rest
none-split [] rest n = (tt, n)
none-split (f ∷ faults) rest n = let p = none-split faults rest n.1 in ((n.0, p.0), p.1)

none-join : (faults rest : List Fault) → NoneThere faults → NoneThere rest → NoneThere (faults ++ rest)
none-join [] rest n m = m
none-join (f ∷ faults) rest n m = (n.0, none-join faults rest n.1 m)

pub first-accepted : (faults rest : List Fault) → foremost (faults ++ rest) ≡ accepted → (foremost faults ≡ accepted) × NoneThere rest
first-accepted faults rest e =
    let p = none-split faults rest (accepted-none (faults ++ rest) e) in (none-accepted faults p.0, p.1)

pub both-accepted : (faults rest : List Fault) → foremost faults ≡ accepted → NoneThere rest → foremost (faults ++ rest) ≡ accepted
both-accepted faults rest e n = none-accepted (faults ++ rest) (none-join faults rest (accepted-none faults e) n)
