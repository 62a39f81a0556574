-- Faults that are listed in ascending rank are checked by a chain, first to last: `foremost-chain`; or the first of them by a verdict of their own,
-- and then the rest: `after_first_lem`. What a test says of all listed refusals it says of the one that is given (`of-foremost`).
use mathlib.Core.Path.{◌≡◌, refl, sym, ap, ◌∙◌}
use mathlib.Core.Bool.{Bool, true, false, cond, ◌&&◌}
use mathlib.Core.List.{List, [], ◌∷◌, ◌++◌}
use Prim.Native.Nat.{ℕ}
use lib.Dec.{leb}
use Rattle.lists.proofs.Both.{both_true}
use Rattle.std.specs.Prelude.{Ok, Err}
use Rattle.refusal.specs.Verdicts.{Verdict}
use Rattle.refusal.specs.declared.Refusal.{Refusal}
use Rattle.refusal.specs.Numbers.{rank}
use Rattle.refusal.specs.Foremost.{Fault, earlier, foremost}
use Rattle.refusal.specs.Chain.{and_then, chain}
use Rattle.refusal.proofs.Chain.{chain-after}

module _ (test : Refusal → Bool) where
  abbrev pub of_faults : List Fault → Bool
  of_faults [] = true
  of_faults (f ∷ faults) = test f.refusal && of_faults faults

  abbrev pub of_verdict : Verdict → Bool
  of_verdict (Ok _) = true
  of_verdict (Err refusal) = test refusal

  of-earlier : (refusal : Refusal) (v : Verdict) → test refusal ≡ true → of_verdict v ≡ true → of_verdict (earlier refusal v) ≡ true
  of-earlier refusal (Ok _) e f = e
  of-earlier refusal (Err other) e f = go (leb (rank refusal) (rank other))
    where
      go : (t : Bool) → of_verdict (cond t (Err refusal) (Err other)) ≡ true
      go true = e
      go false = f

  pub of-foremost : (faults : List Fault) → of_faults faults ≡ true → of_verdict (foremost faults) ≡ true
  unfolding foremost
  of-foremost [] e = refl
  of-foremost (f ∷ faults) e =
      let p = both_true (test f.refusal) (of_faults faults) e in go f.there p.0 (of-foremost faults p.1)
    where
      go : (t : Bool) → test f.refusal ≡ true → of_verdict (foremost faults) ≡ true
          → of_verdict (cond t (earlier f.refusal (foremost faults)) (foremost faults)) ≡ true
      go true own rest = of-earlier f.refusal (foremost faults) own rest
      go false own rest = rest

-- the refusal has at least this rank
abbrev from : ℕ → Refusal → Bool
from n refusal = leb n (rank refusal)

-- listed in ascending rank: no fault has a lower one than a fault before it
abbrev pub ascending : List Fault → Bool
ascending [] = true
ascending (f ∷ faults) = of_faults (from (rank f.refusal)) faults && ascending faults

earlier-is : (refusal : Refusal) (v : Verdict) → of_verdict (from (rank refusal)) v ≡ true → earlier refusal v ≡ Err refusal
earlier-is refusal (Ok _) e = refl
earlier-is refusal (Err other) e = ap (λ (t : Bool). cond t (Err refusal) (Err other)) e

pub foremost-chain : (faults : List Fault) → ascending faults ≡ true → foremost faults ≡ chain faults
unfolding foremost
foremost-chain [] e = refl
foremost-chain (f ∷ faults) e =
    let p = both_true (of_faults (from (rank f.refusal)) faults) (ascending faults) e in
    go f.there (earlier-is f.refusal (foremost faults) (of-foremost (from (rank f.refusal)) faults p.0)) (foremost-chain faults p.1)
  where
    go : (t : Bool) → earlier f.refusal (foremost faults) ≡ Err f.refusal → foremost faults ≡ chain faults
        → cond t (earlier f.refusal (foremost faults)) (foremost faults) ≡ cond t (Err f.refusal) (chain faults)
    go true first rest = first
    go false first rest = rest

-- v is the verdict on the first faults, r that on all
pub after_first_lem : (faults rest : List Fault) → ascending faults ≡ true → ascending (faults ++ rest) ≡ true → (v r : Verdict)
    → v ≡ foremost faults → r ≡ and_then v (chain rest) → r ≡ foremost (faults ++ rest)
after_first_lem faults rest a b v r e p =
    chain-after faults rest v r (e ∙ foremost-chain faults a) p ∙ sym (foremost-chain (faults ++ rest) b)
