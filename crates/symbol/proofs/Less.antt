-- A symbol less another (`less`) is as long as they are (`less-length`), and its first bytes come from theirs (`less-take`).
use mathlib.Core.Path.{◌≡◌, refl, sym}
use mathlib.Core.Bool.{Bool, true, false}
use mathlib.Core.List.{List}
use Prim.Native.Nat.{ℕ}
use lib.ListN.{length, take}
use Rattle.symbol.specs.Sum.{Sum, less}
use Rattle.symbol.specs.Group.{KeepsLength, Prefixes}

pub less-length : (sum : Sum) (size : ℕ) → KeepsLength sum.minus size → (alone : Bool) (a b : List ℕ) → length a ≡ size → length b ≡ size
    → length (less sum alone a b) ≡ size
unfolding less
less-length sum size keeps true a b h k = h
less-length sum size keeps false a b h k = keeps a b h k

pub less-take : (sum : Sum) → Prefixes sum → (alone : Bool) (n : ℕ) (a b : List ℕ) → less sum alone (take n a) (take n b) ≡ take n (less sum alone a b)
unfolding less
less-take sum prefixes true n a b = refl
less-take sum prefixes false n a b = sym (prefixes.minus-take n a b)
