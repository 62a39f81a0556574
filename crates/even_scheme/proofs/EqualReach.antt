-- Every admitted query of the even code comes from equally many valid keys, for each server and wanted message: `even-reach`. A key that gives the one
-- is moved to server 0 and message 0, renamed from the one query to the other there, and moved on.
use Prim.Native.Nat.{ℕ, ◌<◌}
use native.Mathlib.Omega.{arith}
use mathlib.Core.Path.{◌≡◌, ap, ◌∙◌}
use mathlib.Core.Bool.{true}
use mathlib.Core.List.{List}
use Rattle.parameters.specs.Bounds.{even_fits}
use Rattle.parameters.proofs.Bounds.{even-bounds}
use Rattle.symbol.specs.Sum.{Sum}
use Rattle.scheme.specs.Reach.{Gives, Aim, GivesAt, EqualReach}
use Rattle.even_scheme.specs.Even.{even_admits, even_scheme}
use Rattle.even_scheme.proofs.Exchange.{moved, moved-valid, moved_back, moved-shown}
use Rattle.even_scheme.proofs.Reach.{reached, reach}
use Rattle.even_scheme.proofs.Renaming.{renamed, renamed-gives, renamed-once}

module _ (sum : Sum) (N K S : ℕ) (fits : even_fits N K S ≡ true) where
  abbrev AimAt : Type 0
  AimAt = Aim N K (even_scheme sum N K S)

  abbrev carry : AimAt → AimAt → List ℕ → List ℕ
  carry a b key = moved N K 0 0 b.server b.wanted (renamed N K a.query b.query (moved N K a.server a.wanted 0 0 key))

  first : 0 < N
  first = omega (arith, (even-bounds N K S fits).servers-low)

  -- the query is admitted at server 0 too
  admitted-first : (a : AimAt) → (even_scheme sum N K S).admits 0 a.query ≡ true
  unfolding even_admits
  admitted-first a = a.admitted

  module _ (a b : AimAt) (key : List ℕ) (given : GivesAt N K (even_scheme sum N K S) a key) where
    none : 0 < K
    none = omega (arith, a.known)

    -- at server 0 and message 0, with the one query and with the other
    given-first : Gives (even_scheme sum N K S) 0 0 a.query (moved N K a.server a.wanted 0 0 key)
    given-first = record {
      valid = moved-valid sum N K S fits a.server a.wanted 0 0 key a.there a.known first none given.valid;
      shown = moved-shown sum N K S fits a.server a.wanted 0 0 key a.there a.known first none given.valid ∙ given.shown;
    }

    given-other : Gives (even_scheme sum N K S) 0 0 b.query (renamed N K a.query b.query (moved N K a.server a.wanted 0 0 key))
    given-other = renamed-gives sum N K S fits 0 0 a.query b.query _ first none (admitted-first a) (admitted-first b) given-first

    carried : GivesAt N K (even_scheme sum N K S) b (carry a b key)
    carried = record {
      valid = moved-valid sum N K S fits 0 0 b.server b.wanted _ first none b.there b.known given-other.valid;
      shown = moved-shown sum N K S fits 0 0 b.server b.wanted _ first none b.there b.known given-other.valid ∙ given-other.shown;
    }

    carried-back : carry b a (carry a b key) ≡ key
    carried-back =
        ap (λ l. moved N K 0 0 a.server a.wanted (renamed N K b.query a.query l))
        (moved_back sum N K S fits 0 0 b.server b.wanted _ first none b.there b.known given-other.valid)
        ∙ ap (moved N K 0 0 a.server a.wanted)
        (renamed-once sum N K S fits 0 0 a.query b.query _ first none (admitted-first a) (admitted-first b) given-first)
        ∙ moved_back sum N K S fits a.server a.wanted 0 0 key a.there a.known first none given.valid

  pub even-reach : EqualReach N K (even_scheme sum N K S)
  even-reach = record {
    reach = λ a. reached N K a.server a.wanted a.query;
    reached = λ a. reach sum N K S fits a.server a.wanted a.query a.there a.known a.admitted;
    carry = carry;
    carried = carried;
    carried-back = carried-back;
  }
