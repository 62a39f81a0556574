-- How the keys of an admitted catalogue reach the queries, at its own scheme: every admitted query of every server comes from equally many valid keys
-- for each wanted message (`equal-reach`), and in every code but the even one from exactly one (`one_key`). By the laws of the code that it names.
use mathlib.Core.Path.{◌≡◌, refl, sym, ◌∙◌}
use Prim.Native.Nat.{ℕ}
use native.Mathlib.Omega.{arith}
use Rattle.symbol.specs.Operations.{sum_of}
use Rattle.scheme.specs.Reach.{EqualReach, OneKey}
use Rattle.scheme.proofs.Reach.{one-key-reach}
use Rattle.catalogue.specs.declared.Code.{Code}
use Rattle.catalogue.specs.declared.Code.TheVariants.{Short, Even, Turn, Round}
use Rattle.catalogue.specs.declared.Catalogue.{Catalogue}
use Rattle.catalogue.specs.Catalogue.{Admitted}
use Rattle.short_scheme.proofs.Reach.{short-one-key}
use Rattle.even_scheme.proofs.EqualReach.{even-reach}
use Rattle.turn_code.proofs.Reach.{turn-one-key}
use Rattle.round_scheme.proofs.Promises.{round-one-key}
use Rattle.codes.specs.Codes.{scheme_of}
use Rattle.codes.proofs.Promises.{admitted-even, scheme-short, scheme-even, scheme-turn, scheme-round}

short-apart : Short ≡ Even → ⊥
short-apart e = let z : ◌≡◌ {A = ℕ} 0 1 = cc in omega arith

turn-apart : Turn ≡ Even → ⊥
turn-apart e = let z : ◌≡◌ {A = ℕ} 0 1 = cc in omega arith

round-apart : Round ≡ Even → ⊥
round-apart e = let z : ◌≡◌ {A = ℕ} 0 1 = cc in omega arith

pub one_key : (c : Catalogue) → Admitted c → (c.code ≡ Even → ⊥) → OneKey c.servers c.messages (scheme_of c)
one_key c admitted other = go c.code refl
  where
    go : (code : Code) → c.code ≡ code → OneKey c.servers c.messages (scheme_of c)
    go Short e = rw (scheme-short c e) (short-one-key (sum_of c.sum) c.servers c.messages c.symbol)
    go Even e = absurd (other e)
    go Turn e = rw (scheme-turn c e) (turn-one-key (sum_of c.sum) c.servers c.messages c.symbol)
    go Round e = rw (scheme-round c e) (round-one-key (sum_of c.sum) c.servers c.messages c.symbol)

pub equal-reach : (c : Catalogue) → Admitted c → EqualReach c.servers c.messages (scheme_of c)
equal-reach c admitted = go c.code refl
  where
    go : (code : Code) → c.code ≡ code → EqualReach c.servers c.messages (scheme_of c)
    go Short e = one-key-reach c.servers c.messages (scheme_of c) (one_key c admitted (λ even. short-apart (sym e ∙ even)))
    go Even e = rw (scheme-even c e) (even-reach (sum_of c.sum) c.servers c.messages c.symbol (admitted-even c admitted e))
    go Turn e = one-key-reach c.servers c.messages (scheme_of c) (one_key c admitted (λ even. turn-apart (sym e ∙ even)))
    go Round e = one-key-reach c.servers c.messages (scheme_of c) (one_key c admitted (λ even. round-apart (sym e ∙ even)))
