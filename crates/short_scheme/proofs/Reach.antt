-- Every admitted query of the short code comes from exactly one valid key, for each server and wanted message: `short-one-key`, by `one_key`.
use Prim.Native.Nat.{ℕ}
use Rattle.lists.specs.Inserts.{remove_at}
use Rattle.symbol.specs.Sum.{Sum}
use Rattle.scheme.specs.Reach.{Aim, OneKey}
use Rattle.short_scheme.specs.Short.{short_scheme}
use Rattle.short_scheme.proofs.Exchange.{OnlyKey, one_key}

module _ (sum : Sum) (N K S : ℕ) where
  known-key : (a : Aim N K (short_scheme sum N K S)) → OnlyKey sum N K S a.wanted a.server a.query (remove_at a.wanted a.query)
  known-key a = one_key sum N K S a.wanted a.server a.query a.known a.there a.admitted

  pub short-one-key : OneKey N K (short_scheme sum N K S)
  short-one-key = record {
    the-key = λ a. remove_at a.wanted a.query;
    gives = λ a. record { valid = (known-key a).valid; shown = (known-key a).gives };
    only = λ a key given. (known-key a).only key given.valid given.shown;
  }
