-- A code with exactly one key for each admitted query and wanted message has equally many for each: `one-key-reach`.
use mathlib.Core.Path.{sym}
use Prim.Native.Nat.{ℕ}
use Rattle.scheme.specs.Scheme.{Scheme}
use Rattle.scheme.specs.Reach.{EqualReach, OneKey}

pub one-key-reach : (servers messages : ℕ) (scheme : Scheme) → OneKey servers messages scheme → EqualReach servers messages scheme
one-key-reach servers messages scheme one = record {
  reach = one.the-key;
  reached = one.gives;
  carry = λ a b key. one.the-key b;
  carried = λ a b key given. one.gives b;
  carried-back = λ a b key given. sym (one.only a key given);
}
