-- Under an admitted catalogue no message is empty, and none is longer than its symbols: `messages-end`.
use Prim.Native.Nat.{ℕ, ◌≤◌, ◌<◌}
use Rattle.catalogue.specs.declared.Catalogue.{Catalogue}
use Rattle.catalogue.specs.Catalogue.{Admitted}
use Rattle.catalogue.proofs.Admitted.{admitted-ends}
use Rattle.codes.specs.Codes.{scheme_of}
use Rattle.codes.specs.Messages.{message_length}
use Rattle.codes.proofs.Promises.{scheme-sizes}

pub messages-end : (c : Catalogue) → Admitted c → (k : ℕ) → k < c.messages
    → (1 ≤ message_length scheme_of c k) × (message_length scheme_of c k ≤ (scheme_of c).sizes.message)
messages-end c a k inside = rw (scheme-sizes c) (admitted-ends c a k inside)
