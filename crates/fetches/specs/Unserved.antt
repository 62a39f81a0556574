-- A fetch whose issues all come on days on which its catalogue is not served (document 02, item 1): it recovers nothing, and each of its recovers is
-- refused, 9 if a buffer is too short, else 12 (`NothingRecovered`).
use Rattle.std.specs.Prelude.{◌≡◌, List, ℕ, ◌<◌, ltb, length, Err}
use Rattle.lists.specs.Sums.{All}
use Rattle.refusal.specs.declared.Refusal.{Refusal}
use Rattle.refusal.specs.Chain.{refused, refuse_if}
use Rattle.scheme.specs.Scheme.{Scheme, Valid}
use Rattle.catalogue.specs.declared.Catalogue.{Catalogue}
use Rattle.catalogue.specs.Catalogue.{Admitted}
use Rattle.catalogue.specs.Days.{day_verdict}
use Rattle.codes.specs.Messages.{message_length}
use Rattle.session.specs.Calls.{slots_of}
use Rattle.fetches.specs.Fetches.{Call, issuing, taking, recovering, Fetch, Made, history}
use Rattle.fetches.specs.Past.{Past, nothing, Throughout}

-- a call that is no issue, or an issue on a day that is refused
abbrev pub Unserved : Catalogue → Call → Type 0
Unserved c (issuing server day query answer_day answer) = (refusal : Refusal) × (day_verdict c day ≡ Err refusal)
Unserved c (taking server answer) = Unit {0}
Unserved c (recovering message) = Unit {0}

module _ (scheme_of : Catalogue → Scheme) (c : Catalogue) where
  -- a recover, with an answer buffer of `room` bytes, is refused
  abbrev pub RecoverRefused : ℕ → ℕ → Past → Made → Type 0
  RecoverRefused wanted room past made =
      (message : List ℕ) → made.call ≡ recovering message
      → made.verdict ≡ refuse_if (ltb room (slots_of scheme_of c)) 9 (refuse_if (ltb (length message) (message_length scheme_of c wanted)) 9 (refused 12))

abbrev pub NothingRecovered : (Catalogue → Scheme) → Type 0
NothingRecovered scheme_of =
    (c : Catalogue) → Admitted c → (f : Fetch) → f.wanted < c.messages → Valid (scheme_of c) f.key → All (Unserved c) f.calls
    → Throughout (RecoverRefused scheme_of c f.wanted (length f.answers)) nothing (history scheme_of c f)
