-- The plain fetch ends with the wanted message (`plain-ends`): its session is sound throughout, so that no call is refused, and its takes are honest.
use mathlib.Core.Path.{◌≡◌, refl}
use mathlib.Core.List.{List, []}
use Prim.Native.Nat.{ℕ, ◌≤◌, ◌<◌}
use native.Mathlib.Nat.{not-suc-le-zero, zero-add}
use lib.ListN.{length}
use Rattle.lists.specs.Parts.{put}
use Rattle.lists.specs.Below.{Below}
use Rattle.scheme.specs.Scheme.{Scheme, Valid}
use Rattle.scheme.specs.Laws.{Laws}
use Rattle.calendar.specs.declared.Day.{Day}
use Rattle.catalogue.specs.declared.Catalogue.{Catalogue}
use Rattle.catalogue.specs.Catalogue.{Admitted}
use Rattle.catalogue.specs.Days.{Served}
use Rattle.codes.specs.Messages.{message_length, message_in}
use Rattle.session_parts.specs.Marks.{no_marks}
use Rattle.session_parts.specs.Meters.{most_bytes, no_meters}
use Rattle.session.specs.Calls.{slots_of}
use Rattle.fetches.specs.Fetches.{Made, history}
use Rattle.fetches.specs.Told.{bytes_to}
use Rattle.fetches.specs.Plain.{Ends, plain_fetch}
use Rattle.fetches.proofs.Theorem.{kept-first, begun}
use Rattle.fetches.proofs.PlainIssues.{issues-end}

none_yet : (size i : ℕ) → bytes_to size i [] ≡ 0
unfolding bytes_to
none_yet size i = refl

pub plain-ends : (scheme_of : Catalogue → Scheme) (c : Catalogue) → Admitted c → Laws c.servers c.messages (scheme_of c)
    → (wanted : ℕ) → wanted < c.messages → (key : List ℕ) → Valid (scheme_of c) key
    → (store : List ℕ) → Below 256 store → length store ≡ (scheme_of c).sizes.store → (message : List ℕ) → message_length scheme_of c wanted ≤ length message
    → (answers : List ℕ) → slots_of scheme_of c ≤ length answers → (day answer_day : ℕ → Day)
    → ((server : ℕ) → server < c.servers → Served c (day server) × Served c (answer_day server))
    → (scheme_of c).sizes.query ≤ most_bytes → (query answer : List ℕ) → (scheme_of c).sizes.query ≤ length query
    → Ends (λ (made : Made). made.left ≡ put 0 (message_in scheme_of c store wanted) message)
    (history scheme_of c (plain_fetch scheme_of c store wanted key day answer_day answers query answer message))
plain-ends scheme_of c admitted laws wanted inside key valid store bytes long message fits answers roomy day answer_day in-season small query answer room_for =
    rw (begun scheme_of c admitted laws wanted inside key valid)
    (issues-end scheme_of c admitted laws wanted inside key valid store bytes long message fits (length answers) roomy day answer_day in-season small
    query answer room_for c.servers 0
    (zero-add c.servers) no_marks no_meters [] answers (kept-first scheme_of c wanted key answers) (λ i h. absurd (not-suc-le-zero h))
    (λ i h. none_yet (scheme_of c).sizes.query i))
