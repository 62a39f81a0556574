-- What issue and take say in a fetch, by the calls made before them (document 01, 'Session' and numbers 3, 9, 10, 11; document 02, items 1 and 5): an issue
-- is refused for its day, its server, its room, or the bytes that were issued to its server before, alone, and writes the same query each time and nothing
-- else; a take comes after an issue, and once, on any day.
use Rattle.std.specs.Prelude.{◌≡◌, not, cond, List, [], ◌∷◌, ℕ, ◌+◌, leb, ltb, eqb, length}
use Rattle.lists.specs.Distinct.{stands}
use Rattle.lists.specs.Parts.{put}
use Rattle.refusal.specs.Verdicts.{Verdict, accepted}
use Rattle.refusal.specs.Chain.{refuse_if, and_then}
use Rattle.scheme.specs.Scheme.{Scheme}
use Rattle.calendar.specs.declared.Day.{Day}
use Rattle.catalogue.specs.declared.Catalogue.{Catalogue}
use Rattle.catalogue.specs.Days.{day_verdict}
use Rattle.session_parts.specs.Meters.{most_bytes}
use Rattle.session.specs.Calls.{slots_of}
use Rattle.fetches.specs.Fetches.{issuing, taking, Made}
use Rattle.fetches.specs.Past.{Past}

-- the bytes of the queries that were issued to server n, of `size` bytes each: the issues are listed by their servers
unfoldable pub bytes_to : ℕ → ℕ → List ℕ → ℕ
bytes_to size n [] = 0
bytes_to size n (server ∷ servers) = cond (eqb n server) size 0 + bytes_to size n servers

module _ (scheme_of : Catalogue → Scheme) (c : Catalogue) where
  -- an issue on a day, 13 or 14 where the catalogue is not served then, into a buffer of `size` bytes, where so many were issued to the server before
  abbrev pub issue_says : ℕ → Day → ℕ → ℕ → Verdict
  issue_says before day server size =
      and_then (day_verdict c day)
      (refuse_if (leb c.servers server) 3
      (refuse_if (ltb size (scheme_of c).sizes.query) 9
      (refuse_if (ltb most_bytes (before + (scheme_of c).sizes.query)) 16
      accepted)))

  abbrev pub sent_to : Past → ℕ → ℕ
  sent_to past server = bytes_to (scheme_of c).sizes.query server past.issued

  module _ (wanted : ℕ) (key : List ℕ) (room : ℕ) where
    -- a take of an answer of `size` bytes, with an answer buffer of `room` bytes
    abbrev pub take_says : Past → ℕ → ℕ → Verdict
    take_says past server size =
        refuse_if (leb c.servers server) 3
        (refuse_if (ltb room (slots_of scheme_of c)) 9
        (refuse_if (not (eqb size ((scheme_of c).answer_length ((scheme_of c).query wanted server key)))) 10
        (refuse_if (not (stands server past.issued)) 11
        (refuse_if (stands server past.taken) 11
        accepted))))

    pub record Told (past : Past) (made : Made) : Type 0 where
      pub issues : (server : ℕ) (day answer_day : Day) (query answer : List ℕ) → made.call ≡ issuing server day query answer_day answer
          → made.verdict ≡ issue_says (sent_to past server) day server (length query)
      pub queries : (server : ℕ) (day answer_day : Day) (query answer : List ℕ) → made.call ≡ issuing server day query answer_day answer
          → made.verdict ≡ accepted → made.left ≡ put 0 ((scheme_of c).query wanted server key) query
      pub takes : (server : ℕ) (answer : List ℕ) → made.call ≡ taking server answer → made.verdict ≡ take_says past server (length answer)
