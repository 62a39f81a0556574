-- The bytes that a fetch receives, and the bound on them that the catalogue gives (document 01, 'Session'): `Bounded`.
use Rattle.std.specs.Prelude.{◌≡◌, List, [], ◌∷◌, ℕ, ◌+◌, ◌≤◌, ◌<◌, length, Ok, Err}
use Rattle.scheme.specs.Scheme.{Scheme, Valid, honest_answers}
use Rattle.refusal.specs.Verdicts.{Verdict}
use Rattle.catalogue.specs.declared.Catalogue.{Catalogue}
use Rattle.session.specs.Calls.{slots_of, bound}
use Rattle.fetches.specs.Fetches.{Call, issuing, taking, recovering, Fetch, Made, history}

-- the bytes of an answer that was taken
abbrev pub received_by : Call → Verdict → ℕ
received_by (issuing server day query answer_day answer) verdict = 0
received_by (taking server answer) (Ok _) = length answer
received_by (taking server answer) (Err refusal) = 0
received_by (recovering message) verdict = 0

abbrev pub received : List Made → ℕ
received [] = 0
received (made ∷ rest) = received_by made.call made.verdict + received rest

abbrev pub bytes_of : List (List ℕ) → ℕ
bytes_of [] = 0
bytes_of (answer ∷ rest) = length answer + bytes_of rest

-- What the bound query gives, and what it bounds: the answers that any fetch takes, honest or not, and the honest answers of all servers
pub record Bounded (scheme_of : Catalogue → Scheme) (c : Catalogue) : Type 0 where
  pub given : bound scheme_of c ≡ Ok (slots_of scheme_of c)
  pub taken : (f : Fetch) → f.wanted < c.messages → Valid (scheme_of c) f.key → received (history scheme_of c f) ≤ slots_of scheme_of c
  pub honest : (store : List ℕ) → length store ≡ (scheme_of c).sizes.store → (wanted : ℕ) → wanted < c.messages → (key : List ℕ)
      → Valid (scheme_of c) key → bytes_of (honest_answers (scheme_of c) c.servers store wanted key) ≤ slots_of scheme_of c
