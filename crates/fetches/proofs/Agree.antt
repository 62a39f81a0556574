-- Marks and meters that agree with the calls made, as lists: one more issue or take keeps them so (`mark-agrees`, `sent-agrees`, `got-agrees`), and what
-- agrees with some calls is good (`sent-good`, `got-good`).
use mathlib.Core.Path.{◌≡◌, refl, sym, ap, ◌∙◌}
use mathlib.Core.Bool.{Bool, true, false, cond, ◌||◌}
use mathlib.Core.List.{List, [], ◌∷◌}
use Prim.Native.Nat.{ℕ, suc, ◌+◌, ◌*◌, ◌≤◌, ◌<◌}
use native.Mathlib.Nat.{suc-mul, zero-mul}
use native.Mathlib.Omega.{arith}
use borrow.Author.Tests.{eqb-true, eqb-false, eq-eqb}
use lib.Dec.{eqb}
use lib.ListN.{length, set}
use Rattle.lists.specs.Distinct.{stands}
use Rattle.session_parts.specs.Marks.{marked}
use Rattle.session_parts.specs.Meters.{most_bytes, counted, count_more, sent_good, got_good}
use Rattle.session_parts.proofs.Marks.{mark_set, mark-other}
use Rattle.session_parts.proofs.Metering.{count-here, count-other, queries-good}
use Rattle.fetches.specs.Told.{bytes_to}

-- a mark set, and a server more in the list
pub mark-agrees : (marks : List Bool) (servers : List ℕ) (server : ℕ) → ((i : ℕ) → marked marks i ≡ stands i servers)
    → server < length marks → (i : ℕ) → marked (set marks server true) i ≡ stands i (server ∷ servers)
unfolding stands
mark-agrees marks servers server agree inside i = go (eqb i server) refl
  where
    go : (b : Bool) → eqb i server ≡ b → marked (set marks server true) i ≡ (b || stands i servers)
    go true e = rw (eqb-true i server e) (mark_set marks server inside)
    go false e = mark-other marks server i (eqb-false i server e) ∙ agree i

-- so many bytes more at a server
pub sent-agrees : (sent servers : List ℕ) (size server : ℕ) → ((i : ℕ) → counted sent i ≡ bytes_to size i servers) → server < length sent
    → (i : ℕ) → counted (count_more sent server size) i ≡ bytes_to size i (server ∷ servers)
unfolding bytes_to
sent-agrees sent servers size server agree inside i = go (eqb i server) refl
  where
    go : (b : Bool) → eqb i server ≡ b → counted (count_more sent server size) i ≡ cond b size 0 + bytes_to size i servers
    go true e = rw (eqb-true i server e) (count-here sent server size inside ∙ let a = agree server in omega (arith, a))
    go false e = count-other sent server size i (eqb-false i server e) ∙ let a = agree i in omega (arith, a)

-- no meter passes its most
pub still-fits : (sent : List ℕ) (size server : ℕ) → ((i : ℕ) → counted sent i ≤ most_bytes) → server < length sent → counted sent server + size ≤ most_bytes
    → (i : ℕ) → counted (count_more sent server size) i ≤ most_bytes
still-fits sent size server fits inside more i = go (eqb i server) refl
  where
    go : (b : Bool) → eqb i server ≡ b → counted (count_more sent server size) i ≤ most_bytes
    go true e = rw (eqb-true i server e) (let w = count-here sent server size inside in omega (arith, w, more))
    go false e = let w = count-other sent server size i (eqb-false i server e) in omega (arith, w, fits i)

-- one answer, where none was taken
pub got-agrees : (got servers : List ℕ) (size : ℕ → ℕ) (server : ℕ) → ((i : ℕ) → counted got i ≡ cond (stands i servers) (size i) 0) → server < length got
    → stands server servers ≡ false → (i : ℕ) → counted (count_more got server (size server)) i ≡ cond (stands i (server ∷ servers)) (size i) 0
unfolding stands
got-agrees got servers size server agree inside new i = go (eqb i server) refl
  where
    none : counted got server ≡ 0
    none = agree server ∙ ap (λ (b : Bool). cond b (size server) 0) new

    go : (b : Bool) → eqb i server ≡ b → counted (count_more got server (size server)) i ≡ cond (b || stands i servers) (size i) 0
    go true e = rw (eqb-true i server e) (count-here got server (size server) inside ∙ let w = none in omega (arith, w))
    go false e = count-other got server (size server) i (eqb-false i server e) ∙ agree i

-- issues make whole queries: one or more where the server stands among them
whole : (size i : ℕ) (servers : List ℕ) → (count : ℕ) × (bytes_to size i servers ≡ cond (stands i servers) (suc count) 0 * size)
unfolding bytes_to stands
whole size i [] = (0, sym (zero-mul size))
whole size i (server ∷ servers) = go (eqb i server) (stands i servers) (whole size i servers)
  where
    go : (b t : Bool) → (count : ℕ) × (bytes_to size i servers ≡ cond t (suc count) 0 * size)
        → (count : ℕ) × (cond b size 0 + bytes_to size i servers ≡ cond (b || t) (suc count) 0 * size)
    go true true w = (suc w.0, let e = w.1 in omega (arith, e, suc-mul (suc w.0) size))
    go true false w = (0, let e = w.1 in omega (arith, e, zero-mul size, suc-mul 0 size))
    go false t w = (w.0, let e = w.1 in omega (arith, e))

pub sent-good : (size i : ℕ) (servers : List ℕ) → sent_good size (stands i servers) (bytes_to size i servers) ≡ true
sent-good size i servers = go (stands i servers) (whole size i servers)
  where
    go : (t : Bool) → (count : ℕ) × (bytes_to size i servers ≡ cond t (suc count) 0 * size) → sent_good size t (bytes_to size i servers) ≡ true
    go true w = rw w.1 (queries-good size w.0)
    go false w = eq-eqb (bytes_to size i servers) 0 (w.1 ∙ zero-mul size)

pub got-good : (size : ℕ) (t : Bool) → got_good size t (cond t size 0) ≡ true
got-good size true = eq-eqb size size refl
got-good size false = refl
