-- How the valid keys reach the queries that a server admits (document 01, 'Short code' and 'Even code'; source 000, (28)). Every admitted query
-- comes from equally many keys, whichever server it is put to and whichever message is wanted: `EqualReach`; or from exactly one: `OneKey`.
use Rattle.std.specs.Prelude.{◌≡◌, true, List, ℕ, ◌<◌}
use Rattle.scheme.specs.Scheme.{Scheme, Valid}

-- a valid key that gives a server a query for the wanted message
pub record Gives (scheme : Scheme) (wanted server : ℕ) (query key : List ℕ) : Type 0 where
  pub valid : Valid scheme key
  pub shown : scheme.query wanted server key ≡ query

module _ (servers messages : ℕ) (scheme : Scheme) where
  -- a wanted message, a server, and a query that it admits
  pub record Aim : Type 0 where
    pub wanted : ℕ
    pub server : ℕ
    pub query : List ℕ
    pub known : wanted < messages
    pub there : server < servers
    pub admitted : scheme.admits server query ≡ true

  abbrev pub GivesAt : Aim → List ℕ → Type 0
  GivesAt a key = Gives scheme a.wanted a.server a.query key

  -- Some key gives each, and `carry a b` takes the keys that give the one to those that give the other, one to one: `carry b a` takes them back
  pub record EqualReach : Type 0 where
    pub reach : Aim → List ℕ
    pub reached : (a : Aim) → GivesAt a (reach a)
    pub carry : Aim → Aim → List ℕ → List ℕ
    pub carried : (a b : Aim) (key : List ℕ) → GivesAt a key → GivesAt b (carry a b key)
    pub carried-back : (a b : Aim) (key : List ℕ) → GivesAt a key → carry b a (carry a b key) ≡ key

  -- exactly one key gives each
  pub record OneKey : Type 0 where
    pub the-key : Aim → List ℕ
    pub gives : (a : Aim) → GivesAt a (the-key a)
    pub only : (a : Aim) (key : List ℕ) → GivesAt a key → key ≡ the-key a
