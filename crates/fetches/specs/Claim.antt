-- The claim on two whole lists of fetches over one catalogue and one store (demand 3; document 01, 'Lists of fetches'; document 02, items 1 and 5): any
-- server is shown the same of both, its meters agree, and in each fetch of both every call does what its history calls for. `Demand3` is the claim, whole.
use Rattle.std.specs.Prelude.{◌≡◌, List, [], map, ℕ, ◌<◌, length, get_or}
use Rattle.lists.specs.Below.{Below}
use Rattle.lists.specs.Sums.{All}
use Rattle.scheme.specs.Scheme.{Scheme, Valid}
use Rattle.scheme.specs.Laws.{Laws}
use Rattle.catalogue.specs.declared.Catalogue.{Catalogue}
use Rattle.catalogue.specs.Catalogue.{Admitted}
use Rattle.fetches.specs.Fetches.{Fetch}
use Rattle.fetches.specs.Shown.{issues_to, shown}
use Rattle.fetches.specs.Metered.{Alongside, MetersAgree}
use Rattle.fetches.specs.Right.{FetchRight}

-- THE CLAIM on the lists fs and gs: server n is shown the same of both, if they make the same issues to it, on the same days, refused ones included (their
-- issues to other servers may differ); its two meters agree, fetch by fetch, where the calls that name it are the same in kind, order, days and all lengths
-- lent (02, item 5; other calls may differ); and each fetch of both is right
pub record Claim (scheme_of : Catalogue → Scheme) (c : Catalogue) (store : List ℕ) (n : ℕ) (fs gs : List Fetch) : Type 0 where
  pub alike : issues_to n fs ≡ issues_to n gs → shown scheme_of c store n fs ≡ shown scheme_of c store n gs
  pub metered : Alongside (MetersAgree scheme_of c n) fs gs
  pub first : All (FetchRight scheme_of c store) fs
  pub second : All (FetchRight scheme_of c store) gs

-- Lists of valid keys, one for each of `count` fetches
pub record KeyList (scheme : Scheme) (count : ℕ) (keys : List (List ℕ)) : Type 0 where
  pub one_each : length keys ≡ count
  pub valid : (i : ℕ) → i < length keys → Valid scheme (get_or keys i [])

-- For a catalogue, a server and two lists of messages: a one-to-one exchange of the lists of valid keys, and the claim of any fetches with these
-- messages, with any keys for the first list and the exchanged ones for the second
pub record Exchange (scheme_of : Catalogue → Scheme) (c : Catalogue) (n : ℕ) (ps qs : List ℕ) : Type 0 where
  pub swap : List (List ℕ) → List (List ℕ)
  pub back : List (List ℕ) → List (List ℕ)
  pub swap-valid : (keys : List (List ℕ)) → KeyList (scheme_of c) (length ps) keys → KeyList (scheme_of c) (length qs) (swap keys)
  pub back-valid : (keys : List (List ℕ)) → KeyList (scheme_of c) (length qs) keys → KeyList (scheme_of c) (length ps) (back keys)
  pub back-swap : (keys : List (List ℕ)) → KeyList (scheme_of c) (length ps) keys → back (swap keys) ≡ keys
  pub swap-back : (keys : List (List ℕ)) → KeyList (scheme_of c) (length qs) keys → swap (back keys) ≡ keys
  pub claim : (keys : List (List ℕ)) → KeyList (scheme_of c) (length ps) keys → (store : List ℕ) → Below 256 store → (fs gs : List Fetch)
      → map (λ (f : Fetch). f.wanted) fs ≡ ps → map (λ (f : Fetch). f.key) fs ≡ keys
      → map (λ (f : Fetch). f.wanted) gs ≡ qs → map (λ (f : Fetch). f.key) gs ≡ swap keys → Claim scheme_of c store n fs gs

-- Demand 3, whole; an admitted catalogue has two messages or more (02, item 9)
abbrev pub Demand3 : (Catalogue → Scheme) → Type 0
Demand3 scheme_of =
    (c : Catalogue) → Admitted c → (n : ℕ) → n < c.servers → (ps qs : List ℕ) → length ps ≡ length qs → Below c.messages ps
    → Below c.messages qs → Exchange scheme_of c n ps qs

-- The code of each admitted catalogue keeps its promises
abbrev pub Promises : (Catalogue → Scheme) → Type 0
Promises scheme_of = (c : Catalogue) → Admitted c → Laws c.servers c.messages (scheme_of c)
