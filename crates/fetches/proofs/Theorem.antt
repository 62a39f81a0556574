-- Demand 3, from what the codes promise (`demand3`): of two lists of fetches with exchanged keys that make the same issues to a server it is shown the
-- same, since it is asked the same queries, and its meters agree; and each fetch is right. It rests on `view`, `tallied`, `all_told`, `verdicts`, `messages`.
use mathlib.Core.Path.{◌≡◌, refl, sym, ap, ap₂, ◌∙◌}
use mathlib.Core.Bool.{true}
use mathlib.Core.List.{List, [], ◌∷◌, map}
use Prim.Native.Nat.{ℕ, ◌<◌}
use native.Mathlib.Nat.{add-zero}
use native.Mathlib.Omega.{arith}
use lib.Dec.{eqb}
use lib.ListN.{length, length-map}
use Rattle.lists.specs.Below.{Below}
use Rattle.lists.specs.Sums.{All, all_nil, all_cons}
use Rattle.lists.specs.Distinct.{stands}
use Rattle.lists.specs.Sums.{keep}
use Rattle.scheme.specs.Scheme.{Scheme, Valid}
use Rattle.scheme.specs.Laws.{Laws}
use Rattle.refusal.specs.Verdicts.{accepted}
use Rattle.catalogue.specs.declared.Catalogue.{Catalogue}
use Rattle.catalogue.specs.Catalogue.{Admitted}
use Rattle.session_parts.specs.Marks.{no_marks}
use Rattle.session_parts.specs.Meters.{no_meters}
use Rattle.session.specs.Fields.{new_session}
use Rattle.session.specs.Calls.{begin}
use Rattle.session_parts.proofs.Marks.{none-marked, marks-none}
use Rattle.session_parts.proofs.Metering.{none-long, none-counted}
use Rattle.session.proofs.Begin.{begin-accepted, begin-by}
use Rattle.fetches.specs.Fetches.{Fetch, start, ended, history}
use Rattle.fetches.specs.Shown.{Issue, issues, issues_to, shown_to, shown}
use Rattle.fetches.specs.Past.{nothing}
use Rattle.fetches.specs.Told.{bytes_to}
use Rattle.fetches.specs.Metered.{meters_at, named, Alongside, no-pair, pair, Metered, MetersAgree}
use Rattle.fetches.specs.Right.{FetchRight}
use Rattle.fetches.specs.Claim.{KeyList, Exchange, Demand3, Promises}
use Rattle.fetches.proofs.Kept.{Kept, Held}
use Rattle.fetches.proofs.Told.{all_told}
use Rattle.fetches.proofs.Seen.{seen_of, seen-named}
use Rattle.fetches.proofs.View.{view}
use Rattle.fetches.proofs.Metered.{runs}
use Rattle.fetches.proofs.Tallied.{none, meters_by, tallied}
use Rattle.fetches.proofs.Recovery.{verdicts, messages}
use Rattle.fetches.proofs.Throughout.{all-unchanged, all-answers-left}
use Rattle.fetches.proofs.Exchange.{exchanges, first_key, other_keys, below_rest, exchanges-valid, exchanges-back}

-- no server is taken at first
none-taken : {A : Type 0} (i : ℕ) → stands i [] ≡ true → A
unfolding stands
none-taken i e = let z : ◌≡◌ {A = ℕ} 0 1 = cc in absurd (let w : ⊥ = omega arith in w)

pub kept-first : (scheme_of : Catalogue → Scheme) (c : Catalogue) (wanted : ℕ) (key answers : List ℕ)
    → Kept scheme_of c wanted key (length answers) nothing no_marks no_marks no_meters answers
unfolding stands bytes_to
kept-first scheme_of c wanted key answers = record {
  marks = marks-none c.servers;
  sent-long = none-long;
  got-long = none-long;
  room-kept = refl;
  agree-issued = λ i. none-marked i;
  agree = λ i. none-marked i;
  agree-sent = λ i. none-counted i;
  agree-got = λ i. none-counted i;
  sent-fits = λ i. let w = none-counted i in omega (arith, w);
  roomy = λ i e. none-taken i e;
}

pub held_first : (scheme_of : Catalogue → Scheme) (c : Catalogue) (store : List ℕ) (wanted : ℕ) (key answers : List ℕ)
    → Held scheme_of c store wanted key nothing answers
held_first scheme_of c store wanted key answers i h e = none-taken i e

module _ (scheme_of : Catalogue → Scheme) (c : Catalogue) (admitted : Admitted c) (laws : Laws c.servers c.messages (scheme_of c)) where
  -- one fetch
  pub begun : (wanted : ℕ) → wanted < c.messages → (key : List ℕ) → Valid (scheme_of c) key
      → begin scheme_of c wanted key ≡ record { verdict = accepted; session = new_session c wanted key }
  begun wanted inside key valid =
      begin-by scheme_of c wanted key accepted
      (sym (begin-accepted scheme_of c wanted key (record { admitted = admitted; inside = inside; valid = valid })))

  pub fetch-shown : (store : List ℕ) (n : ℕ) → n < c.servers → (f : Fetch) → f.wanted < c.messages → Valid (scheme_of c) f.key
      → shown_to scheme_of c store n (history scheme_of c f) ≡ seen_of scheme_of c store n ((scheme_of c).query f.wanted n f.key) 0 (issues f.calls)
  unfolding bytes_to
  fetch-shown store n below f inside valid =
      rw (begun f.wanted inside f.key valid)
      (view scheme_of c admitted laws f.wanted inside f.key valid store n below f.calls (length f.answers) nothing no_marks no_marks no_meters
      f.answers (kept-first scheme_of c f.wanted f.key f.answers))

  pub fetch-metered : (n : ℕ) (f : Fetch) → f.wanted < c.messages → Valid (scheme_of c) f.key → Metered scheme_of c f n
  unfolding bytes_to stands
  fetch-metered n f inside valid =
      let r = runs scheme_of c admitted laws f.wanted inside f.key valid n f.calls (length f.answers) nothing no_marks no_marks no_meters f.answers
      (kept-first scheme_of c f.wanted f.key f.answers) in
      record {
        sums = rw (begun f.wanted inside f.key valid)
            (ap₂ (λ (a b : ℕ). record { sent = a; got = b }) (r.sums-sent ∙ add-zero _) (r.sums-got ∙ add-zero _));
        sent-fits = rw (begun f.wanted inside f.key valid) (omega (arith, r.fits));
      }

  -- the meters of a server are a function of the bytes of its answer, and of the calls that name it
  pub fetch-meters : (n : ℕ) → n < c.servers → (f : Fetch) → f.wanted < c.messages → Valid (scheme_of c) f.key
      → meters_at n (ended scheme_of (start scheme_of c f) f.calls)
      ≡ meters_by scheme_of c ((scheme_of c).answer_length ((scheme_of c).query f.wanted n f.key)) none (named n (length f.answers) f.calls)
  unfolding bytes_to stands
  fetch-meters n below f inside valid =
      rw (begun f.wanted inside f.key valid)
      (tallied scheme_of c admitted laws f.wanted inside f.key valid n below f.calls (length f.answers) nothing no_marks no_marks no_meters
      f.answers (kept-first scheme_of c f.wanted f.key f.answers))

  pub fetch-right : (store : List ℕ) → Below 256 store → (f : Fetch) → f.wanted < c.messages → Valid (scheme_of c) f.key → FetchRight scheme_of c store f
  fetch-right store bytes f inside valid = record {
    begun = rw (begun f.wanted inside f.key valid);
    refusals = all-unchanged scheme_of f.calls nothing _;
    told = rw (begun f.wanted inside f.key valid)
        (all_told scheme_of c admitted laws f.wanted inside f.key valid f.calls (length f.answers) nothing no_marks no_marks no_meters f.answers
        (kept-first scheme_of c f.wanted f.key f.answers));
    answers-left = all-answers-left scheme_of c laws store f.calls nothing _;
    metered = λ n. fetch-metered n f inside valid;
    verdicts = rw (begun f.wanted inside f.key valid)
        (verdicts scheme_of c admitted laws f.wanted inside f.key valid f.calls (length f.answers) nothing no_marks no_marks no_meters f.answers
        (kept-first scheme_of c f.wanted f.key f.answers));
    messages = rw (begun f.wanted inside f.key valid)
        (messages scheme_of c admitted laws f.wanted inside f.key valid store bytes f.calls (length f.answers) nothing no_marks no_marks no_meters
        f.answers (kept-first scheme_of c f.wanted f.key f.answers) (held_first scheme_of c store f.wanted f.key f.answers));
  }

  -- lists of fetches
  abbrev wanted_of : List Fetch → List ℕ
  wanted_of fs = map (λ (f : Fetch). f.wanted) fs

  abbrev keys_of : List Fetch → List (List ℕ)
  keys_of fs = map (λ (f : Fetch). f.key) fs

  abbrev Keyed : List Fetch → Type 0
  Keyed fs = KeyList (scheme_of c) (length (wanted_of fs)) (keys_of fs)

  all_right : (store : List ℕ) → Below 256 store → (fs : List Fetch) → Below c.messages (wanted_of fs) → Keyed fs → All (FetchRight scheme_of c store) fs
  all_right store bytes [] u k = all_nil
  all_right store bytes (f ∷ fs) u k =
      all_cons (fetch-right store bytes f (u 0 (omega arith)) (first_key (scheme_of c) (length (wanted_of fs)) f.key (keys_of fs) k))
      (all_right store bytes fs (below_rest c.messages f.wanted (wanted_of fs) u) (other_keys (scheme_of c) (length (wanted_of fs)) f.key (keys_of fs) k))

  all_alike : (store : List ℕ) (n : ℕ) → n < c.servers → (fs gs : List Fetch) → Below c.messages (wanted_of fs) → Below c.messages (wanted_of gs)
      → Keyed fs → Keyed gs → keys_of gs ≡ exchanges (laws.exchange n) (wanted_of fs) (wanted_of gs) (keys_of fs)
      → issues_to n fs ≡ issues_to n gs → shown scheme_of c store n fs ≡ shown scheme_of c store n gs
  all_alike store n below [] [] u v k l e i = refl
  all_alike store n below [] (g ∷ gs) u v k l e i = cc
  all_alike store n below (f ∷ fs) [] u v k l e i = cc
  all_alike store n below (f ∷ fs) (g ∷ gs) u v k l e i =
      let rest : shown scheme_of c store n fs ≡ shown scheme_of c store n gs = all_alike store n below fs gs
      (below_rest c.messages f.wanted (wanted_of fs) u) (below_rest c.messages g.wanted (wanted_of gs) v)
      (other_keys (scheme_of c) (length (wanted_of fs)) f.key (keys_of fs) k)
      (other_keys (scheme_of c) (length (wanted_of gs)) g.key (keys_of gs) l) (cc) (cc) in
      let p : f.wanted < c.messages = u 0 (omega arith) in
      let q : g.wanted < c.messages = v 0 (omega arith) in
      let vf = first_key (scheme_of c) (length (wanted_of fs)) f.key (keys_of fs) k in
      let vg = first_key (scheme_of c) (length (wanted_of gs)) g.key (keys_of gs) l in
      let a = fetch-shown store n below f p vf in
      let b = fetch-shown store n below g q vg in
      let x : g.key ≡ laws.exchange n f.wanted g.wanted f.key = cc in
      let y : keep (λ (i : Issue). eqb i.server n) (issues f.calls) ≡ keep (λ (i : Issue). eqb i.server n) (issues g.calls) = cc in
      let s = seen-named scheme_of c store n ((scheme_of c).query f.wanted n f.key) 0 (issues f.calls) in
      let t = seen-named scheme_of c store n ((scheme_of c).query g.wanted n g.key) 0 (issues g.calls) in
      let z = laws.exchange-shown n f.wanted g.wanted f.key below p q vf in
      let d : shown_to scheme_of c store n (history scheme_of c f) ≡ shown_to scheme_of c store n (history scheme_of c g) = cc in
      cc

  all-metered : (n : ℕ) → n < c.servers → (fs gs : List Fetch) → Below c.messages (wanted_of fs) → Below c.messages (wanted_of gs)
      → Keyed fs → Keyed gs → keys_of gs ≡ exchanges (laws.exchange n) (wanted_of fs) (wanted_of gs) (keys_of fs)
      → length fs ≡ length gs → Alongside (MetersAgree scheme_of c n) fs gs
  all-metered n below [] [] u v k l e same = no-pair
  all-metered n below [] (g ∷ gs) u v k l e same = absurd (let w : ⊥ = omega arith in w)
  all-metered n below (f ∷ fs) [] u v k l e same = absurd (let w : ⊥ = omega arith in w)
  all-metered n below (f ∷ fs) (g ∷ gs) u v k l e same =
      let p : f.wanted < c.messages = u 0 (omega arith) in
      let q : g.wanted < c.messages = v 0 (omega arith) in
      let vf = first_key (scheme_of c) (length (wanted_of fs)) f.key (keys_of fs) k in
      let vg = first_key (scheme_of c) (length (wanted_of gs)) g.key (keys_of gs) l in
      let a = fetch-meters n below f p vf in
      let b = fetch-meters n below g q vg in
      let x : g.key ≡ laws.exchange n f.wanted g.wanted f.key = cc in
      let z = laws.exchange-shown n f.wanted g.wanted f.key below p q vf in
      pair (λ y.
      let y' : named n (length f.answers) f.calls ≡ named n (length g.answers) g.calls = y in
      let d : meters_at n (ended scheme_of (start scheme_of c f) f.calls) ≡ meters_at n (ended scheme_of (start scheme_of c g) g.calls) = cc in
      d)
      (all-metered n below fs gs
      (below_rest c.messages f.wanted (wanted_of fs) u) (below_rest c.messages g.wanted (wanted_of gs) v)
      (other_keys (scheme_of c) (length (wanted_of fs)) f.key (keys_of fs) k)
      (other_keys (scheme_of c) (length (wanted_of gs)) g.key (keys_of gs) l) (cc) (omega arith))

  exchange : (n : ℕ) → n < c.servers → (ps qs : List ℕ) → length ps ≡ length qs → Below c.messages ps → Below c.messages qs
      → Exchange scheme_of c n ps qs
  exchange n below ps qs e u v = record {
    swap = exchanges (laws.exchange n) ps qs;
    back = exchanges (laws.exchange n) qs ps;
    swap-valid = exchanges-valid c.servers c.messages (scheme_of c) laws n below ps qs e u v;
    back-valid = exchanges-valid c.servers c.messages (scheme_of c) laws n below qs ps (sym e) v u;
    back-swap = exchanges-back c.servers c.messages (scheme_of c) laws n below ps qs e u v;
    swap-back = exchanges-back c.servers c.messages (scheme_of c) laws n below qs ps (sym e) v u;
    claim = λ keys k store bytes fs gs wf kf wg kg.
        let u' : Below c.messages (wanted_of fs) = rw wf u in
        let v' : Below c.messages (wanted_of gs) = rw wg v in
        let k' : Keyed fs = rw (wf, kf) k in
        let l' : Keyed gs = rw (wg, kg) (exchanges-valid c.servers c.messages (scheme_of c) laws n below ps qs e u v keys k) in
        let x : keys_of gs ≡ exchanges (laws.exchange n) (wanted_of fs) (wanted_of gs) (keys_of fs) = rw (wf, wg, kf) kg in
        let same : length fs ≡ length gs =
        sym (length-map fs (λ (f : Fetch). f.wanted)) ∙ ap length wf ∙ e ∙ sym (ap length wg) ∙ length-map gs (λ (f : Fetch). f.wanted) in
        record {
          alike = all_alike store n below fs gs u' v' k' l' x;
          metered = all-metered n below fs gs u' v' k' l' x same;
          first = all_right store bytes fs u' k';
          second = all_right store bytes gs v' l';
        };
  }

pub demand3 : (scheme_of : Catalogue → Scheme) → Promises scheme_of → Demand3 scheme_of
demand3 scheme_of promises c admitted = exchange scheme_of c admitted (promises c admitted)
