-- The verdicts of set-up and access as chains of checks (`set-up-chain`, `access-chain`), as the code asks them (`not_taken`, `taken`, `access-own`); what
-- an accepted one says (`set-up-passed`, `access-passed`), and that this is all (`access-accepted`).
use mathlib.Core.Path.{◌≡◌, refl, sym, ap, ◌∙◌}
use mathlib.Core.Bool.{Bool, true, false, true≢false, not, cond, ◌&&◌}
use Prim.Native.Nat.{ℕ, ◌≤◌, ◌<◌}
use lib.Dec.{leb, ltb, eqb}
use borrow.Author.Tests.{leb-true, leb-false, ltb-false, le-ltb, eqb-true, eq-eqb, not-false}
use Rattle.lists.proofs.Both.{both_true}
use Rattle.refusal.specs.Verdicts.{Verdict, accepted}
use Rattle.refusal.specs.Chain.{refused, refuse_if, and_then, chain}
use Rattle.refusal.proofs.Chain.{chain-append}
use Rattle.refusal.proofs.Foremost.{foremost-chain}
use Rattle.refusal.proofs.Accepted.{accepted-none, none-accepted}
use Rattle.calendar.specs.Calendar.{undated}
use Rattle.parameters.specs.declared.Sizes.{Sizes}
use Rattle.parameters.specs.Bounds.{short_fits}
use Rattle.parameters.specs.Measures.{short_sizes}
use Rattle.symbol.specs.declared.Operation.{Operation}
use Rattle.symbol.specs.declared.Operation.TheVariants.{ExclusiveOr, Addition}
use Rattle.catalogue.specs.declared.Code.{Code}
use Rattle.catalogue.specs.declared.Code.TheVariants.{Short, Even, Turn, Round}
use Rattle.catalogue.specs.declared.Catalogue.{Catalogue}
use Rattle.catalogue.specs.Catalogue.{in_bounds, whole_words, catalogue_verdict, Admitted}
use Rattle.catalogue.proofs.Faults.{catalogue-chain}
use Rattle.codes.specs.Codes.{scheme_of}
use Rattle.codes.proofs.Promises.{admitted-short, scheme-short}
use Rattle.answer_unit.specs.declared.AnswerUnit.{AnswerUnit}
use Rattle.answer_unit.specs.Registers.{is_short, is_exclusive, unit_takes, set_up_faults, set_up_verdict, held_faults, access_faults, access_verdict}

is-short : (code : Code) → is_short code ≡ true → code ≡ Short
is-short Short e = refl
is-short Even e = absurd (true≢false (sym e))
is-short Turn e = absurd (true≢false (sym e))
is-short Round e = absurd (true≢false (sym e))

is-exclusive : (sum : Operation) → is_exclusive sum ≡ true → sum ≡ ExclusiveOr
is-exclusive ExclusiveOr e = refl
is-exclusive Addition e = absurd (true≢false (sym e))

-- what the unit takes
pub record Taken (c : Catalogue) : Type 0 where
  pub short : c.code ≡ Short
  pub exclusive : c.sum ≡ ExclusiveOr
  pub no-dates : undated c.opening c.closing ≡ true
  pub small : c.symbol ≤ 64

pub unit-takes : (c : Catalogue) → unit_takes c ≡ true → Taken c
unfolding unit_takes
unit-takes c e =
    let p = both_true (is_short c.code) _ e in
    let q = both_true (is_exclusive c.sum) _ p.1 in
    let r = both_true (undated c.opening c.closing) (leb c.symbol 64) q.1 in
    record {
      short = is-short c.code p.0;
      exclusive = is-exclusive c.sum q.0;
      no-dates = r.0;
      small = leb-true c.symbol 64 r.1;
    }

takes_whole : (c : Catalogue) → unit_takes c ≡ true → whole_words c.sum c.symbol ≡ true
takes_whole c e = rw (unit-takes c e).exclusive

module _ (c : Catalogue) (server : ℕ) where
  pub set-up-chain : set_up_verdict c server
      ≡ refuse_if (not (unit_takes c && in_bounds c)) 2 (refuse_if (eqb c.messages 1) 17 (refuse_if (leb c.servers server) 3 accepted))
  unfolding set_up_verdict
  set-up-chain = foremost-chain (set_up_faults c server) refl

  pub not_taken : unit_takes c ≡ false → refused 2 ≡ set_up_verdict c server
  not_taken e = rw (set-up-chain, e)

  -- v is the verdict on the catalogue, r that on the set-up
  pub taken : unit_takes c ≡ true → (v r : Verdict) → v ≡ catalogue_verdict c → r ≡ and_then v (refuse_if (leb c.servers server) 3 accepted)
      → r ≡ set_up_verdict c server
  taken e v r ev er =
      er ∙ ap (λ (w : Verdict). and_then w (refuse_if (leb c.servers server) 3 accepted)) (ev ∙ own) ∙ joined (in_bounds c) (eqb c.messages 1)
      ∙ sym (set-up-chain ∙ rw e)
    where
      own : catalogue_verdict c ≡ refuse_if (not (in_bounds c)) 2 (refuse_if (eqb c.messages 1) 17 accepted)
      own = catalogue-chain c ∙ rw (takes_whole c e)

      joined : (within one : Bool)
          → and_then (refuse_if (not within) 2 (refuse_if one 17 accepted)) (refuse_if (leb c.servers server) 3 accepted)
          ≡ refuse_if (not within) 2 (refuse_if one 17 (refuse_if (leb c.servers server) 3 accepted))
      joined false one = refl
      joined true true = refl
      joined true false = refl

  -- what an accepted set-up says
  pub record SetUp : Type 0 where
    pub takes : unit_takes c ≡ true
    pub admitted : Admitted c
    pub below : server < c.servers

  pub set-up-passed : set_up_verdict c server ≡ accepted → SetUp
  unfolding set_up_verdict
  set-up-passed e =
      let n = accepted-none (set_up_faults c server) e in
      let p = both_true (unit_takes c) (in_bounds c) (not-false _ n.0) in
      record {
        takes = p.0;
        admitted = catalogue-chain c ∙ rw (p.1, n.1.0, takes_whole c p.0);
        below = leb-false c.servers server n.1.1.0;
      }

  module _ (s : SetUp) where
    is-short-code : c.code ≡ Short
    is-short-code = (unit-takes c s.takes).short

    pub short-fits : short_fits c.servers c.messages c.symbol ≡ true
    short-fits = admitted-short c s.admitted is-short-code

    short-store : (short_sizes c.servers c.messages c.symbol).store ≡ (scheme_of c).sizes.store
    short-store = rw (scheme-short c is-short-code)

module _ (u : AnswerUnit) (register stored : ℕ) where
  pub access-chain : access_verdict u register stored
      ≡ refuse_if (ltb 5 register) 18 (and_then (set_up_verdict u.catalogue u.server)
      (refuse_if (not (eqb stored (scheme_of u.catalogue).sizes.store)) 8
      (refuse_if (ltb 32 u.held) 11 (refuse_if (ltb u.catalogue.symbol u.waiting) 11 accepted))))
  unfolding access_verdict set_up_verdict
  access-chain =
      let faults = set_up_faults u.catalogue u.server in
      foremost-chain (access_faults u register stored) refl
      ∙ ap (λ (v : Verdict). cond (ltb 5 register) (refused 18) v)
      (chain-append faults (held_faults u stored) ∙ ap (λ (v : Verdict). and_then v (chain (held_faults u stored))) (sym (foremost-chain faults refl)))

  -- the links behind the set-up, as the code asks them: by the sizes of the short code
  pub access-own : register ≤ 5 → set_up_verdict u.catalogue u.server ≡ accepted → (sizes : Sizes)
      → sizes ≡ short_sizes u.catalogue.servers u.catalogue.messages u.catalogue.symbol
      → access_verdict u register stored
      ≡ refuse_if (not (eqb stored sizes.store)) 8 (refuse_if (ltb 32 u.held) 11 (refuse_if (ltb u.catalogue.symbol u.waiting) 11 accepted))
  access-own known agrees sizes e =
      access-chain
      ∙ rw (
        le-ltb 5 register known,
        agrees,
        sym (short-store u.catalogue u.server (set-up-passed u.catalogue u.server agrees)),
        e,
      )

  -- what an accepted access says
  pub record Accesses : Type 0 where
    pub known : register ≤ 5
    pub set-up : set_up_verdict u.catalogue u.server ≡ accepted
    pub store_long : stored ≡ (scheme_of u.catalogue).sizes.store
    pub held_fits : u.held ≤ 32
    pub waiting-fits : u.waiting ≤ u.catalogue.symbol

  pub access-passed : access_verdict u register stored ≡ accepted → Accesses
  unfolding access_verdict set_up_verdict
  access-passed e =
      let n = accepted-none (access_faults u register stored) e in
      let o = n.1.1.1.1 in
      record {
        known = ltb-false 5 register n.0;
        set-up = none-accepted (set_up_faults u.catalogue u.server) (n.1.0, (n.1.1.0, (n.1.1.1.0, tt)));
        store_long = eqb-true stored (scheme_of u.catalogue).sizes.store (not-false _ o.0);
        held_fits = ltb-false 32 u.held o.1.0;
        waiting-fits = ltb-false u.catalogue.symbol u.waiting o.1.1.0;
      }

  pub access-accepted : Accesses → access_verdict u register stored ≡ accepted
  access-accepted a =
      access-chain
      ∙ rw (
        le-ltb 5 register a.known,
        a.set-up,
        eq-eqb stored (scheme_of u.catalogue).sizes.store a.store_long,
        le-ltb 32 u.held a.held_fits,
        le-ltb u.catalogue.symbol u.waiting a.waiting-fits,
      )
