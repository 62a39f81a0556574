-- The printer prints the queries that a session issues (`printed-as-issued`): for an input that is accepted, begin is accepted too, and
-- issue to each server, on any day in the catalogue's season, writes the very query that stands on the server's line; the printer itself tests no season
-- (document 02, item 1). Rests on the session's laws of begin and issue, and on the codes: a query fits the meter of a server that was not asked yet.
use mathlib.Core.Path.{◌≡◌, refl, sym, ap, ◌∙◌}
use mathlib.Core.List.{List}
use mathlib.Core.Option.{some}
use Prim.Native.Nat.{ℕ, ◌≤◌, ◌<◌}
use native.Mathlib.Omega.{arith}
use lib.ListN.{length}
use Rattle.lists.specs.Parts.{put}
use Rattle.refusal.specs.Verdicts.{Verdict, accepted}
use Rattle.refusal.proofs.Accepted.{first-accepted}
use Rattle.calendar.specs.declared.Day.{Day}
use Rattle.catalogue.specs.Days.{Served}
use Rattle.codes.specs.Codes.{scheme_of}
use Rattle.session_parts.proofs.Metering.{none-counted}
use Rattle.session.specs.declared.Session.{Session}
use Rattle.session.specs.declared.Handed.{Handed}
use Rattle.session.specs.Fields.{new_session}
use Rattle.session.specs.Calls.{query_of, begin_faults, begin_verdict, begin, issue}
use Rattle.session.proofs.Begin.{Begins, begin-passed, begin-says, begin-done, key-kept, new-sound}
use Rattle.session.proofs.Issue.{issue-accepted, issue-goes}
use Rattle.session.proofs.Promised.{query-fits}
use Rattle.printing.specs.Input.{Asked, input_asks}
use Rattle.printing.specs.Output.{asked_verdict, asked_query, query_lines, print_by, answer_to, output_by, printed}

-- the session that what is asked for begins
abbrev pub begun_by : Asked → Handed
begun_by a = begin scheme_of a.catalogue a.wanted a.key

pub record AsIssued (input : List ℕ) (a : Asked) : Type 0 where
  -- the whole output: a line for each server, with the query that is asked for there
  pub output : printed scheme_of input ≡ query_lines scheme_of a
  pub begun : (begun_by a).verdict ≡ accepted
  -- on every day in season, and into every buffer with room for it, the session writes that query
  pub issued : (day : Day) (server : ℕ) (buffer : List ℕ) → Served a.catalogue day → server < a.catalogue.servers
      → (scheme_of a.catalogue).sizes.query ≤ length buffer
      → ((issue scheme_of (begun_by a).session day server buffer).handed.verdict ≡ accepted)
      × ((issue scheme_of (begun_by a).session day server buffer).buffer ≡ put 0 (asked_query scheme_of a server) buffer)

module _ (a : Asked) (e : begin_verdict scheme_of a.catalogue a.wanted a.key ≡ accepted) where
  b : Begins scheme_of a.catalogue a.wanted a.key
  b = begin-passed scheme_of a.catalogue a.wanted a.key e

  abbrev new : Session
  new = new_session a.catalogue a.wanted a.key

  begun-new : (begun_by a).session ≡ new
  begun-new = ap (λ (h : Handed). h.session) (sym (begin-done scheme_of a.catalogue a.wanted a.key accepted (sym e) refl))

  new-query : (server : ℕ) → query_of scheme_of new server ≡ asked_query scheme_of a server
  new-query server =
      ap ((scheme_of a.catalogue).query a.wanted server) (key-kept scheme_of a.catalogue a.wanted a.key b.valid.long)

  issues : (day : Day) (server : ℕ) (buffer : List ℕ) → Served a.catalogue day → server < a.catalogue.servers
      → (scheme_of a.catalogue).sizes.query ≤ length buffer
      → ((issue scheme_of new day server buffer).handed.verdict ≡ accepted)
      × ((issue scheme_of new day server buffer).buffer ≡ put 0 (asked_query scheme_of a server) buffer)
  issues day server buffer served below roomy =
      let agrees =
      issue-accepted scheme_of new day server (length buffer)
      (record {
        sound = new-sound scheme_of a.catalogue a.wanted a.key b;
        served = served;
        below = below;
        roomy = roomy;
        counts = let w = none-counted server in omega (arith, w, query-fits a.catalogue b.admitted);
      }) in
      let did = (issue-goes scheme_of new day server buffer).done accepted (put 0 (query_of scheme_of new server) buffer) (sym agrees) refl refl in (
        sym (ap (λ (h : Handed). h.verdict) did.handed),
        sym did.buffer ∙ ap (λ (q : List ℕ). put 0 q buffer) (new-query server),
      )

pub printed-as-issued : (input : List ℕ) (a : Asked) → input_asks input ≡ some a → asked_verdict scheme_of a ≡ accepted → AsIssued input a
unfolding printed answer_to asked_verdict begin_verdict
printed-as-issued input a asks agrees =
    let e = (first-accepted (begin_faults scheme_of a.catalogue a.wanted a.key) _ agrees).0 in
    record {
      output = ap (output_by scheme_of) asks ∙ ap (λ (v : Verdict). print_by scheme_of v a) agrees;
      begun = begin-says scheme_of a.catalogue a.wanted a.key ∙ e;
      issued = λ day server buffer served below roomy. rw (begun-new a e) (issues a e day server buffer served below roomy);
    }
