-- `session::Session::issue` meets its contract: it goes by its verdict.
use native.Mathlib.Omega.{arith}
use mathlib.Core.Path.{refl, sym, ◌∙◌}
use Prim.Native.Nat.{◌+◌, ◌≤◌}
use lib.ListN.{length}
use Rattle.codes.specs.Codes.{scheme_of}
use Rattle.session_parts.specs.Meters.{most_bytes, counted}
use Rattle.session.proofs.Issue.{issue-passed, issue-goes}
use Rattle.session_checks.proofs.Keys.{sizes-small}
use Rattle.session.proofs.Places.{key-places}
use Rattle.session.proofs.Session.issue.Goals as goal

pub returns-in-Err : goal.returns-in-Err
returns-in-Err c = let args = c.args in
    let v = c.issue_verdict-verdict in
    (issue-goes scheme_of args.self args.today args.server args.query.now).refused c.issue_verdict-verdict.result _ c.issue_verdict-verdict.ensures c.in-Err.is

pub write_query-bytes-requires : goal.write_query-bytes-requires
write_query-bytes-requires c = let args = c.args in
    let v = c.issue_verdict-verdict in
    let i = issue-passed scheme_of args.self args.today args.server (length args.query.now) (sym c.issue_verdict-verdict.ensures ∙ c.in_default.is) in
    record {
      admitted = i.sound.admitted;
      places_len = key-places args.self _ c.well_formed.0;
      wanted_lt_messages = (i.sound.inside, i.below);
      places_value = i.sound.good;
      c_in_bounds = i.roomy;
    }

pub mark_issued-requires : goal.mark_issued-requires
mark_issued-requires c = let args = c.args in
    let v = c.issue_verdict-verdict in
    let i = issue-passed scheme_of args.self args.today args.server (length args.query.now) (sym c.issue_verdict-verdict.ensures ∙ c.in_default.is) in
    let counts : counted args.self.meters.sent args.server + c.write_query-bytes.result ≤ most_bytes =
    rw c.write_query-bytes.ensures.value i.counts in
    record {
      server_bound = omega (arith, i.below, (sizes-small args.self.catalogue (scheme_of args.self.catalogue).sizes i.sound.admitted refl).servers);
      bytes_bound = counts;
    }

pub returns : goal.returns
returns c = let args = c.args in
    let v = c.issue_verdict-verdict in
    rw (c.mark_issued.ensures, c.write_query-bytes.ensures.value)
    ((issue-goes scheme_of args.self args.today args.server args.query.now).done c.issue_verdict-verdict.result _ c.issue_verdict-verdict.ensures c.in_default.is
    c.write_query-bytes.ensures.query_after)
