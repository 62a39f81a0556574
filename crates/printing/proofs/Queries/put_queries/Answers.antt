-- `printing::Queries::put_queries` meets its contract: after so many servers their lines stand side by side. A line has at most 19 bytes and 4 for each
-- byte of its query, and the page has room for N of them.
use mathlib.Core.Path.{◌≡◌, refl, sym, ap, ◌∙◌}
use mathlib.Core.List.{List}
use Prim.Native.Nat.{ℕ, ◌+◌, ◌*◌, ◌≤◌, ◌<◌}
use native.Mathlib.Nat.{suc-mul}
use native.Mathlib.Numerals.{add-one}
use native.Mathlib.Omega.{arith}
use lib.ListN.{length, length-append}
use Rattle.lists.specs.Parts.{put}
use Rattle.lists.proofs.Puts.{put_next, put-nil}
use Rattle.lists.proofs.Cuts.{slot-end}
use Rattle.catalogue.specs.declared.Catalogue.{Catalogue}
use Rattle.catalogue.specs.Catalogue.{Admitted}
use Rattle.codes.specs.Codes.{scheme_of}
use Rattle.session.proofs.Begin.{begin-passed}
use Rattle.printing.specs.Input.{asked}
use Rattle.printing.specs.Output.{page_bytes, query_line, asked_query, query_lines}
use Rattle.printing.proofs.Lines.{lines_to, lines_none, lines_more, lines-all}
use Rattle.printing.proofs.Room.{lines_fit}
use Rattle.printing.proofs.Queries.put_queries.Goals as goal

-- there is room for the next line
next_fits : (c : Catalogue) (size at server : ℕ) → Admitted c → size ≡ (scheme_of c).sizes.query → server < c.servers
    → at ≤ server * (19 + 4 * size) → at + (19 + 4 * size) ≤ page_bytes
next_fits c size at server admitted e below most =
    let all : c.servers * (19 + 4 * size) ≤ page_bytes = rw e (lines_fit c admitted) in
    let next = slot-end server c.servers (19 + 4 * size) below in
    omega arith

pub loop-server-init : goal.loop-server-init
loop-server-init c = let a = c.args in
    let none = lines_none scheme_of (asked a.self.now.catalogue a.self.now.wanted a.self.now.key.now) in
    let l = ap length none in
    record {
      place = omega arith;
      most = omega arith;
      lines = sym (ap (λ (t : List ℕ). put 0 t a.out.now) none ∙ put-nil 0 a.out.now);
      same = refl;
    }

pub put_query-at-requires : goal.put_query-at-requires
put_query-at-requires c = let a = c.args in
    let at = c.loop-server in
    let admitted = (begin-passed scheme_of a.self.now.catalogue a.self.now.wanted a.self.now.key.now c.args.self.now.begun).admitted in
    let fits = next_fits a.self.now.catalogue a.self.now.size c.loop-server.at c.loop-server.server admitted c.args.self.now.sized (omega arith) c.loop-server.invariant.most in
    let same = c.loop-server.invariant.same in
    record {
      server_lt_servers = omega arith;
      size_in_bounds = omega arith;
    }

pub loop-server-preserved : goal.loop-server-preserved
loop-server-preserved c = let a = c.args in
    let at = c.loop-server in
    let put-it = c.put_query-at in
    let ask = asked a.self.now.catalogue a.self.now.wanted a.self.now.key.now in
    let line = query_line c.loop-server.server (asked_query scheme_of ask c.loop-server.server) in
    let more = lines_more scheme_of ask c.loop-server.server in
    let l = ap length more ∙ length-append (lines_to scheme_of ask c.loop-server.server) line in
    let e = c.put_query-at.ensures.value in
    let f = c.put_query-at.ensures.upper_bound in
    let k = c.put_query-at.auto.out in
    let i = c.loop-server.invariant in
    let long = 19 + 4 * a.self.now.size in
    let next : (c.loop-server.server + 1) * long ≡ c.loop-server.server * long + long = rw (add-one) (suc-mul c.loop-server.server long) in
    record {
      place = omega arith;
      most = omega arith;
      lines =
          c.put_query-at.ensures.out_after
          ∙ put_next 0 c.loop-server.at (lines_to scheme_of ask c.loop-server.server) line a.out.now c.loop-server.out (omega arith) (omega arith) i.lines
          ∙ ap (λ (t : List ℕ). put 0 t a.out.now) (sym more);
      same = omega arith;
    }

pub shape_of-out : goal.shape_of-out
shape_of-out c = c.loop-server.invariant.same

pub returns : goal.returns
returns c = let a = c.args in
    let i = c.loop-server.invariant in
    let ask = asked a.self.now.catalogue a.self.now.wanted a.self.now.key.now in
    let e : c.loop-server.server ≡ a.self.now.catalogue.servers = omega arith in
    let all : lines_to scheme_of ask c.loop-server.server ≡ query_lines scheme_of ask = ap (lines_to scheme_of ask) e ∙ lines-all scheme_of ask in
    record {
      value = i.place ∙ ap length all;
      out_after = i.lines ∙ ap (λ (t : List ℕ). put 0 t a.out.now) all;
    }
