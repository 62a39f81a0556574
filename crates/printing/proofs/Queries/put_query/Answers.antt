-- `printing::Queries::put_query` meets its contract: the code fills the part that is lent with the query, whose line is then written.
use mathlib.Core.Path.{◌≡◌, sym, ap, ◌∙◌}
use mathlib.Core.List.{List, ◌++◌}
use Prim.Native.Nat.{ℕ, ◌+◌, ◌≤◌}
use native.Mathlib.Omega.{arith}
use lib.ListN.{length, take, drop, length-append}
use lib.Seq.{length-take-le, take_at}
use Rattle.lists.specs.Parts.{put}
use Rattle.catalogue.proofs.Admitted.{admitted-numbers}
use Rattle.codes.specs.Codes.{scheme_of}
use Rattle.codes.proofs.Promises.{promises}
use Rattle.session.proofs.Begin.{Begins, begin-passed}
use Rattle.printing.specs.Output.{query_line}
use Rattle.lists.proofs.Puts.{put_whole}
use Rattle.printing.proofs.Room.{places-many, query-fits}
use Rattle.printing.proofs.Queries.put_query.Goals as goal
use Rattle.printing.proofs.Queries.put_query.Goals.{After-zeros-query}

-- what is known of the query, and of the part of the blank places that is lent for it
module _ (c : After-zeros-query) where
  abbrev query : List ℕ
  query = (scheme_of c.args.self.now.catalogue).query c.args.self.now.wanted c.args.server c.args.self.now.key.now

  abbrev size : ℕ
  size = c.args.self.now.size

  begun : Begins scheme_of c.args.self.now.catalogue c.args.self.now.wanted c.args.self.now.key.now
  begun = begin-passed scheme_of c.args.self.now.catalogue c.args.self.now.wanted c.args.self.now.key.now c.args.self.now.begun

  fits : size ≤ length c.zeros-query.result
  fits =
      let f = query-fits c.args.self.now.catalogue begun.admitted in
      let due = c.args.self.now.sized in
      omega (arith, places-many _ c.zeros-query.ensures)

  part_length : length (take size c.zeros-query.result) ≡ size
  part_length = length-take-le size c.zeros-query.result fits

  query-length : length query ≡ size
  query-length =
      (promises c.args.self.now.catalogue begun.admitted).query-length c.args.self.now.wanted c.args.server c.args.self.now.key.now begun.inside
      c.requires.server_lt_servers begun.valid ∙ sym c.args.self.now.sized

  -- the part that was lent, as the code left it
  module _ (lent : List ℕ) (left : lent ≡ put 0 query (take size c.zeros-query.result)) where
    lent_is : lent ≡ query
    lent_is = left ∙ put_whole query (take size c.zeros-query.result) (query-length ∙ sym part_length)

    lent_length : length lent ≡ size
    lent_length = ap length lent_is ∙ query-length

    part-is : take size (lent ++ drop size c.zeros-query.result) ≡ query
    part-is = take_at lent (drop size c.zeros-query.result) size lent_length ∙ lent_is

    filled-length : length (take size (lent ++ drop size c.zeros-query.result)) ≡ size
    filled-length = ap length part-is ∙ query-length

pub slice_bounds-query-end : goal.slice_bounds-query-end
slice_bounds-query-end c = fits (goal.at.slice_bounds-query-end c).After-zeros-query

pub slice_bounds-query-end-2 : goal.slice_bounds-query-end-2
slice_bounds-query-end-2 c = sym (part_length (goal.at.slice_bounds-query-end-2 c).After-zeros-query)

pub query-requires : goal.query-requires
query-requires c = let here = (goal.at.query-requires c).After-zeros-query in
    let b = begun here in
    let l = part_length here in
    let due = c.args.self.now.sized in
    record {
      admitted = b.admitted;
      wanted_lt_messages = (b.inside, c.requires.server_lt_servers);
      valid = b.valid;
      c_in_bounds = omega arith;
    }

pub slice_bounds-query-end-3 : goal.slice_bounds-query-end-3
slice_bounds-query-end-3 c = let l = lent_length (goal.at.slice_bounds-query-end-3 c).After-zeros-query c.query.new.out c.query.ensures in
    simp length-append (omega arith)

pub slice_bounds-put_line-end : goal.slice_bounds-put_line-end
slice_bounds-put_line-end c = sym (filled-length (goal.at.slice_bounds-put_line-end c).After-zeros-query c.query.new.out c.query.ensures)

pub put_line-requires : goal.put_line-requires
put_line-requires c = let here = (goal.at.put_line-requires c).After-zeros-query in
    let l = filled-length here c.query.new.out c.query.ensures in
    let n = admitted-numbers c.args.self.now.catalogue (begun here).admitted in
    let below = c.requires.server_lt_servers in
    let roomy = c.requires.size_in_bounds in
    (omega arith, omega arith)

pub returns : goal.returns
returns c = let here = (goal.at.returns c).After-zeros-query in
    let a = c.args in
    let part = part-is here c.query.new.out c.query.ensures in
    let l = filled-length here c.query.new.out c.query.ensures in
    let most = c.put_line.ensures.upper_bound in record {
      value = c.put_line.ensures.value ∙ ap (λ (q : List ℕ). a.at + length (query_line a.server q)) part;
      upper_bound = omega arith;
      out_after = c.put_line.ensures.out_after ∙ ap (λ (q : List ℕ). put a.at (query_line a.server q) a.out.now) part;
    }
