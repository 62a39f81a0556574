-- `catalogue_text::writing::head_length` meets its contract: the lengths of the lines add up, and each is small.
use Prim.Native.Nat.{◌^◌, ◌<◌, ◌≤◌}
use mathlib.Core.Path.{ap}
use native.Mathlib.Omega.{arith}
use lib.ListN.{length}
use Rattle.text_lines.proofs.NumberLines.{number-text-most}
use Rattle.season_text.proofs.SeasonLines.{season-length}
use Rattle.catalogue.specs.declared.Catalogue.{Catalogue}
use Rattle.catalogue_text.specs.Text.{servers_name, messages_name, symbol_name, head_text}
use Rattle.catalogue_text.proofs.TextParts.{code-most, sum-most, head-length}
use borrow.Author.Rules.{rules}
use Rattle.catalogue_text.proofs.writing.head_length.Goals as goal

head-most : (c : Catalogue) → c.servers < 10 ^ 20 → c.messages < 10 ^ 20 → c.symbol < 10 ^ 20 → length (head_text c) ≤ 200
head-most c n k s =
    omega (
      arith,
      head-length c,
      code-most c.code,
      number-text-most servers_name 19 c.servers n,
      number-text-most messages_name 19 c.messages k,
      number-text-most symbol_name 19 c.symbol s,
      season-length c.opening c.closing,
      sum-most c.sum,
    )

pub overflow_add-b : goal.overflow_add-b
overflow_add-b c =
    let v = c.args.c in
    omega (arith, head-length v, head-most v (search rules) (search rules) (search rules), ap length c.code_text-a.ensures)

pub overflow_add-d : goal.overflow_add-d
overflow_add-d c =
    let v = c.args.c in
    omega (arith, head-length v, head-most v (search rules) (search rules) (search rules), ap length c.code_text-a.ensures)

pub overflow_add-e : goal.overflow_add-e
overflow_add-e c =
    let v = c.args.c in
    omega (arith, head-length v, head-most v (search rules) (search rules) (search rules), ap length c.code_text-a.ensures)

pub overflow_add-f : goal.overflow_add-f
overflow_add-f c =
    let v = c.args.c in
    omega (arith, head-length v, head-most v (search rules) (search rules) (search rules), ap length c.code_text-a.ensures)

pub overflow_add-result : goal.overflow_add-result
overflow_add-result c =
    let v = c.args.c in
    omega (
      arith,
      head-length v,
      head-most v (search rules) (search rules) (search rules),
      ap length c.code_text-a.ensures,
      ap length c.sum_text.ensures,
    )

pub returns : goal.returns
returns c =
    let v = c.args.c in
    let most : length (head_text v) ≤ 200 = head-most v (search rules) (search rules) (search rules) in
    record {
      value = omega (arith, head-length v, ap length c.code_text-a.ensures, ap length c.sum_text.ensures);
      upper_bound = omega (arith, head-length v, ap length c.code_text-a.ensures, ap length c.sum_text.ensures);
    }
