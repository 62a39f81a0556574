-- `catalogue_text::writing::put_head` meets its contract: the lines are written side by side.
use mathlib.Core.Path.{◌≡◌, ap}
use native.Mathlib.Omega.{arith}
use lib.ListN.{length}
use Rattle.text_lines.specs.Lines.{number_text}
use Rattle.catalogue_text.specs.Text.{servers_name, messages_name, symbol_name, head_text}
use Rattle.catalogue_text.proofs.TextParts.{head-length, put_six}
use Rattle.catalogue_text.proofs.writing.put_head.Goals as goal

pub put_bytes-a-requires : goal.put_bytes-a-requires
put_bytes-a-requires c = omega (arith, head-length c.args.c, ap length c.code_text.ensures)

pub put_line-b-requires : goal.put_line-b-requires
put_line-b-requires c = omega (arith, head-length c.args.c, ap length c.code_text.ensures)

pub put_line-d-requires : goal.put_line-d-requires
put_line-d-requires c = omega (arith, head-length c.args.c, ap length c.code_text.ensures)

pub put_line-e-requires : goal.put_line-e-requires
put_line-e-requires c = omega (arith, head-length c.args.c, ap length c.code_text.ensures)

pub put_season-f-requires : goal.put_season-f-requires
put_season-f-requires c = omega (arith, head-length c.args.c, ap length c.code_text.ensures)

pub put_bytes-requires : goal.put_bytes-requires
put_bytes-requires c = omega (arith, head-length c.args.c, ap length c.code_text.ensures, ap length c.sum_text.ensures)

pub returns : goal.returns
unfolding head_text
returns c =
    let start : c.put_bytes-a.result ≡ length c.code_text.result.now = omega arith in
    record {
      value = omega (arith, head-length c.args.c, ap length c.code_text.ensures, ap length c.sum_text.ensures);
      out_after =
          rw (← c.code_text.ensures, ← c.sum_text.ensures)
          (put_six _
          (number_text servers_name c.args.c.servers)
          (number_text messages_name c.args.c.messages)
          (number_text symbol_name c.args.c.symbol)
          _ _ _ _ _ _ _ _ _ _ _ _ _ _
          start
          c.put_line-b.ensures.value
          c.put_line-d.ensures.value
          c.put_line-e.ensures.value
          c.put_season-f.ensures.value
          c.put_bytes-a.ensures.out_after
          c.put_line-b.ensures.out_after
          c.put_line-d.ensures.out_after
          c.put_line-e.ensures.out_after
          c.put_season-f.ensures.out_after
          c.put_bytes.ensures.out_after);
    }
