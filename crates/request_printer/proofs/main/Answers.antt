-- `request_printer::main` meets its contract: what is lent of the page is the output, which fits it.
use mathlib.Core.Path.{sym}
use lib.Seq.{length-take-le}
use Rattle.request_printer.proofs.main.Goals as goal

pub slice_bounds-write_all-end : goal.slice_bounds-write_all-end
slice_bounds-write_all-end c = let page = c.print-page in sym (length-take-le c.print-page.result.length c.print-page.result.bytes c.print-page.ensures.length_in_bounds)
