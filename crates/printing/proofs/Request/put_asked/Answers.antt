-- `printing::Request::put_asked` meets its contract: the checks refuse, or the key's numbers are as many as are due and all bytes.
use mathlib.Core.Path.{sym, ◌∙◌}
use Rattle.codes.specs.Codes.{scheme_of}
use Rattle.number_lists.specs.NumberLists.{numbers_at, list_of}
use Rattle.printing.proofs.Answers.{value-given, value-refused, answer-refused}
use Rattle.printing.proofs.Parts.{written_as}
use Rattle.number_lists.proofs.Scanning.{scanned-list}
use Rattle.printing.proofs.Request.put_asked.Goals as goal

pub put_checked-requires : goal.put_checked-requires
put_checked-requires c = let given = value-given _ _ _ (sym c.check-outcome.ensures ∙ c.in-Ok.is) in
    record { true_value = given.0; size_value = (given.1, c.requires) }

pub returns-in-Err : goal.returns-in-Err
returns-in-Err c = let a = c.args in
    let numbers = numbers_at a.self.now.text.now a.self.now.at in
    let refused = value-refused _ _ _ (sym c.check-outcome.ensures ∙ c.in-Err.is) in
    let found = scanned-list numbers a.self.now.count a.self.now.bytes c.args.self.now.numbers in
    let w = written_as _ _ a.out.now _ _
    (answer-refused scheme_of a.self.now.catalogue a.self.now.wanted (list_of numbers) _ (rw (found.0, found.1) refused)) (c.put_refusal.ensures.value, c.put_refusal.ensures.out_after) in
    record { value = w.0; out_after = w.1 }
