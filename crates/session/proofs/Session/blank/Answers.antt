-- `session::Session::blank` meets its contract: it is the definition, field by field.
use Rattle.session_parts.specs.Marks.{no_marks}
use Rattle.session.specs.Fields.{zero_session}
use Rattle.session.proofs.Session.blank.Goals as goal

pub returns : goal.returns
unfolding zero_session no_marks
returns c = rw (c.no_meters.ensures, c.zero.ensures)
