-- `session::new_session` meets its contract: its key is what `padded_key` gives, its marks are not set, and its meters are 0.
use Rattle.session_parts.specs.Marks.{no_marks}
use Rattle.session.proofs.new_session.Goals as goal

pub returns : goal.returns
unfolding no_marks
returns c = rw (c.no_meters.ensures, c.padded_key-places.ensures)
