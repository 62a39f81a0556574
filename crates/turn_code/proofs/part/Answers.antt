-- `turn_code::part` meets its contract: the turn is added to the server's number, modulo n, and as the key's last digit it is below n as all of
-- them are.
use Rattle.turn_code.proofs.Keys.{turn_below}
use Rattle.turn_code.proofs.part.Goals as goal

pub add_modulo-requires : goal.add_modulo-requires
add_modulo-requires c = let a = c.args in
    (c.requires.server_lt_n, turn_below a.n a.key.now c.requires.key_nonzero.1 c.requires.key_nonzero.0)
