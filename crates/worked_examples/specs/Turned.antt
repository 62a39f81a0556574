-- Bench cards B1, B3, B5 and B6 of document 01 with a turn, worked out by hand from document 02, item 4, as one table (`turned`): the rows and the
-- empty answer go to other servers.
use Rattle.std.specs.Prelude.{List, [], ◌∷◌, Ok, Err}
use Rattle.lists.specs.Ascii.{ascii}
use Rattle.refusal.specs.Numbers.{refusal_of}
use Rattle.refusal.specs.Chain.{refused}
use Rattle.catalogue.specs.declared.Code.TheVariants.{Turn}
use Rattle.worked_examples.specs.Cards.{Card, prints, asks, recovers, answers, begins, cat, pair, filled}

unfoldable pub turned : List Card
turned =
    -- B1 with turn 1: server 0 is asked what B1 asks of server 1, server 1 what it asks of server 2, and server 2 what it asks of server 0
    prints (ascii "code=turn\nmirrors=3\npacks=3\npiece=4\nwanted=1\nkey=2 0 1\n")
    (ascii "mirror=0 request=2 2 0\nmirror=1 request=2 0 0\nmirror=2 request=2 1 0\n")
    -- with turn 2 one server further on, and with turn 0 as in B1
    ∷ asks (cat Turn 3 3 4) 1 (2 ∷ 0 ∷ 2 ∷ []) ((2 ∷ 0 ∷ 0 ∷ []) ∷ (2 ∷ 1 ∷ 0 ∷ []) ∷ (2 ∷ 2 ∷ 0 ∷ []) ∷ [])
    ∷ asks (cat Turn 3 3 4) 1 (2 ∷ 0 ∷ 0 ∷ []) ((2 ∷ 1 ∷ 0 ∷ []) ∷ (2 ∷ 2 ∷ 0 ∷ []) ∷ (2 ∷ 0 ∷ 0 ∷ []) ∷ [])
    -- B3 with turn 1: it is server 1 that answers with no bytes
    ∷ recovers (cat Turn 2 2 1) pair 0 (0 ∷ 1 ∷ []) ((90 ∷ []) ∷ [] ∷ []) (90 ∷ [])
    -- B5: a digit 3 is refused; B6: the row of zeros is answered with no bytes by each server
    ∷ answers (cat Turn 3 3 4) 1 filled (0 ∷ 1 ∷ 3 ∷ []) (Err (refusal_of 7))
    ∷ answers (cat Turn 3 3 4) 0 filled (0 ∷ 0 ∷ 0 ∷ []) (Ok 0)
    ∷ answers (cat Turn 3 3 4) 1 filled (0 ∷ 0 ∷ 0 ∷ []) (Ok 0)
    ∷ answers (cat Turn 3 3 4) 2 filled (0 ∷ 0 ∷ 0 ∷ []) (Ok 0)
    -- B1's own key has a digit too few, and a turn of N is no digit
    ∷ begins (cat Turn 3 3 4) 1 (2 ∷ 0 ∷ []) (refused 5)
    ∷ begins (cat Turn 3 3 4) 1 (2 ∷ 0 ∷ 3 ∷ []) (refused 6)
    ∷ []
