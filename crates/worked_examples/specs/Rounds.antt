-- The round code worked out by hand, as one table (`rounds`): source 000's example of section V-D, its Table IV, and what document 02, item 8, says of keys,
-- rows and bounds. Table IV lists a server's symbols without their order; here they stand in the order of the blocks.
use Rattle.std.specs.Prelude.{List, [], ◌∷◌, ℕ, Err}
use Rattle.lists.specs.Ascii.{ascii}
use Rattle.refusal.specs.Verdicts.{accepted}
use Rattle.refusal.specs.Numbers.{refusal_of}
use Rattle.refusal.specs.Chain.{refused}
use Rattle.catalogue.specs.declared.Code.TheVariants.{Round}
use Rattle.worked_examples.specs.Cards.{Card, prints, asks, recovers, answers, judges, begins, cat}

-- two messages of two blocks of one symbol of one byte: a1, a2 and b1, b2 of Table IV
abbrev pub letters : List ℕ
letters = 1 ∷ 2 ∷ 4 ∷ 8 ∷ []

unfoldable pub rounds : List Card
rounds =
    -- Table IV, F = (01): A by a2 + b2 of server 0 and a1, b2 of server 1, and B by the same of server 0 and b1, a2 of server 1
    recovers (cat Round 2 2 1) letters 0 (0 ∷ 1 ∷ []) ((10 ∷ []) ∷ (1 ∷ 8 ∷ []) ∷ []) (1 ∷ 2 ∷ [])
    ∷ recovers (cat Round 2 2 1) letters 1 (0 ∷ 1 ∷ []) ((10 ∷ []) ∷ (4 ∷ 2 ∷ []) ∷ []) (4 ∷ 8 ∷ [])
    -- F = (10): a1 + b1, and b1, a2 for A or a1, b2 for B
    ∷ recovers (cat Round 2 2 1) letters 0 (1 ∷ 0 ∷ []) ((5 ∷ []) ∷ (4 ∷ 2 ∷ []) ∷ []) (1 ∷ 2 ∷ [])
    ∷ recovers (cat Round 2 2 1) letters 1 (1 ∷ 0 ∷ []) ((5 ∷ []) ∷ (1 ∷ 8 ∷ []) ∷ []) (4 ∷ 8 ∷ [])
    -- three servers: the entries 2, 0, 1 are the short keys of the blocks, and server 0's second row is the row of zeros
    ∷ asks (cat Round 3 2 1) 1 (2 ∷ 0 ∷ 1 ∷ [])
    ((2 ∷ 1 ∷ 0 ∷ 0 ∷ 1 ∷ 2 ∷ []) ∷ (2 ∷ 2 ∷ 0 ∷ 1 ∷ 1 ∷ 0 ∷ []) ∷ (2 ∷ 0 ∷ 0 ∷ 2 ∷ 1 ∷ 1 ∷ []) ∷ [])
    -- three messages: the entries 2, 0, 3, 1 in base 2 are 10, 00, 11, 01
    ∷ prints (ascii "code=round\nmirrors=2\npacks=3\npiece=4\nwanted=1\nkey=2 0 3 1\n")
    (ascii "mirror=0 request=1 1 0 0 0 0 1 0 1 0 1 1\nmirror=1 request=1 0 0 0 1 0 1 1 1 0 0 1\n")
    -- a row twice, a row of the other server's set, a digit N, a digit too few
    ∷ answers (cat Round 2 2 1) 0 letters (1 ∷ 1 ∷ 1 ∷ 1 ∷ []) (Err (refusal_of 7))
    ∷ answers (cat Round 2 2 1) 0 letters (1 ∷ 1 ∷ 0 ∷ 1 ∷ []) (Err (refusal_of 7))
    ∷ answers (cat Round 2 2 1) 0 letters (0 ∷ 0 ∷ 0 ∷ 2 ∷ []) (Err (refusal_of 7))
    ∷ answers (cat Round 2 2 1) 0 letters (0 ∷ 0 ∷ 1 ∷ []) (Err (refusal_of 7))
    -- a key is a permutation of as many numbers as there are blocks
    ∷ begins (cat Round 2 2 1) 0 (1 ∷ 0 ∷ []) accepted
    ∷ begins (cat Round 2 2 1) 0 (0 ∷ 0 ∷ []) (refused 6)
    ∷ begins (cat Round 2 2 1) 0 (0 ∷ 2 ∷ []) (refused 6)
    ∷ begins (cat Round 2 2 1) 0 (0 ∷ []) (refused 5)
    -- 64 blocks, and more; one message
    ∷ judges (cat Round 2 7 1) accepted
    ∷ judges (cat Round 2 8 1) (refused 2)
    ∷ judges (cat Round 8 3 1) accepted
    ∷ judges (cat Round 9 3 1) (refused 2)
    ∷ judges (cat Round 2 1 1) (refused 17)
    ∷ []
