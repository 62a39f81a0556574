-- Recovery in the numbers that the code has in hand: the answer buffer as rows of symbols counted through, `rows` for each server,
-- and a set with the wanted message as a group of rows. `group-parts` shows that this is the scheme's `recovered_part`.
use Rattle.std.specs.Prelude.{ℕ, ◌+◌, ◌-◌, ◌*◌, ◌/◌, ◌%◌, ◌^◌, ◌≤◌, ◌<◌, ◌≡◌, ◌≢◌, cond, List, [], map, eqb, length, get_or}
use Rattle.std.specs.Int.Count.{ones}
use Rattle.lists.specs.Ranges.{range}
use Rattle.parameters.specs.Measures.{even_rows}
use Rattle.symbol.specs.Sum.{Sum, symbol_at, less}
use Rattle.even_places.specs.Rule.{others}
use Rattle.even_recover.specs.declared.ServerRows.{ServerRows}
use Rattle.even_recover.specs.declared.Group.{Group}

-- what is the same for all rows of a server's query
abbrev pub server_rows_of : ℕ → ℕ → ℕ → ℕ → ℕ → ServerRows
server_rows_of N K S wanted server = record { servers = N; symbol = S; rows = even_rows N K; bit = 2 ^ wanted; server = server }

-- row i of a group, as a row of the answer buffer
abbrev pub own_row : ServerRows → Group → ℕ → ℕ
own_row here group i = here.server * here.rows + (group.first + i)

-- the row of the answer buffer that it was joined from; the row itself, if the wanted message stands alone in it
unfoldable pub joined_from : ServerRows → Group → ℕ → ℕ
joined_from here group i =
    cond (eqb group.messages 1)
    (own_row here group i)
    (get_or (others here.servers here.server) (i / group.each) 0 * here.rows + (group.source + i % group.each))

-- the symbol that it gives: the answer to it, less the answer to the row that it was joined from
unfoldable pub group_symbol : Sum → ServerRows → Group → List ℕ → ℕ → List ℕ
group_symbol sum here group answers i =
    less sum (eqb group.messages 1) (symbol_at here.symbol answers (own_row here group i)) (symbol_at here.symbol answers (joined_from here group i))

-- the part of the message that it gives: the query names the symbol's number
unfoldable pub group_part : Sum → ServerRows → Group → List ℕ → List ℕ → ℕ → ℕ × List ℕ
group_part sum here group query answers i =
    (get_or query (group.cell + i * group.messages) 0 * here.symbol, group_symbol sum here group answers i)

-- those of all its rows
unfoldable pub group_parts : Sum → ServerRows → Group → List ℕ → List ℕ → List (ℕ × List ℕ)
group_parts sum here group query answers = map (group_part sum here group query answers) (range 0 group.count)

-- the group of a set with the wanted message, whose first row begins at a cell of the query
unfoldable pub group_of : ServerRows → ℕ → ℕ → List ℕ → Group
group_of here set cell firsts = record {
  messages = ones set;
  count = (here.servers - 1) ^ (ones set - 1);
  first = get_or firsts set 0;
  source = get_or firsts (set - here.bit) 0;
  each = (here.servers - 1) ^ (ones set - 1) / (here.servers - 1);
  cell = cell + ones (set % here.bit);
}

-- what the rows of a set give: nothing, if it is without the wanted message
unfoldable pub set_parts : Sum → ServerRows → ℕ → ℕ → List ℕ → List ℕ → List ℕ → List (ℕ × List ℕ)
set_parts sum here set cell firsts query answers =
    cond (eqb (set / here.bit % 2) 1) (group_parts sum here (group_of here set cell firsts) query answers) []

-- a set with the wanted message has rows, and a table the first of them; its first cell is near
pub record Given (here : ServerRows) (set cell : ℕ) (firsts : List ℕ) : Type 0 where
  pub two : 2 ≤ here.servers
  pub wanted-low : 1 ≤ here.bit
  pub wanted-high : here.bit ≤ set
  pub some : 1 ≤ ones set
  pub few : (here.servers - 1) ^ (ones set - 1) ≤ 256
  pub near : cell ≤ 524288
  pub table : length firsts ≡ 256

-- the server is one of at most 16, a query has at most 256 rows, and a symbol at most 4,096 bytes
pub record Bounded (here : ServerRows) : Type 0 where
  pub known : here.server < here.servers
  pub few : here.servers ≤ 16
  pub short : here.rows ≤ 256
  pub narrow : here.symbol ≤ 4096

-- and the answer buffer holds the rows of all
pub record Held (here : ServerRows) (answers : List ℕ) : Type 0 where
  pub bounded : Bounded here
  pub held : here.servers * here.rows * here.symbol ≤ length answers

-- the group's rows, and those that they are joined from, are rows of a query
pub record Grouped (here : ServerRows) (group : Group) : Type 0 where
  pub small : group.messages ≤ 8
  pub own : group.first + group.count ≤ here.rows
  pub joined : group.messages ≢ 1 → group.source + group.each ≤ here.rows
  pub turns : group.messages ≢ 1 → group.count ≤ (here.servers - 1) * group.each

-- the group's cells are in the query
pub record Named (group : Group) (query : List ℕ) : Type 0 where
  pub cells : (i : ℕ) → i < group.count → group.cell + i * group.messages < length query

-- all of that, of the group of a set with the wanted message
pub record Ready (here : ServerRows) (set cell : ℕ) (firsts query : List ℕ) : Type 0 where
  pub given : Given here set cell firsts
  pub grouped : Grouped here (group_of here set cell firsts)
  pub named : Named (group_of here set cell firsts) query
