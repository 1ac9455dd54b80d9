-- What the first line of an event says, by its words. The first word names the event, the number of words is tested
-- next, and then the words are read from the left.
use Rattle.std.specs.Prelude.{ℕ, List, drop, codes, Result, Ok, Err, if◌then◌else◌}
use Rattle.field_lines.specs.Chain.{◌>>=◌}
use Rattle.certificate_lines.specs.Lines.{most, begins, counted, number_at, code_word_at}
use Rattle.certificate_lines.specs.declared.fault.TextKind.{TextKind}
use Rattle.certificate_lines.specs.declared.fault.TextKind.TheVariants.{BadWord}
use Rattle.board_report.specs.declared.event_line.EventLine.{EventLine}
use Rattle.board_report.specs.declared.event_line.EventLine.TheVariants as says

-- the greatest number of a round or of a piece
abbrev pub greatest : ℕ
greatest = 4294967295

-- a piece is asked for: the number from which it is sought
unfoldable pub hand_on : List (List ℕ) → Result EventLine TextKind
hand_on words = do
  words ← counted 1 1 words
  from ← number_at 0 greatest words
  Ok (says.Hand from.0)

-- a tree for a piece: the numbers of its round and of the piece
unfoldable pub result_on : List (List ℕ) → Result EventLine TextKind
result_on words = do
  words ← counted 2 2 words
  round ← number_at 0 greatest words
  piece ← number_at 0 greatest round.1
  Ok (says.Result round.0 piece.0)

-- a split of a piece: round, piece, county, and the greatest size of its groups
unfoldable pub split_on : List (List ℕ) → Result EventLine TextKind
split_on words = do
  words ← counted 4 4 words
  round ← number_at 0 greatest words
  piece ← number_at 0 greatest round.1
  county ← code_word_at piece.1
  limit ← number_at 1 most county.1
  Ok (says.Split round.0 piece.0 county.0 limit.0)

-- a part of the proof of a piece: the numbers of its round and of the piece
unfoldable pub part_on : List (List ℕ) → Result EventLine TextKind
part_on words = do
  words ← counted 2 2 words
  round ← number_at 0 greatest words
  piece ← number_at 0 greatest round.1
  Ok (says.Part round.0 piece.0)

-- a better target: its round, and how many groups it has
unfoldable pub better_on : List (List ℕ) → Result EventLine TextKind
better_on words = do
  words ← counted 2 2 words
  round ← number_at 0 greatest words
  groups ← number_at 0 most round.1
  Ok (says.Better round.0 groups.0)

-- a greater limit: its round
unfoldable pub wider_on : List (List ℕ) → Result EventLine TextKind
wider_on words = do
  words ← counted 1 1 words
  round ← number_at 0 greatest words
  Ok (says.Wider round.0)

unfoldable pub event_on : List (List ℕ) → Result EventLine TextKind
event_on line =
    if begins (codes "hand") line then hand_on (drop 1 line)
    else if begins (codes "result") line then result_on (drop 1 line)
    else if begins (codes "split") line then split_on (drop 1 line)
    else if begins (codes "part") line then part_on (drop 1 line)
    else if begins (codes "better") line then better_on (drop 1 line)
    else if begins (codes "wider") line then wider_on (drop 1 line)
    else Err BadWord
