-- What each line of an open piece says, by its words. The first word names the form, the number of words is tested
-- next, and then the words are read from the left.
use Rattle.std.specs.Prelude.{ℕ, Bool, true, false, List, drop, codes, Result, Ok, Err, if◌then◌else◌}
use Rattle.field_lines.specs.Chain.{◌>>=◌}
use Rattle.certificate_lines.specs.Words.{code}
use Rattle.certificate_lines.specs.Lines.{most, begins, named, counted, number_at, code_word_at, each}
use Rattle.certificate_lines.specs.declared.fault.TextKind.{TextKind}
use Rattle.certificate_lines.specs.declared.fault.TextKind.TheVariants.{BadWord}
use Rattle.piece_states.specs.declared.line.ToldLine.{ToldLine}
use Rattle.piece_states.specs.declared.line.ToldLine.TheVariants.{Closed, Least, End}

-- the greatest number of a round or of a piece
abbrev pub greatest : ℕ
greatest = 4294967295

-- the greatest size that a county asks for
abbrev pub greatest_size : ℕ
greatest_size = 65535

-- the first line: the numbers of the round and of the piece
unfoldable pub open_on : List (List ℕ) → Result (ℕ × ℕ) TextKind
open_on line = do
  words ← named (codes "open") line
  words ← counted 2 2 words
  round ← number_at 0 greatest words
  piece ← number_at 0 greatest round.1
  Ok (round.0, piece.0)

-- a closed group, which may stand only in front of what counties ask for
unfoldable pub closed_on : Bool → List (List ℕ) → Result ToldLine TextKind
closed_on false words = Err BadWord
closed_on true words = do
  words ← counted 1 most words
  group ← each code words
  Ok (Closed group)

-- a county and the size that it asks for
unfoldable pub least_on : List (List ℕ) → Result ToldLine TextKind
least_on words = do
  words ← counted 2 2 words
  county ← code_word_at words
  size ← number_at 1 greatest_size county.1
  Ok (Least (record { county = county.0; size = size.0 }))

-- a line behind the first; `closing` says whether a closed group may stand there
unfoldable pub told_on : Bool → List (List ℕ) → Result ToldLine TextKind
told_on closing line =
    if begins (codes "closed") line then closed_on closing (drop 1 line)
    else if begins (codes "least") line then least_on (drop 1 line)
    else if begins (codes "end") line then (do
      words ← counted 0 0 (drop 1 line)
      Ok End)
    else Err BadWord
