-- The answer that a text gives.
use Rattle.std.specs.Prelude.{ℕ, ◌==◌, Bool, List, Option, nat_eq, unwrap_or, find, drop, codes, if◌then◌else◌}
use Rattle.std.specs.List.{starts_with, slice_split, before_first}
use Rattle.std.specs.Option.{option_map}

abbrev pub is_line_feed : ℕ → Bool
is_line_feed byte = byte == 10

-- whether a line begins with the word `answer` and a blank
abbrev pub is_answer_line : List ℕ → Bool
is_answer_line line = starts_with nat_eq line (codes "answer ")

-- the first answer line of a text, which is cut at each line feed
abbrev pub recorded_answer_line : List ℕ → Option (List ℕ)
recorded_answer_line text = find is_answer_line (slice_split is_line_feed text)

-- the first line of a text
abbrev pub first_answer_line : List ℕ → List ℕ
first_answer_line text = before_first is_line_feed text

-- the first answer line without its first word, or else the first line
abbrev pub answer_of_lines : List ℕ → List ℕ
answer_of_lines text = unwrap_or (option_map (drop 7) (recorded_answer_line text)) (first_answer_line text)

-- what the object of an answer begins with
abbrev pub object_start : List ℕ
object_start = codes "{\"answer\":\""

abbrev pub is_quote : ℕ → Bool
is_quote byte = byte == 34

-- the answer of an object is the value of its first member, and that of another text is told by its lines
abbrev pub recorded_answer : List ℕ → List ℕ
recorded_answer text =
    if starts_with nat_eq text object_start then before_first is_quote (drop 11 text) else answer_of_lines text
