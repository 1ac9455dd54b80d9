-- The text of an open piece.
use Rattle.std.specs.Prelude.{ℕ, List, [], ◌∷◌, ◌++◌, map, codes, decimal}
use Rattle.std.specs.List.{flat_map, join_with_byte}
use Rattle.county_codes.specs.Digits.{five_digits}
use Rattle.piece_states.specs.Told.{Asked, Told}

-- the words of the first line: the piece is open, with its round and its number
abbrev pub open_words : ℕ → ℕ → List (List ℕ)
open_words round piece = codes "open" ∷ decimal round ∷ decimal piece ∷ []

-- the words of a closed group, and of a county that asks for a size
abbrev pub closed_words : List ℕ → List (List ℕ)
closed_words group = codes "closed" ∷ map five_digits group

abbrev pub asked_words : Asked → List (List ℕ)
asked_words asked = codes "least" ∷ five_digits asked.county ∷ decimal asked.size ∷ []

-- a line: its words with one blank between them, and an LF
abbrev pub line_of : List (List ℕ) → List ℕ
line_of words = join_with_byte 32 words ++ codes "\n"

-- the text of what is told: a line for each closed group, one for each county that asks, and the end
abbrev pub text_of_told : Told → List ℕ
text_of_told told =
    flat_map (λ g. line_of (closed_words g)) told.closed
    ++ (flat_map (λ a. line_of (asked_words a)) told.asked ++ codes "end\n")

-- the text of an open piece: its first line, and what is told of its state
abbrev pub text_of_piece : ℕ → ℕ → Told → List ℕ
text_of_piece round piece told = line_of (open_words round piece) ++ text_of_told told
