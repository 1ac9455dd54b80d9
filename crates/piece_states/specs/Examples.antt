-- What is told of a piece of three counties in a row. The first two are closed as a group, and the third asks for a
-- group of at least two counties.
use Rattle.std.specs.Prelude.{ℕ, List, [], ◌∷◌, codes}
use Rattle.piece_states.specs.Told.{Told}

abbrev pub told_path : Told
told_path =
    record {
      closed = (37001 ∷ 37003 ∷ []) ∷ [];
      asked = record { county = 37005; size = 2 } ∷ [];
    }

-- its text, as the second piece of the first round
abbrev pub path_text : List ℕ
path_text = codes "open 1 2\nclosed 37001 37003\nleast 37005 2\nend\n"
