-- The text of the piece of three counties in a row.
use Rattle.std.proofs.Common.{◌≡◌, refl}
use Rattle.std.specs.Fmt.{digits}
use Rattle.piece_states.specs.Text.{text_of_piece}
use Rattle.piece_states.specs.Examples.{told_path, path_text}

pub path_told : text_of_piece 1 2 told_path ≡ path_text
unfolding digits
path_told = refl
