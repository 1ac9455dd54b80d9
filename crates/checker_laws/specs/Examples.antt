-- The plain certificate of three counties in a row, whose branch is at line 6, with its take left out, and with another
-- one.
use Rattle.std.specs.Prelude.{[], ◌∷◌, None}
use Rattle.certificate_data.specs.Tree.{stuck, seats, Tree, leaf, branch, take, no_take}

abbrev pub untaken : Tree
untaken = branch 37001 None no_take (leaf (stuck 37001))

abbrev pub strayed : Tree
strayed = branch 37001 None (take (37001 ∷ []) (leaf seats) no_take) (leaf (stuck 37001))
