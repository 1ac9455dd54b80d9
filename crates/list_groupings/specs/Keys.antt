-- How sets of counties are compared: by size, and sets of one size by their codes.
use Rattle.std.specs.Prelude.{ℕ, List}
use Rattle.std.specs.Cmp.Lexicographic.{slice_cmp}
use Rattle.std.specs.Ordering.{nat_cmp}
use Rattle.std.specs.declared.cmp.Ordering.{Ordering}
use Rattle.connected_laws.specs.Growing.{sort_key}

abbrev pub set_order : List ℕ → List ℕ → Ordering
set_order g h = slice_cmp nat_cmp (sort_key g) (sort_key h)
