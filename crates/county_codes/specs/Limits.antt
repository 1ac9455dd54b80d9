-- How many counties a problem may list.
use Rattle.std.specs.Prelude.{ℕ}

abbrev pub most_counties : ℕ
most_counties = 256
