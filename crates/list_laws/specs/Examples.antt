-- The one best grouping of the path whose middle county strands its neighbours.
use Rattle.std.specs.Prelude.{List, [], ◌∷◌}
use Rattle.grouping_laws.specs.Grouping.{Grouping}
use Rattle.certificate_laws.specs.Examples.{together}

abbrev pub only_together : List Grouping
only_together = together ∷ []
