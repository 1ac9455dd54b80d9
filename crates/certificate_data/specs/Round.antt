-- What a search for groupings greater than a target goes by.
use Rattle.std.specs.Prelude.{ℕ, List, Option}
use Rattle.county_codes.specs.declared.tolerance.Tolerance.{Tolerance}
use Rattle.grouping_laws.specs.Grouping.{Grouping}
use Rattle.certificate_data.specs.declared.format.Format.{Format}

-- The order of the counties, the limit of sizes, the target, if there is one, the format, and the tolerance that is
-- named, if it isn't a twentieth: in a plain round the limit serves the whole tree and branches stand at the first open
-- county; in a wide one each branch has a county and a limit of its own, and groups that leave a stuck part behind are
-- left out.
pub record Round : Type 0 where
  pub order : List ℕ
  pub limit : ℕ
  pub target : Option Grouping
  pub format : Format
  pub tolerance : Option Tolerance
