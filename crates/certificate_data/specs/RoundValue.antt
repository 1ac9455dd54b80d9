-- The round that a value of the Rust type stands for.
use Rattle.std.specs.Prelude.{Option, option_map}
use Rattle.grouping_laws.specs.Grouping.{Grouping}
use Rattle.county_codes.specs.declared.group.Grouping.{Grouping as GroupingHeld}
use Rattle.certificate_data.specs.declared.round.Round.{Round as RoundHeld}
use Rattle.certificate_data.specs.Round.{Round}

-- the groups of a target, if there is one
abbrev pub target_of : Option GroupingHeld → Option Grouping
target_of target = option_map (λ g. g.groups.items) target

-- the order's codes, the limit, the target's groups, the format and the tolerance that is named
abbrev pub round_of : RoundHeld → Round
round_of r =
    record { order = r.order; limit = r.limit; target = target_of r.target; format = r.format; tolerance = r.tolerance }
