-- What a search leaves when its steps run out, so that the proof can go on from there.
use Rattle.std.specs.Prelude.{ℕ, ◌≤◌, List, length, fold, max, Option, Some}
use Rattle.county_codes.specs.Limits.{most_counties}
use Rattle.grouping_laws.specs.Problem.{Problem}
use Rattle.grouping_laws.specs.Grouping.{Grouping}
use Rattle.grouping_laws.specs.Tolerance.{named_tolerance}
use Rattle.certificate_data.specs.declared.format.Format.{Format}
use Rattle.certificate_data.specs.declared.format.Format.TheVariants.{Wide}
use Rattle.certificate_data.specs.Round.{Round}
use Rattle.certificate_laws.specs.State.{empty_state}
use Rattle.board_laws.specs.PartialTrees.{PartialTree, IsPart}
use Rattle.partial_trees.specs.Refusals.{IsPartProof}
use Rattle.partial_trees.specs.OpenBranches.{BranchesAreOpen}

-- A round of a search for the problem, over its counties in this order. Its tolerance is the one that a certificate
-- names for the problem.
abbrev pub round_over : Problem → List ℕ → ℕ → Option Grouping → Format → Round
round_over p order limit target format =
    record { order = order; limit = limit; target = target; format = format; tolerance = named_tolerance p }

-- how many counties the longest group has, or 1 where none has more
abbrev pub longest : Grouping → ℕ
longest g = fold (λ most m. max most (length m.codes)) 1 g

-- The round in which the grouping is proved best: its limit is that of the longest group, and its order that in which
-- the problem lists its counties.
abbrev pub proving_round : Problem → Grouping → Round
proving_round p g = round_over p p.counties (longest g) (Some g) Wide

-- a part of the proof that the grouping is best: texts spell it, and each of its branches has an open leaf
abbrev pub IsBestPart : Problem → Grouping → PartialTree → Type 0
IsBestPart p g part =
    (longest g ≤ most_counties) × IsPart part × IsPartProof p (proving_round p g) (empty_state p) part
    × BranchesAreOpen part
