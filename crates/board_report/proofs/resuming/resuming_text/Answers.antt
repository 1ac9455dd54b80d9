use Rattle.std.proofs.Common.{ℕ, length, sym, ap, ◌∙◌, subst, Option, IfSome}
use Rattle.grouping_laws.specs.Grouping.{Grouping as GroupingLaw}
use Rattle.county_problem.specs.ProblemValue.{problem_of}
use Rattle.certificate_data.specs.declared.format.Format.TheVariants.{Wide}
use Rattle.board_laws.specs.Content.{part_piece}
use Rattle.partial_trees.specs.declared.tree.PartialTree.{PartialTree}
use Rattle.partial_trees.specs.PartialValue.{partial_of}
use Rattle.board_report.specs.EventSpelling.{HasSpelling}
use Rattle.branch_bound.specs.Resuming.{IsBestPart}
use Rattle.board_report.proofs.FirstRounds.{as_many}
use Rattle.board_report.proofs.PieceEvents.{resumes}
use Rattle.board_report.proofs.resuming.resuming_text.Goals as goal

pub event_lines-requires-clause-spelled : goal.event_lines-requires-clause-spelled
event_lines-requires-clause-spelled c =
    let problem = c.args.problem.now in
    let p = problem_of problem in
    let part = partial_of c.in-Some.part in
    let best = subst (λ (o : Option PartialTree). IfSome o (λ t. (g : GroupingLaw) × IsBestPart p g (partial_of t))) c.in-Some.is c.requires in
    subst (λ (n : ℕ). HasSpelling Wide n (part_piece 1 1 part)) (as_many problem.counties ∙ sym (ap length c.counties.ensures.value)) (resumes p best.0 part c.counties.ensures.problem best.1)
