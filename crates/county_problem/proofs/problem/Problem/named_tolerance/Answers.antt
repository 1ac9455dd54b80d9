use Rattle.std.proofs.Common.{◌∙◌, ap, sym}
use Rattle.county_codes.specs.Tolerances.{same_tolerance}
use Rattle.grouping_laws.proofs.ToleranceLaws.{names_none, names_some}
use Rattle.county_problem.specs.ProblemValue.{problem_of}
use Rattle.county_problem.specs.contracts.problem.Problem.{the_view}
use Rattle.county_problem.proofs.problem.Problem.named_tolerance.Goals as goal

pub returns-then-same_as-clause-value : goal.returns-then-same_as-clause-value
returns-then-same_as-clause-value c =
    rw (← c.self.view_is) (sym (names_none (problem_of (the_view c.self.inside)) (ap (same_tolerance c.self.inside.tolerance) (sym c.twentieth.ensures) ∙ (sym c.same_as.ensures ∙ c.if-same_as.true))))

pub returns-else-same_as-clause-value : goal.returns-else-same_as-clause-value
returns-else-same_as-clause-value c =
    rw (← c.self.view_is) (sym (names_some (problem_of (the_view c.self.inside)) (ap (same_tolerance c.self.inside.tolerance) (sym c.twentieth.ensures) ∙ (sym c.same_as.ensures ∙ c.if-same_as.false))))
