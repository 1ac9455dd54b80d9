use Rattle.std.proofs.Common.{◌∙◌, ap, sym, subst}
use Rattle.county_codes.specs.Counties.{codes_of}
use Rattle.grouping_laws.specs.GroupsFrom.{IsOrder}
use Rattle.grouping_laws.proofs.Digits.{often_member}
use Rattle.county_problem.specs.ProblemValue.{problem_of}
use Rattle.board_report.proofs.opening.ordered_by_code.Goals as goal

pub unreachable-requires : goal.unreachable-requires
unreachable-requires c =
    let p = problem_of c.args.problem.now in
    let order = c.deref.ensures.value ∙ (c.in_ok-order.ensures ∙ ap codes_of c.counties.ensures.value) in
    absurd (c.in-Err-WrongOrder.ensures.fault c.in-Err-WrongOrder.field-0-is (subst (λ z. IsOrder p z) (sym order) (λ x. often_member p.counties x (c.counties.ensures.problem.once x))))
