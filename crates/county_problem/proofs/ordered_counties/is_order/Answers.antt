use Rattle.std.proofs.Common.{◌∙◌, ◌&&◌, ap, List, ℕ}
use Rattle.std.specs.Option.{is_none}
use Rattle.county_problem.specs.ProblemValue.{problem_of, codes_of}
use Rattle.county_problem.specs.Building.{first_repeated, first_unlisted}
use Rattle.county_problem.proofs.OrderLemmas.{order_test}
use Rattle.county_problem.proofs.ordered_counties.is_order.Goals as goal

pub returns : goal.returns
returns c =
    let order = c.args.order.now in
    let listed = c.deref.ensures.value ∙ (c.in_ok-listed.ensures ∙ ap codes_of c.counties.ensures.value) in
    order_test (problem_of c.args.problem.now) order c.names_each_once.result (c.names_each_once.ensures ∙ ap (λ (l : List ℕ). is_none (first_repeated order) && (is_none (first_unlisted l order) && is_none (first_unlisted order l))) listed)
