use Rattle.std.proofs.Common.{◌≡◌, ◌&&◌, nat_lt, length, ap, ◌∙◌, arith}
use Rattle.grouping_laws.specs.Sets.{contains}
use Rattle.grouping_laws.proofs.PlaceProblem.{order_once}
use Rattle.county_problem.specs.ProblemValue.{problem_of}
use Rattle.county_problem.specs.OrderedValue.{code_at}
use Rattle.piece_states.proofs.Groups.{listed_codes}
use Rattle.piece_states.proofs.closing.places_with.Goals as goal

pub returns-clause-codes : goal.returns-clause-codes
returns-clause-codes g c =
    let order = c.args.ordered.now.order in
    let codes = c.args.codes.now in
    let all : c.loop-place.place ≡ length order = omega (arith, c.loop-place-test.false, c.loop-place.auto.place-end, c.places-place-end.ensures.value) in
    listed_codes order codes (g.C.CountySet.test c.loop-place.set) (order_once (problem_of c.args.ordered.now.problem) order c.places-place-end.ensures.order)
    (λ x. c.loop-place.invariant x ∙ ap (λ n. nat_lt x n && contains codes (code_at order x)) all)
