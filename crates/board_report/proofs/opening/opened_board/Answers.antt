use Rattle.std.proofs.Common.{◌∙◌, ap, subst, List}
use Rattle.std.specs.List.Sorted.{IsStrictlyIncreasing}
use Rattle.county_codes.specs.Counties.{codes_of}
use Rattle.county_codes.specs.declared.county.County.{County}
use Rattle.county_problem.specs.ProblemValue.{problem_of}
use Rattle.board_report.proofs.FirstRounds.{first_by_code, opened_so, order_so}
use Rattle.board_report.proofs.opening.opened_board.Goals as goal

pub returns-clause-first : goal.returns-clause-first
returns-clause-first g c =
    first_by_code (problem_of c.args.problem.now) c.args.target.now.groups.items c.args.shape.limit c.args.shape.format c.counties.ensures.problem
    (subst (λ (z : List County). IsStrictlyIncreasing (codes_of z)) c.counties.ensures.value c.counties.ensures.by_code)

pub returns-in_err-order-clause-first : goal.returns-in_err-order-clause-first
returns-in_err-order-clause-first g c =
    first_by_code (problem_of c.args.problem.now) c.args.target.now.groups.items c.args.shape.limit c.args.shape.format c.counties.ensures.problem
    (subst (λ (z : List County). IsStrictlyIncreasing (codes_of z)) c.counties.ensures.value c.counties.ensures.by_code)

pub returns-clause-board : goal.returns-clause-board
returns-clause-board g c =
    let order = c.deref.ensures.value ∙ (c.in_ok-order.ensures ∙ ap codes_of c.counties.ensures.value) in
    opened_so g.C.CountySet.test (problem_of c.args.problem.now) c.args.shape.depth c.args.budget c.args.target.now.groups.items c.args.shape.limit c.args.shape.format c.deref.result.now c.new.result order c.new.ensures.board c.new.ensures.fault

pub returns-clause-order : goal.returns-clause-order
returns-clause-order g c =
    let order = c.deref.ensures.value ∙ (c.in_ok-order.ensures ∙ ap codes_of c.counties.ensures.value) in
    order_so g.C.CountySet.test (problem_of c.args.problem.now) c.args.shape.depth c.args.target.now.groups.items c.args.shape.limit c.args.shape.format c.deref.result.now c.new.result order c.new.ensures.board
