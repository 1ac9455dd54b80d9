use Rattle.std.proofs.Common.{map}
use Rattle.county_problem.specs.ProblemValue.{problem_of}
use Rattle.share_board.specs.Events.{event_of}
use Rattle.board_report.specs.BoardOutcome.{IsShared}
use Rattle.run_laws.specs.BoardSteps.{depth_of}
use Rattle.run_laws.proofs.Boards.{no_board}
use Rattle.cli_reports.proofs.board_reports.share_events.Goals as goal

pub returns-clause-fault : goal.returns-clause-fault
returns-clause-fault c =
    let p = problem_of c.args.problem.now in
    let events = map event_of c.args.events.items in
    let shape = c.shape_for-shape in
    no_board c.args.problem.now c.args.grouping.now.groups.items c.args.words c.args.budget
    (λ round. IsShared p (depth_of c.args.words) c.args.budget round events) (λ round. IsShared p shape.result.depth c.args.budget round events)
    shape.result.format shape.result.limit shape.result.depth c.share.result shape.ensures.format shape.ensures.limit shape.ensures.depth c.share.ensures
