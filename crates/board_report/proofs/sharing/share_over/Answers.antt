use Rattle.std.proofs.Common.{◌≤◌, map, length, sym, ◌∙◌, subst}
use Rattle.county_problem.specs.OrderedValue.{OrderedValue, problem_at}
use Rattle.county_problem.specs.ProblemValue.{problem_of}
use Rattle.share_board.specs.Events.{event_of}
use Rattle.share_board.specs.Rounds.{IsBoardFault}
use Rattle.board_report.specs.Rounds.{round_by_code}
use Rattle.board_report.specs.BoardOutcome.{IsShared}
use Rattle.board_report.proofs.FirstRounds.{as_many, graph_so, memory_refused}
use Rattle.board_report.proofs.BoardRuns.{shared_so}
use Rattle.board_report.proofs.sharing.share_over.Goals as goal

pub build-requires : goal.build-requires
build-requires g c = record {
  fits = subst (λ (z : OrderedValue). length z.order ≤ g.C.CountySet.PLACES) (sym c.in_ok-ordered.ensures)
      (subst (λ n. n ≤ g.C.CountySet.PLACES) (sym (as_many c.args.problem.now.counties)) c.requires);
}

pub take_and_tell-requires-clause-ordered : goal.take_and_tell-requires-clause-ordered
take_and_tell-requires-clause-ordered g c = graph_so c.in_ok-board.board c.args.problem.now c.in_ok-graph.graph (c.in_ok-graph.ensures.ordered ∙ c.in_ok-ordered.ensures) c.in_ok-board.ensures.problem c.in_ok-board.ensures.order

pub take_and_tell-requires-clause-lists : goal.take_and_tell-requires-clause-lists
take_and_tell-requires-clause-lists g c =
    let board = c.in_ok-board.board in
    c.new-lists.ensures.lists (problem_at (record { problem = board.problem; order = board.round.order })) (length board.round.order)

pub ended-requires : goal.ended-requires
ended-requires g c =
    let first = c.in_ok-board.ensures.board in
    let told = c.in_ok-take_and_tell.ensures.told first.0 first.2 in
    ((told.0).last, (told.0).is)

pub returns : goal.returns
returns g c =
    let first = c.in_ok-board.ensures.board in
    let round = round_by_code (problem_of c.args.problem.now) c.args.grouping.now.groups.items c.args.shape.limit c.args.shape.format in (
      round,
      c.in_ok-board.ensures.first,
      shared_so g.C.CountySet.test c.args.problem.now c.args.shape.depth c.args.budget round c.in_ok-board.board c.take_and_tell.new.board first.0 (map event_of c.args.events.items) c.in_ok-board.ensures.problem c.in_ok-board.ensures.depth c.in_ok-board.ensures.budget first.1
          c.new-text.result.items c.take_and_tell.new.text.items c.new-text.ensures.items (c.in_ok-take_and_tell.ensures.told first.0 first.2) c.take_and_tell.ensures.keeps c.in_ok-ended.field-0 (λ x of. c.in_ok-ended.ensures x of),
    )

pub returns-in_err-graph : goal.returns-in_err-graph
returns-in_err-graph g c =
    let p = problem_of c.args.problem.now in
    let target = c.args.grouping.now.groups.items in
    let round = round_by_code p target c.args.shape.limit c.args.shape.format in (
      round,
      c.in_ok-board.ensures.first,
      memory_refused c.from_residual-in_err-graph.result (IsShared p c.args.shape.depth c.args.budget round (map event_of c.args.events.items)) (IsBoardFault p c.args.shape.depth c.args.budget target round) tt
          c.from_residual-in_err-graph.ensures.1,
    )

pub returns-in_err-take_and_tell : goal.returns-in_err-take_and_tell
returns-in_err-take_and_tell g c =
    let p = problem_of c.args.problem.now in
    let target = c.args.grouping.now.groups.items in
    let round = round_by_code p target c.args.shape.limit c.args.shape.format in (
      round,
      c.in_ok-board.ensures.first,
      memory_refused c.from_residual-in_err-take_and_tell.result (IsShared p c.args.shape.depth c.args.budget round (map event_of c.args.events.items)) (IsBoardFault p c.args.shape.depth c.args.budget target round) tt
          c.from_residual-in_err-take_and_tell.ensures.1,
    )

pub returns-in_err-ended : goal.returns-in_err-ended
returns-in_err-ended g c =
    let p = problem_of c.args.problem.now in
    let target = c.args.grouping.now.groups.items in
    let round = round_by_code p target c.args.shape.limit c.args.shape.format in (
      round,
      c.in_ok-board.ensures.first,
      memory_refused c.from_residual-in_err-ended.result (IsShared p c.args.shape.depth c.args.budget round (map event_of c.args.events.items)) (IsBoardFault p c.args.shape.depth c.args.budget target round) tt
          c.from_residual-in_err-ended.ensures.1,
    )
