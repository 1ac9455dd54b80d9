use Rattle.std.proofs.Common.{◌≤◌, map, length, refl, sym, ap, ◌∙◌, subst}
use Rattle.county_problem.specs.OrderedValue.{OrderedValue, problem_at}
use Rattle.county_problem.specs.ProblemValue.{problem_of}
use Rattle.share_board.specs.Events.{event_of}
use Rattle.share_board.proofs.Lists.{graph_kept}
use Rattle.share_board.specs.Rounds.{IsBoardFault}
use Rattle.board_report.specs.PieceAnswers.{IsAnswered, piece_budget}
use Rattle.board_report.specs.Rounds.{round_by_code}
use Rattle.board_report.proofs.FirstRounds.{as_many, graph_so, memory_refused}
use Rattle.board_report.proofs.BoardRuns.{answered_so, format_so, text_so}
use Rattle.board_report.proofs.proving.prove_over.Goals as goal

pub build-requires : goal.build-requires
build-requires g c = record {
  fits = subst (λ (z : OrderedValue). length z.order ≤ g.C.CountySet.PLACES) (sym c.in_ok-ordered.ensures)
      (subst (λ n. n ≤ g.C.CountySet.PLACES) (sym (as_many c.args.problem.now.counties)) c.requires);
}

pub take_all-requires-clause-ordered : goal.take_all-requires-clause-ordered
take_all-requires-clause-ordered g c = graph_so c.in_ok-board.board c.args.problem.now c.in_ok-graph.graph (c.in_ok-graph.ensures.ordered ∙ c.in_ok-ordered.ensures) c.in_ok-board.ensures.problem c.in_ok-board.ensures.order

pub take_all-requires-clause-lists : goal.take_all-requires-clause-lists
take_all-requires-clause-lists g c =
    let board = c.in_ok-board.board in
    c.new-lists.ensures.lists (problem_at (record { problem = board.problem; order = board.round.order })) (length board.round.order)

pub answer_at-requires-clause-board : goal.answer_at-requires-clause-board
answer_at-requires-clause-board g c =
    let first = c.in_ok-board.ensures.board in
    let heard = c.in_ok-take_all.ensures.heard first.0 first.2 in
    ((heard.0).last, (heard.0).is)

pub answer_at-requires-clause-ordered : goal.answer_at-requires-clause-ordered
answer_at-requires-clause-ordered g c =
    let graph = graph_so c.in_ok-board.board c.args.problem.now c.in_ok-graph.graph (c.in_ok-graph.ensures.ordered ∙ c.in_ok-ordered.ensures) c.in_ok-board.ensures.problem c.in_ok-board.ensures.order in
    graph_kept c.in_ok-board.board c.take_all.new.board c.in_ok-graph.graph c.take_all.ensures.keeps graph

pub returns-clause-answer : goal.returns-clause-answer
returns-clause-answer g c =
    let first = c.in_ok-board.ensures.board in
    let round = round_by_code (problem_of c.args.problem.now) c.args.grouping.now.groups.items c.args.shape.limit c.args.shape.format in (
      round,
      c.in_ok-board.ensures.first,
      answered_so g.C.CountySet.test c.args.problem.now c.args.shape.depth piece_budget round c.in_ok-board.board c.take_all.new.board first.0 (map event_of c.args.events.items) c.in_ok-board.ensures.problem c.in_ok-board.ensures.depth c.in_ok-board.ensures.budget first.1
          (c.in_ok-take_all.ensures.heard first.0 first.2) c.args.number c.in_ok-answer_at.field-0 (λ x of. c.in_ok-answer_at.ensures.answer x of) refl,
    )

pub returns-clause-text : goal.returns-clause-text
returns-clause-text g c =
    let first = c.in_ok-board.ensures.board in
    let heard = c.in_ok-take_all.ensures.heard first.0 first.2 in
    let round = round_by_code (problem_of c.args.problem.now) c.args.grouping.now.groups.items c.args.shape.limit c.args.shape.format in
    let later = c.take_all.new.board in
    let format = format_so g.C.CountySet.test c.args.problem.now c.args.shape.depth piece_budget round c.in_ok-board.board later first.0 (map event_of c.args.events.items) c.args.shape.format refl first.1 heard.0 in
    text_so later.round.format c.args.shape.format (length later.round.order) (length c.args.problem.now.counties) c.args.number c.in_ok-answer_at.field-0 format
    (ap length (c.take_all.ensures.keeps.order ∙ c.in_ok-board.ensures.order) ∙ as_many c.args.problem.now.counties) c.in_ok-answer_at.ensures.text

pub returns-in_err-graph-clause-answer : goal.returns-in_err-graph-clause-answer
returns-in_err-graph-clause-answer g c =
    let p = problem_of c.args.problem.now in
    let target = c.args.grouping.now.groups.items in
    let round = round_by_code p target c.args.shape.limit c.args.shape.format in (
      round,
      c.in_ok-board.ensures.first,
      memory_refused c.from_residual-in_err-graph.result (IsAnswered p c.args.shape.depth round (map event_of c.args.events.items) c.args.number) (IsBoardFault p c.args.shape.depth piece_budget target round) tt
          c.from_residual-in_err-graph.ensures.1,
    )

pub returns-in_err-take_all-clause-answer : goal.returns-in_err-take_all-clause-answer
returns-in_err-take_all-clause-answer g c =
    let p = problem_of c.args.problem.now in
    let target = c.args.grouping.now.groups.items in
    let round = round_by_code p target c.args.shape.limit c.args.shape.format in (
      round,
      c.in_ok-board.ensures.first,
      memory_refused c.from_residual-in_err-take_all.result (IsAnswered p c.args.shape.depth round (map event_of c.args.events.items) c.args.number) (IsBoardFault p c.args.shape.depth piece_budget target round) tt
          c.from_residual-in_err-take_all.ensures.1,
    )

pub returns-in_err-answer_at-clause-answer : goal.returns-in_err-answer_at-clause-answer
returns-in_err-answer_at-clause-answer g c =
    let p = problem_of c.args.problem.now in
    let target = c.args.grouping.now.groups.items in
    let round = round_by_code p target c.args.shape.limit c.args.shape.format in (
      round,
      c.in_ok-board.ensures.first,
      memory_refused c.from_residual-in_err-answer_at.result (IsAnswered p c.args.shape.depth round (map event_of c.args.events.items) c.args.number) (IsBoardFault p c.args.shape.depth piece_budget target round) tt
          c.from_residual-in_err-answer_at.ensures.1,
    )
