use Rattle.std.proofs.Common.{map}
use Rattle.county_problem.specs.ProblemValue.{problem_of}
use Rattle.share_board.specs.Events.{event_of}
use Rattle.board_report.specs.BoardOutcome.{IsShared}
use Rattle.cli_answers.specs.Refusals.{board_answer}
use Rattle.run_laws.specs.BoardSteps.{depth_of, AnswersOnBoard}
use Rattle.run_laws.proofs.RunLemmas.{refused}
use Rattle.cli.proofs.commands.share.taken.Goals as goal

pub returns-in-Err : goal.returns-in-Err
returns-in-Err c = λ history.
    let v = c.args.problem.now in
    let words = c.args.words in
    refused c.refuse_board.result board_answer c.in-Err.fault
    (AnswersOnBoard v c.args.grouping.now.groups.items words.board.round words.budget (λ round. IsShared (problem_of v) (depth_of words.board.round) words.budget round (map event_of c.args.events.items)))
    history c.refuse_board.ensures.answer (λ shown. c.in-Err.ensures.fault)
