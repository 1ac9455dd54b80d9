use Rattle.std.proofs.Common.{length}
use Rattle.std.specs.Prelude.{Option}
use Rattle.county_problem.specs.ProblemValue.{ProblemValue}
use Rattle.grouping_laws.specs.Grouping.{Grouping}
use Rattle.cli_words.specs.declared.words.PieceWords.{PieceWords}
use Rattle.cli_file_stores.specs.Files.{Files}
use Rattle.cli_answers.specs.Answer.{Answered}
use Rattle.cli_answers.specs.Answers.{answer_of}
use Rattle.run_laws.specs.Steps.{Steps, ◌>>=◌}
use Rattle.run_laws.specs.ProblemSteps.{problem_steps, grouping_of}
use Rattle.run_laws.specs.BoardSteps.{format_of, named_events_of}
use Rattle.run_laws.specs.PieceSteps.{said_step}
use Rattle.cli.proofs.StepLemmas.{stepped, stopped}
use Rattle.cli.proofs.commands.piece.piece.Goals as goal

-- the piece where the problem and the grouping are known
abbrev with_grouping : PieceWords → ProblemValue → Option Files → Grouping → Steps Answered
with_grouping words v files target = named_events_of files (format_of words.board.round) (length v.counties) words.events >>= said_step v target words

-- and where the problem is
abbrev with_problem : PieceWords → Option Files → ProblemValue → Steps Answered
with_problem words files v = grouping_of files words.board.grouping.now >>= with_grouping words v files

pub returns-in_err-grouping-clause-steps : goal.returns-in_err-grouping-clause-steps
returns-in_err-grouping-clause-steps g c =
    stepped g.H.FileStore.contents g.H.FileStore.history answer_of _ (λ f. problem_steps f c.args.words.board.problem) (with_problem c.args.words) _ _ _ _ c.in_ok-problem.ensures.steps c.load_problem.ensures.same
    (stopped g.H.FileStore.contents g.H.FileStore.history answer_of _ (λ f. grouping_of f c.args.words.board.grouping.now) (with_grouping c.args.words c.in_ok-problem.problem) _ _ _ c.from_residual-in_err-grouping.ensures.1 c.in_err-grouping.ensures.steps)

pub returns-in_err-events-clause-steps : goal.returns-in_err-events-clause-steps
returns-in_err-events-clause-steps g c =
    let v = c.in_ok-problem.problem in
    stepped g.H.FileStore.contents g.H.FileStore.history answer_of _ (λ f. problem_steps f c.args.words.board.problem) (with_problem c.args.words) _ _ _ _ c.in_ok-problem.ensures.steps c.load_problem.ensures.same
    (stepped g.H.FileStore.contents g.H.FileStore.history answer_of _ (λ f. grouping_of f c.args.words.board.grouping.now) (with_grouping c.args.words v) _ _ _ _ c.in_ok-grouping.ensures.steps c.load_grouping.ensures.same
    (stopped g.H.FileStore.contents g.H.FileStore.history answer_of _ (λ f. named_events_of f (format_of c.args.words.board.round) (length v.counties) c.args.words.events) (λ _. said_step v c.in_ok-grouping.grouping.groups.items c.args.words) _ _ _ c.from_residual-in_err-events.ensures.1 c.in_err-events.ensures.steps))

pub returns-clause-steps : goal.returns-clause-steps
returns-clause-steps g c =
    let v = c.in_ok-problem.problem in
    stepped g.H.FileStore.contents g.H.FileStore.history answer_of _ (λ f. problem_steps f c.args.words.board.problem) (with_problem c.args.words) _ _ _ _ c.in_ok-problem.ensures.steps c.load_problem.ensures.same
    (stepped g.H.FileStore.contents g.H.FileStore.history answer_of _ (λ f. grouping_of f c.args.words.board.grouping.now) (with_grouping c.args.words v) _ _ _ _ c.in_ok-grouping.ensures.steps c.load_grouping.ensures.same
    (stepped g.H.FileStore.contents g.H.FileStore.history answer_of _ (λ f. named_events_of f (format_of c.args.words.board.round) (length v.counties) c.args.words.events) (λ _. said_step v c.in_ok-grouping.grouping.groups.items c.args.words) _ _ _ _ c.in_ok-events.ensures.steps c.load_named_events.ensures.same (c.proved.ensures _)))
