use Rattle.std.proofs.Common.{length}
use Rattle.std.specs.Prelude.{Option}
use Rattle.county_problem.specs.ProblemValue.{ProblemValue}
use Rattle.grouping_laws.specs.Grouping.{Grouping}
use Rattle.board_report.specs.declared.board_outcome.Shared.{Shared}
use Rattle.cli_words.specs.declared.words.ShareWords.{ShareWords}
use Rattle.cli_file_stores.specs.Files.{Files}
use Rattle.run_laws.specs.Steps.{Steps, ◌>>=◌}
use Rattle.run_laws.specs.ProblemSteps.{problem_steps, grouping_of}
use Rattle.run_laws.specs.BoardSteps.{format_of, events_of}
use Rattle.run_laws.specs.ShareSteps.{share_step}
use Rattle.cli.proofs.StepLemmas.{stepped, stopped}
use Rattle.cli.proofs.commands.share.share_files.Goals as goal

-- the board where the problem and the grouping are known
abbrev with_grouping : ShareWords → ProblemValue → Option Files → Grouping → Steps Shared
with_grouping words v files target = events_of files (format_of words.board.round) (length v.counties) words.events.now >>= share_step v target words

-- and where the problem is
abbrev with_problem : ShareWords → Option Files → ProblemValue → Steps Shared
with_problem words files v = grouping_of files words.board.grouping.now >>= with_grouping words v files

pub returns-in_err-grouping-clause-steps : goal.returns-in_err-grouping-clause-steps
returns-in_err-grouping-clause-steps g c =
    stepped g.H.FileStore.contents g.H.FileStore.history (λ s. s) _ (λ f. problem_steps f c.args.words.board.problem) (with_problem c.args.words) _ _ _ _ c.in_ok-problem.ensures.steps c.load_problem.ensures.same
    (stopped g.H.FileStore.contents g.H.FileStore.history (λ s. s) _ (λ f. grouping_of f c.args.words.board.grouping.now) (with_grouping c.args.words c.in_ok-problem.problem) _ _ _ c.from_residual-in_err-grouping.ensures.1 c.in_err-grouping.ensures.steps)

pub returns-in_err-events-clause-steps : goal.returns-in_err-events-clause-steps
returns-in_err-events-clause-steps g c =
    let v = c.in_ok-problem.problem in
    stepped g.H.FileStore.contents g.H.FileStore.history (λ s. s) _ (λ f. problem_steps f c.args.words.board.problem) (with_problem c.args.words) _ _ _ _ c.in_ok-problem.ensures.steps c.load_problem.ensures.same
    (stepped g.H.FileStore.contents g.H.FileStore.history (λ s. s) _ (λ f. grouping_of f c.args.words.board.grouping.now) (with_grouping c.args.words v) _ _ _ _ c.in_ok-grouping.ensures.steps c.load_grouping.ensures.same
    (stopped g.H.FileStore.contents g.H.FileStore.history (λ s. s) _ (λ f. events_of f (format_of c.args.words.board.round) (length v.counties) c.args.words.events.now) (λ _. share_step v c.in_ok-grouping.grouping.groups.items c.args.words) _ _ _ c.from_residual-in_err-events.ensures.1 c.in_err-events.ensures.steps))

pub returns-clause-steps : goal.returns-clause-steps
returns-clause-steps g c =
    let v = c.in_ok-problem.problem in
    stepped g.H.FileStore.contents g.H.FileStore.history (λ s. s) _ (λ f. problem_steps f c.args.words.board.problem) (with_problem c.args.words) _ _ _ _ c.in_ok-problem.ensures.steps c.load_problem.ensures.same
    (stepped g.H.FileStore.contents g.H.FileStore.history (λ s. s) _ (λ f. grouping_of f c.args.words.board.grouping.now) (with_grouping c.args.words v) _ _ _ _ c.in_ok-grouping.ensures.steps c.load_grouping.ensures.same
    (stepped g.H.FileStore.contents g.H.FileStore.history (λ s. s) _ (λ f. events_of f (format_of c.args.words.board.round) (length v.counties) c.args.words.events.now) (λ _. share_step v c.in_ok-grouping.grouping.groups.items c.args.words) _ _ _ _ c.in_ok-events.ensures.steps c.load_events.ensures.same (c.taken.ensures _)))
