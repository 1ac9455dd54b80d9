use Rattle.grouping_laws.specs.Grouping.{Grouping}
use Rattle.cli_words.specs.declared.words.JudgeWords.{JudgeWords}
use Rattle.std.specs.Prelude.{Option}
use Rattle.cli_file_stores.specs.Files.{Files}
use Rattle.run_laws.specs.Steps.{Steps, ◌>>=◌}
use Rattle.run_laws.specs.ProblemSteps.{grouping_of}
use Rattle.run_laws.specs.Forms.{reads_names}
use Rattle.run_laws.specs.TableSteps.{Tabled, Reported, tabled_problem_in}
use Rattle.cli_reports.specs.Texts.{tabled_of, reported_of}
use Rattle.run_laws.specs.JudgeWithCertificate.{certificate_text_of}
use Rattle.run_laws.specs.JudgeSteps.{judge_step}
use Rattle.cli.proofs.StepLemmas.{stepped, stopped}
use Rattle.cli.proofs.commands.judge.judge_files.Goals as goal

-- the verdict beside the certificate of a file, where the problem and the grouping are known
abbrev with_grouping : JudgeWords → Tabled → Option Files → Grouping → Steps Reported
with_grouping words t files groups = certificate_text_of files words.certificate >>= judge_step words.problem.common.form t groups words.budget

-- and where the problem is
abbrev with_problem : JudgeWords → Option Files → Tabled → Steps Reported
with_problem words files t = grouping_of files words.grouping.now >>= with_grouping words t files

pub returns-in_err-grouping-clause-steps : goal.returns-in_err-grouping-clause-steps
returns-in_err-grouping-clause-steps g c =
    stepped g.H.FileStore.contents g.H.FileStore.history reported_of _ (λ f. tabled_problem_in f c.args.words.problem (reads_names c.args.words.problem.common c.args.words.table)) (with_problem c.args.words) _ _ _ _ c.in_ok-tabled.ensures.steps c.load_tabled_problem.ensures.same
    (stopped g.H.FileStore.contents g.H.FileStore.history reported_of _ (λ f. grouping_of f c.args.words.grouping.now) (with_grouping c.args.words (tabled_of c.in_ok-tabled.tabled)) _ _ _ c.from_residual-in_err-grouping.ensures.1 c.in_err-grouping.ensures.steps)

pub returns-in_err-certificate-clause-steps : goal.returns-in_err-certificate-clause-steps
returns-in_err-certificate-clause-steps g c =
    let t = tabled_of c.in_ok-tabled.tabled in
    stepped g.H.FileStore.contents g.H.FileStore.history reported_of _ (λ f. tabled_problem_in f c.args.words.problem (reads_names c.args.words.problem.common c.args.words.table)) (with_problem c.args.words) _ _ _ _ c.in_ok-tabled.ensures.steps c.load_tabled_problem.ensures.same
    (stepped g.H.FileStore.contents g.H.FileStore.history reported_of _ (λ f. grouping_of f c.args.words.grouping.now) (with_grouping c.args.words t) _ _ _ _ c.in_ok-grouping.ensures.steps c.load_grouping.ensures.same
    (stopped g.H.FileStore.contents g.H.FileStore.history reported_of _ (λ f. certificate_text_of f c.args.words.certificate) (λ _. judge_step c.args.words.problem.common.form t c.in_ok-grouping.grouping.groups.items c.args.words.budget) _ _ _ c.from_residual-in_err-certificate.ensures.1 c.in_err-certificate.ensures.steps))

pub returns-clause-steps : goal.returns-clause-steps
returns-clause-steps g c =
    let t = tabled_of c.in_ok-tabled.tabled in
    stepped g.H.FileStore.contents g.H.FileStore.history reported_of _ (λ f. tabled_problem_in f c.args.words.problem (reads_names c.args.words.problem.common c.args.words.table)) (with_problem c.args.words) _ _ _ _ c.in_ok-tabled.ensures.steps c.load_tabled_problem.ensures.same
    (stepped g.H.FileStore.contents g.H.FileStore.history reported_of _ (λ f. grouping_of f c.args.words.grouping.now) (with_grouping c.args.words t) _ _ _ _ c.in_ok-grouping.ensures.steps c.load_grouping.ensures.same
    (stepped g.H.FileStore.contents g.H.FileStore.history reported_of _ (λ f. certificate_text_of f c.args.words.certificate) (λ _. judge_step c.args.words.problem.common.form t c.in_ok-grouping.grouping.groups.items c.args.words.budget) _ _ _ _ c.in_ok-certificate.ensures.steps c.load_certificate.ensures.same (c.verdict.ensures _)))
