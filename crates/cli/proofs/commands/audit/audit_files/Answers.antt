use Rattle.std.proofs.Common.{◌≡◌, Bool, List, Option, rules, subst, subst₂}
use Rattle.std.specs.Prelude.{is_some}
use Rattle.county_problem.specs.ProblemValue.{ProblemValue}
use Rattle.grouping_laws.specs.Grouping.{Grouping}
use Rattle.pl94_counties.specs.declared.blocks.Block.{Block}
use Rattle.baf_auditor.specs.declared.assignments.Assignment.{Assignment}
use Rattle.cli_words.specs.declared.words.AuditWords.{AuditWords}
use Rattle.cli_file_stores.specs.Files.{Files}
use Rattle.cli_answers.specs.Answers.{Comes}
use Rattle.run_laws.specs.Steps.{Steps, ◌>>=◌}
use Rattle.run_laws.specs.ProblemSteps.{problem_steps, grouping_of}
use Rattle.run_laws.specs.PlanSteps.{blocks_of, plan_assignments}
use Rattle.run_laws.specs.JudgeSteps.{Audited, audit_step}
use Rattle.cli.specs.declared.commands.audit.AuditedPlan.{AuditedPlan}
use Rattle.cli_reports.specs.Texts.{audited_of}
use Rattle.cli.proofs.StepLemmas.{stepped, stopped}
use Rattle.cli.proofs.commands.audit.audit_files.Goals as goal

abbrev seen : AuditedPlan → Audited
seen p = audited_of p.audited

-- the findings of the assignments of a file, where the problem, the blocks and the grouping are known
abbrev with_grouping : AuditWords → ProblemValue → List Block → Option Files → Grouping → Steps Audited
with_grouping words v blocks files groups = plan_assignments files words.assignments.now >>= audit_step words.problem.common.form (is_some words.districts) v groups blocks

-- and where the problem and the blocks are
abbrev with_blocks : AuditWords → ProblemValue → Option Files → List Block → Steps Audited
with_blocks words v files blocks = grouping_of files words.grouping.now >>= with_grouping words v blocks files

-- and where the problem is
abbrev with_problem : AuditWords → Option Files → ProblemValue → Steps Audited
with_problem words files v = blocks_of files words.census words.problem.common.state >>= with_blocks words v files

pub returns-in_err-blocks-clause-steps : goal.returns-in_err-blocks-clause-steps
returns-in_err-blocks-clause-steps g c =
    stepped g.H.FileStore.contents g.H.FileStore.history seen _ (λ f. problem_steps f c.args.words.problem) (with_problem c.args.words) _ _ _ _ c.in_ok-problem.ensures.steps c.load_problem.ensures.same
    (stopped g.H.FileStore.contents g.H.FileStore.history seen _ (λ f. blocks_of f c.args.words.census c.args.words.problem.common.state) (with_blocks c.args.words c.in_ok-problem.problem) _ _ _ c.from_residual-in_err-blocks.ensures.1 c.in_err-blocks.ensures.steps)

pub returns-in_err-grouping-clause-steps : goal.returns-in_err-grouping-clause-steps
returns-in_err-grouping-clause-steps g c =
    let v = c.in_ok-problem.problem in
    stepped g.H.FileStore.contents g.H.FileStore.history seen _ (λ f. problem_steps f c.args.words.problem) (with_problem c.args.words) _ _ _ _ c.in_ok-problem.ensures.steps c.load_problem.ensures.same
    (stepped g.H.FileStore.contents g.H.FileStore.history seen _ (λ f. blocks_of f c.args.words.census c.args.words.problem.common.state) (with_blocks c.args.words v) _ _ _ _ c.in_ok-blocks.ensures.steps c.load_blocks.ensures.same
    (stopped g.H.FileStore.contents g.H.FileStore.history seen _ (λ f. grouping_of f c.args.words.grouping.now) (with_grouping c.args.words v c.in_ok-blocks.blocks.items) _ _ _ c.from_residual-in_err-grouping.ensures.1 c.in_err-grouping.ensures.steps))

pub returns-in_err-lines-clause-steps : goal.returns-in_err-lines-clause-steps
returns-in_err-lines-clause-steps g c =
    let v = c.in_ok-problem.problem in
    stepped g.H.FileStore.contents g.H.FileStore.history seen _ (λ f. problem_steps f c.args.words.problem) (with_problem c.args.words) _ _ _ _ c.in_ok-problem.ensures.steps c.load_problem.ensures.same
    (stepped g.H.FileStore.contents g.H.FileStore.history seen _ (λ f. blocks_of f c.args.words.census c.args.words.problem.common.state) (with_blocks c.args.words v) _ _ _ _ c.in_ok-blocks.ensures.steps c.load_blocks.ensures.same
    (stepped g.H.FileStore.contents g.H.FileStore.history seen _ (λ f. grouping_of f c.args.words.grouping.now) (with_grouping c.args.words v c.in_ok-blocks.blocks.items) _ _ _ _ c.in_ok-grouping.ensures.steps c.load_grouping.ensures.same
    (stopped g.H.FileStore.contents g.H.FileStore.history seen _ (λ f. plan_assignments f c.args.words.assignments.now) (λ _. audit_step c.args.words.problem.common.form (is_some c.args.words.districts) v c.in_ok-grouping.grouping.groups.items c.in_ok-blocks.blocks.items) _ _ _ c.from_residual-in_err-lines.ensures.1 c.in_err-lines.ensures.steps)))

pub returns-clause-steps : goal.returns-clause-steps
returns-clause-steps g c =
    let v = c.in_ok-problem.problem in
    let groups = c.in_ok-grouping.grouping.groups.items in
    let after = g.H.FileStore.history c.load_assignments.new.file_store in
    let asked : c.is_some-asked.result ≡ is_some c.args.words.districts = search rules in
    let over_lists = subst₂ (λ (bs : List Block) (ls : List Assignment). Comes seen c.audit_plan.result (audit_step c.args.words.problem.common.form c.is_some-asked.result v groups bs ls after after)) c.deref.ensures.value c.deref-2.ensures.value (c.audit_plan.ensures after) in
    let said = subst (λ (b : Bool). Comes seen c.audit_plan.result (audit_step c.args.words.problem.common.form b v groups c.in_ok-blocks.blocks.items c.in_ok-lines.lines.items after after)) asked over_lists in
    stepped g.H.FileStore.contents g.H.FileStore.history seen _ (λ f. problem_steps f c.args.words.problem) (with_problem c.args.words) _ _ _ _ c.in_ok-problem.ensures.steps c.load_problem.ensures.same
    (stepped g.H.FileStore.contents g.H.FileStore.history seen _ (λ f. blocks_of f c.args.words.census c.args.words.problem.common.state) (with_blocks c.args.words v) _ _ _ _ c.in_ok-blocks.ensures.steps c.load_blocks.ensures.same
    (stepped g.H.FileStore.contents g.H.FileStore.history seen _ (λ f. grouping_of f c.args.words.grouping.now) (with_grouping c.args.words v c.in_ok-blocks.blocks.items) _ _ _ _ c.in_ok-grouping.ensures.steps c.load_grouping.ensures.same
    (stepped g.H.FileStore.contents g.H.FileStore.history seen _ (λ f. plan_assignments f c.args.words.assignments.now) (λ _. audit_step c.args.words.problem.common.form (is_some c.args.words.districts) v groups c.in_ok-blocks.blocks.items) _ _ _ _ c.in_ok-lines.ensures.steps c.load_assignments.ensures.same said)))
