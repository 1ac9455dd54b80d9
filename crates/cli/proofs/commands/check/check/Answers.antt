use Rattle.run_laws.specs.CheckSteps.{check_steps}
use Rattle.run_laws.specs.Storing.{named_file}
use Rattle.cli.proofs.StoringLemmas.{refused_first, stored_or_not}
use Rattle.cli.proofs.commands.check.check.Goals as goal

pub returns : goal.returns
returns g c =
    let end = c.store_reported.ensures in
    stored_or_not g.H.FileStore.contents g.H.FileStore.history g.H.FileStore.stored (λ f. check_steps f c.args.words) (λ r. named_file c.args.words.table r.table) (λ r. r.answer) _ _ _ _
    c.check_files.ensures.same c.check_files.ensures.kept c.in_ok-reported.ensures.steps end.1 _ end.4 (end.0, end.2, end.3)

pub returns-in_err-reported : goal.returns-in_err-reported
returns-in_err-reported g c =
    refused_first g.H.FileStore.contents g.H.FileStore.history g.H.FileStore.stored (λ f. check_steps f c.args.words) (λ r. named_file c.args.words.table r.table) (λ r. r.answer) _ _ c.in_err-reported.field-0.0 c.from_residual.result
    c.check_files.ensures.same c.check_files.ensures.kept c.from_residual.ensures.1 c.in_err-reported.ensures.steps
