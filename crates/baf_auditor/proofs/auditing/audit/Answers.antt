use Rattle.std.proofs.Common.{inr}
use Rattle.baf_auditor.proofs.AuditLemmas.{none_found}
use Rattle.baf_auditor.proofs.auditing.audit.Goals as goal

pub returns-in_ok-plan_findings-in-None-clause-clean : goal.returns-in_ok-plan_findings-in-None-clause-clean
returns-in_ok-plan_findings-in-None-clause-clean c =
    none_found c.args.problem.now c.args.grouping.now.groups.items c.args.blocks.now c.args.lines.now c.in_ok-plan_findings-in-None.field-0.items
    (inr (record { lawful = c.in-None.ensures.lawful; all = c.in_ok-plan_findings-in-None.ensures }))
