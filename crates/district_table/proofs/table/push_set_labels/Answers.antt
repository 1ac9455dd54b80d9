use Rattle.baf_auditor.specs.declared.finding.Set.TheVariants.{Group}
use Rattle.district_table.specs.DistrictTable.{set_label}
use Rattle.district_table.proofs.Blanks.{blanks_before}
use Rattle.district_table.proofs.table.push_set_labels.Goals as goal

pub returns-in_ok-push_set_label-in-len1-up : goal.returns-in_ok-push_set_label-in-len1-up
returns-in_ok-push_set_label-in-len1-up c =
    let label = c.in_ok-push_set_label-in-len1-up.ensures in
    let text = rw label at c.push_further_labels.ensures in
    rw (blanks_before set_label c.args.out.now.items c.args.sets.now (Group 0) c.in-len1-up.len_at_least) text
