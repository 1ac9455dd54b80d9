use Rattle.std.proofs.Common.{length}
use Rattle.certificate_lines.specs.Lines.{most}
use Rattle.certificate_text.proofs.PartsTested.{passed, failed, groups_tested, groups_unfit}
use Rattle.certificate_text.proofs.fitting.counted_groups_fit.Goals as goal

pub returns-then-not-are_few : goal.returns-then-not-are_few
returns-then-not-are_few c =
    groups_unfit c.args.groups.now (λ few. failed c.are_few.result (length c.args.groups.now) most c.are_few.ensures c.if-not-are_few.true few)

pub returns : goal.returns
returns c =
    groups_tested c.args.groups.now c.groups_fit.result (passed c.are_few.result (length c.args.groups.now) most c.are_few.ensures c.if-not-are_few.false) c.groups_fit.ensures
