use Rattle.std.proofs.Common.{length}
use Rattle.certificate_lines.specs.Lines.{most}
use Rattle.certificate_text.proofs.TreeFits.{bound_unfit}
use Rattle.certificate_text.proofs.PartsTested.{passed, failed, bound_tested}
use Rattle.certificate_text.proofs.fitting.bound_fits.Goals as goal

pub returns-then-not-are_few : goal.returns-then-not-are_few
returns-then-not-are_few c format levels =
    bound_unfit format levels c.args.allowances.now (λ few. failed c.are_few.result (length c.args.allowances.now) most c.are_few.ensures c.if-not-are_few.true few)

pub returns : goal.returns
returns c format levels =
    bound_tested format levels c.args.allowances.now c.allowances_fit.result (passed c.are_few.result (length c.args.allowances.now) most c.are_few.ensures c.if-not-are_few.false) c.allowances_fit.ensures
