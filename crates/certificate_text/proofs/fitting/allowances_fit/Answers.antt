use Rattle.std.proofs.Common.{◌-◌, ℕ, true, false, length, refl}
use Rattle.certificate_lines.specs.Fitting.{IsWanted}
use Rattle.certificate_data.specs.declared.allowance.Allowance.{Allowance}
use Rattle.certificate_data.specs.declared.allowance.Allowance.TheVariants.{Room, Weigh}
use Rattle.certificate_lines.specs.declared.item.Item.TheVariants as item
use Rattle.certificate_lines.specs.declared.item.Wanted.TheVariants as want
use Rattle.certificate_text.proofs.FitLaws.{run_goes, run_stops}
use Rattle.certificate_text.proofs.fitting.allowances_fit.Goals as goal

-- how many lines are wanted is no matter
fits_at : (n m : ℕ) (a : Allowance) → IsWanted (want.Allowances n) (item.Allows a) → IsWanted (want.Allowances m) (item.Allows a)
fits_at n m Room h = h
fits_at n m (Weigh quota ws) h = h

pub returns-then-not-allowance_fits : goal.returns-then-not-allowance_fits
returns-then-not-allowance_fits c =
    run_stops want.Allowances item.Allows (λ n x. refl) c.args.allowances.now c.loop-allowance.allowance-index c.allowance-item.result c.allowance-item.is c.loop-allowance-test.true c.loop-allowance.invariant
    (λ h.
    let yes = c.allowance_fits.ensures.1 (fits_at (length c.args.allowances.now - c.loop-allowance.allowance-index) 1 c.allowance-item.result h) in
    cc (yes, c.if-not-allowance_fits.true))

pub loop-allowance-preserved : goal.loop-allowance-preserved
loop-allowance-preserved c =
    run_goes want.Allowances item.Allows (λ n x. refl) c.args.allowances.now c.loop-allowance.allowance-index c.allowance-item.result c.allowance-item.is c.loop-allowance-test.true c.loop-allowance.invariant
    (fits_at 1 (length c.args.allowances.now - c.loop-allowance.allowance-index) c.allowance-item.result (c.allowance_fits.ensures.0 c.if-not-allowance_fits.false))
