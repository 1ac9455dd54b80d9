use Rattle.std.proofs.Common.{refl}
use Rattle.std.proofs.lemmas.Iterator.Consumers.{nth_from_yields_List, YieldsList-from_first}
use Rattle.pl94_counties.proofs.FieldLemmas.{left_after_skip}
use Rattle.pl94_counties.proofs.fields.field_after.Goals as goal

pub returns-clause-field : goal.returns-clause-field
returns-clause-field c = nth_from_yields_List c.nth.result _ c.args.skipped c.nth.ensures.ran (YieldsList-from_first (λ x. x.now) (λ s. s) _ refl)

pub returns-clause-rest : goal.returns-clause-rest
returns-clause-rest c = left_after_skip (λ x. x.now) (λ s. s) _ c.args.skipped c.nth.result _ c.nth.ensures.ran
