use Rattle.std.proofs.lemmas.Iterator.Consumers.{nth_from_yields_List, YieldsList-from_first}
use Rattle.field_lines.proofs.number.field_at.Goals as goal

pub returns : goal.returns
returns c = nth_from_yields_List c.nth.result _ c.args.index c.nth.ensures.ran (YieldsList-from_first (λ x. x.now) (λ s. s) _ c.new.ensures.fields)
