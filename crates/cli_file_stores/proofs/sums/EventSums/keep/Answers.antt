use Rattle.cli_file_stores.proofs.SumLemmas.{none_kept}
use Rattle.cli_file_stores.proofs.sums.EventSums.keep.Goals as goal

pub invariant_of-self : goal.invariant_of-self
invariant_of-self c = (c.self.invariant.0, none_kept c.self.inside.log.events c.new.result.items c.new.ensures.items)
