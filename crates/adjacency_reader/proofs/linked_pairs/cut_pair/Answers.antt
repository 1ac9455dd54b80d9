use Rattle.adjacency_reader.proofs.PairLemmas.{after_cut, apart_from}
use Rattle.adjacency_reader.proofs.linked_pairs.cut_pair.Goals as goal

pub returns-then-ne : goal.returns-then-ne
returns-then-ne c = after_cut _ c.args.a c.args.b c.args.pairs.now c.remove.new.self c.in_order.ensures (apart_from c.args.a c.args.b c.if-ne.ensures) c.remove.ensures.updates.0
