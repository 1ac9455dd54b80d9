use Rattle.adjacency_reader.proofs.PairLemmas.{after_add, apart_from}
use Rattle.adjacency_reader.proofs.pairs.add_pair.Goals as goal

pub returns-in_ok-insert : goal.returns-in_ok-insert
returns-in_ok-insert c = after_add _ c.args.a c.args.b c.args.pairs.now c.insert.new.self c.in_order.ensures (apart_from c.args.a c.args.b c.if-ne.ensures) c.in_ok-insert.ensures.updates.0
