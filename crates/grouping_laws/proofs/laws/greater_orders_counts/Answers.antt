use Rattle.grouping_laws.proofs.Order.{greater_irreflexive, greater_transitive, greater_total}
use Rattle.grouping_laws.proofs.laws.greater_orders_counts.Goals as goal

pub returns-clause-irreflexive : goal.returns-clause-irreflexive
returns-clause-irreflexive c = greater_irreflexive

pub returns-clause-transitive : goal.returns-clause-transitive
returns-clause-transitive c = greater_transitive

pub returns-clause-total : goal.returns-clause-total
returns-clause-total c = greater_total
