use Rattle.connected_laws.proofs.Growing.{leaf_kept, fork_kept, none_kept}
use Rattle.connected_laws.proofs.laws.growing_finds_each_once.Goals as goal

pub returns-clause-leaf : goal.returns-clause-leaf
returns-clause-leaf c = leaf_kept

pub returns-clause-fork : goal.returns-clause-fork
returns-clause-fork c = fork_kept

pub returns-clause-early : goal.returns-clause-early
returns-clause-early c = none_kept
