use Rattle.grouping_laws.proofs.AddUp.{sizes_add_up, windows_add_up, groups_fit}
use Rattle.grouping_laws.proofs.laws.groups_add_up.Goals as goal

pub returns-clause-sizes : goal.returns-clause-sizes
returns-clause-sizes c = sizes_add_up

pub returns-clause-windows : goal.returns-clause-windows
returns-clause-windows c = windows_add_up

pub returns-clause-fit : goal.returns-clause-fit
returns-clause-fit c = groups_fit
