use Rattle.checker_laws.proofs.Examples.{untaken_misses, strayed_strays}
use Rattle.checker_laws.proofs.laws.first_faults.Goals as goal

pub returns-clause-missing : goal.returns-clause-missing
returns-clause-missing c = untaken_misses

pub returns-clause-stray : goal.returns-clause-stray
returns-clause-stray c = strayed_strays
