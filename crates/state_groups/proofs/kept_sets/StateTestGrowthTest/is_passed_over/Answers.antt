use Rattle.state_groups.proofs.kept_sets.StateTestGrowthTest.is_passed_over.Goals as goal

pub returns : goal.returns
returns g c = record { passed = c.is_passed_over.ensures }
