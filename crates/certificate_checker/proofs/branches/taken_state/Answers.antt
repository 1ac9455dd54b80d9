use Rattle.state_groups.specs.PlacedValues.{IsClosable}
use Rattle.certificate_checker.proofs.Takes.{first_set}
use Rattle.certificate_checker.proofs.branches.taken_state.Goals as goal

pub judge_take-requires-clause-below : goal.judge_take-requires-clause-below
judge_take-requires-clause-below g c = λ k d h x t. c.requires.placed.rest x ((c.requires.groups k d h).inside x t)

pub closed_state-requires-clause-group : goal.closed_state-requires-clause-group
closed_state-requires-clause-group g c = first_set _ (IsClosable g.C.CountySet.test c.args.state.now) c.args.left.now _ _ c.in-Some.ensures.cases c.requires.groups
