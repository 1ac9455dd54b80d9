use Rattle.std.proofs.Common.{arith}
use Rattle.std.proofs.lemmas.Bool.{false≢true}
use Rattle.state_groups.specs.PlacedValues.{codes_of_set}
use Rattle.state_judge.proofs.TakeLemmas.{none_listed}
use Rattle.state_judge.proofs.branch.is_listed.Goals as goal

pub returns : goal.returns
returns g c =
    (λ k. absurd (false≢true k), λ k. absurd (none_listed (codes_of_set c.args.ordered.now.order g.C.CountySet.test) c.args.sets.now c.args.codes.now (λ j d l e. c.loop-set.invariant j d (omega (arith, l, c.loop-set-test.false)) l e) k))
