use Rattle.std.proofs.Common.{arith}
use Rattle.std.specs.Vec.{vec_items}
use Rattle.county_problem.specs.ProblemValue.{problem_of}
use Rattle.certificate_data.specs.RoundValue.{round_of}
use Rattle.state_groups.specs.PlacedValues.{state_at}
use Rattle.worked_calls.proofs.GroupLists.{pushed_list}
use Rattle.worked_calls.proofs.certificates.leaves.groups_by_size.Goals as goal

pub loop-below-preserved : goal.loop-below-preserved
loop-below-preserved g c =
    let order = c.args.graph.now.ordered.now.order in
    let inv = c.loop-below.invariant in
    let found = c.in_ok-groups.ensures in
    record {
      count = omega (arith, c.in_ok-push.ensures.len, inv.count);
      lists = pushed_list vec_items g.C.CountySet.test order (problem_of c.args.graph.now.ordered.now.problem) (round_of c.args.round.now) (state_at order g.C.CountySet.test c.args.state.now) c.loop-below.below c.loop-below.lists.items c.push.new.self.items
          c.in_ok-groups.groups c.in_ok-push.ensures.items inv.count inv.lists (record { groups = found.groups; below = found.below });
    }
