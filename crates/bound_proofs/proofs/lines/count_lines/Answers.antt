use Rattle.std.proofs.Common.{◌+◌, arith}
use Rattle.std.specs.Vec.{vec_items}
use Rattle.county_problem.specs.ProblemValue.{problem_of}
use Rattle.certificate_data.specs.TreeValue.{allowance_of}
use Rattle.bound_proofs.proofs.CountBounds.{pushed_line}
use Rattle.bound_proofs.proofs.CountSteps.{list_here}
use Rattle.bound_proofs.proofs.lines.count_lines.Goals as goal

pub loop-groups-preserved : goal.loop-groups-preserved
loop-groups-preserved g c =
    let p = problem_of c.args.ordered.now.problem in
    let order = c.args.ordered.now.order in
    let inv = c.loop-groups.invariant in
    record {
      size = omega (arith, inv.size);
      count = omega (arith, c.in_ok-push.ensures.len, inv.count);
      lines = λ round s e are.
          let here = list_here vec_items g.C.CountySet.test order p round s c.args.lists.now c.loop-groups.groups-index (c.loop-groups.size + 1) c.groups-item.result c.deref.result.now are c.loop-groups-test.true c.groups-item.is c.deref.ensures.value (omega (arith, inv.size)) in
          pushed_line allowance_of round.format p s c.loop-groups.lines.items c.push.new.self.items c.in_ok-count_line.field-0 (c.loop-groups.size + 1) c.in_ok-push.ensures.items (inv.lines round s e are) (omega (arith, inv.size, inv.count)) (c.in_ok-count_line.ensures round s e here);
    }
