use Rattle.certificate_data.specs.TreeValue.{allowance_of}
use Rattle.search_groups.specs.Positions.{search_problem, search_state}
use Rattle.search_ends.proofs.EmptyBounds.{pushed_empty}
use Rattle.search_ends.proofs.empty_leaves.empty_lines.Goals as goal

pub loop-below-preserved : goal.loop-below-preserved
loop-below-preserved g c =
    pushed_empty allowance_of (search_problem c.args.input.now) (search_state c.args.input.now g.C.CountySet.test c.args.state.now) c.loop-below.below c.loop-below.lines.items c.push.new.self.items c.in_ok-empty_line.field-0
    c.in_ok-push.ensures.items c.loop-below.invariant c.in_ok-empty_line.ensures
