use Rattle.std.proofs.Common.{◌∙◌, sym}
use Rattle.place_sets.proofs.MadeSets.{put_next, skip_next}
use Rattle.connected_sets.specs.Graphs.{problem_at}
use Rattle.connected_sets.proofs.rows.row.Goals.{then-touch+in_ok-near-2, else-touch}
use Rattle.connected_sets.proofs.rows.row.Goals as goal

pub loop-other-preserved : goal.loop-other-preserved
loop-other-preserved g c =
    let test = g.C.CountySet.test in
    let adjacent = (problem_at c.args.ordered.now).adjacent c.args.place in
    let before = c.loop-other.invariant in
    elim c.if-touch.branch [
      | then-touch+in_ok-near-2 w ↦ rw w.near-is (put_next adjacent (test c.loop-other.near) (test w.in_ok-near-2.near) c.loop-other.other before w.in_ok-near-2.ensures.places (sym c.touch.ensures.value ∙ w.if-touch.true))
      | else-touch w ↦ rw w.near-is (skip_next adjacent (test c.loop-other.near) c.loop-other.other before (sym c.touch.ensures.value ∙ w.if-touch.false))
    ]
