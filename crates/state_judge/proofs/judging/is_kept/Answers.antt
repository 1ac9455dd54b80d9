use Rattle.std.proofs.Common.{length, subst, sym, IfOk, IsTrue, ◌↔◌}
use Rattle.place_sets.specs.PlaceSets.{places_of}
use Rattle.county_problem.specs.OrderedValue.{problem_at}
use Rattle.certificate_data.specs.declared.format.Format.{Format}
use Rattle.certificate_laws.specs.Fitting.{IsKept}
use Rattle.state_groups.specs.StateValue.{state_of}
use Rattle.state_judge.proofs.judging.is_kept.Goals as goal

pub returns-in-Wide : goal.returns-in-Wide
returns-in-Wide g c =
    let test = g.C.CountySet.test in
    let ordered = c.args.graph.now.ordered.now in
    let places = places_of (length ordered.order) (test c.args.group.now) in
    subst (λ (z : Format). IfOk c.is_live.result (λ kept. IsTrue kept ↔ IsKept z (problem_at ordered) (state_of test c.args.state.now) places)) (sym c.in-Wide.is) c.is_live.ensures
