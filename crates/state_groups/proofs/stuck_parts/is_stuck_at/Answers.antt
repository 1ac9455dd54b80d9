use Rattle.std.proofs.Common.{length}
use Rattle.place_sets.specs.PlaceSets.{places_of}
use Rattle.connected_laws.proofs.PlaceLists.{placed}
use Rattle.county_problem.specs.OrderedValue.{problem_at}
use Rattle.state_groups.specs.StateValue.{state_of}
use Rattle.certificate_laws.proofs.Decided.{leaves_are_decided}
use Rattle.state_groups.proofs.stuck_parts.is_stuck_at.Goals as goal

pub is_stuck-requires-clause-below : goal.is_stuck-requires-clause-below
is_stuck-requires-clause-below g c = λ x e. c.requires.below x (c.in_ok-part.ensures.inside x e)

pub returns : goal.returns
returns g c =
    let test = g.C.CountySet.test in
    let p = problem_at c.args.graph.now.ordered.now in
    let s = state_of test c.args.state.now in
    let n = length c.args.graph.now.ordered.now.order in
    let xs = places_of n (test c.in_ok-part.part) in
    let has = placed n c.args.place (test c.in_ok-part.part) (c.requires.below c.args.place c.requires.there) c.in_ok-part.ensures.around in (
      λ e. record { part = xs; is_part = c.in_ok-part.ensures.part; around = has; cannot_fill = c.is_stuck.ensures.0 e },
      λ v. c.is_stuck.ensures.1 (leaves_are_decided.stuck p s xs c.args.place c.in_ok-part.ensures.part has v),
    )
