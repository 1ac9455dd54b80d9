use Rattle.std.proofs.Common.{sym, subst, arith, List, ◌≡◌}
use Rattle.certificate_data.specs.RoundValue.{round_of}
use Rattle.connected_sets.specs.Graphs.{graph_problem, graph_order}
use Rattle.state_groups.specs.PlacedValues.{codes_of_sets}
use Rattle.state_judge.specs.Candidates.{AreCandidates, AreCandidateSets}
use Rattle.certificate_checker.proofs.known.known_candidates.Goals as goal

pub returns-then-position-size : goal.returns-then-position-size
returns-then-position-size g c = λ input s known.
    let test = g.C.CountySet.test in
    let order = graph_order input.graph.now in
    let p = graph_problem input.graph.now in
    let round = round_of input.round.now in
    let position = c.in-Some.position in
    let at = (rw c.in-Some.is at known).1 in
    let size : position.size ≡ c.args.size = omega (arith, c.if-position-size.true) in
    let sets = position.groups.items in
    let are : AreCandidates p round s position.size (codes_of_sets order test sets) = record { each = at.known.each; all = at.known.all; sorted = at.known.sorted } in
    let held : AreCandidateSets test order p round s position.size sets = record { below = at.below; are = are } in
    subst (λ (z : List g.row.C.Denot). AreCandidateSets test order p round s c.args.size z) (sym c.as_slice.ensures.value) (subst (λ n. AreCandidateSets test order p round s n sets) size held)
