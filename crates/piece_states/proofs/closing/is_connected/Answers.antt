use Rattle.std.proofs.Common.{arith}
use Rattle.std.proofs.lemmas.Bool.{false≢true}
use Rattle.connected_sets.specs.Graphs.{graph_places, place_problem}
use Rattle.piece_states.proofs.Groups.{connected_by_size, none_connected}
use Rattle.piece_states.proofs.closing.is_connected.Goals as goal

pub returns-in_default : goal.returns-in_default
returns-in_default g c = (
  λ e. absurd (false≢true e),
  λ connected. absurd (none_connected (place_problem c.args.graph.now) (graph_places c.args.graph.now) (g.C.CountySet.test c.args.group.now) (λ x. c.in_default.ensures.least x (omega arith)) connected),
)

pub returns : goal.returns
returns g c =
    let test = g.C.CountySet.test in
    connected_by_size (place_problem c.args.graph.now) (graph_places c.args.graph.now) (test c.args.group.now) (test c.in_ok-part.part) c.in-Some.first c.size.result c.size-2.result c.requires.below
    c.in_ok-part.ensures.inside c.in_ok-part.ensures.part c.in_ok-part.ensures.around c.size.ensures.count c.size-2.ensures.count
