use Rattle.std.proofs.Common.{◌&&◌, length, ap, ◌∙◌}
use Rattle.connected_laws.proofs.Fronts.{start_front}
use Rattle.connected_sets.specs.Graphs.{problem_at}
use Rattle.connected_sets.proofs.RowLemmas.{row_named}
use Rattle.connected_sets.proofs.start.start_growth.Goals as goal

pub returns-clause-front : goal.returns-clause-front
returns-clause-front g c =
    let test = g.C.CountySet.test in
    let p = problem_at c.args.graph.now.ordered.now in
    let n = length c.args.graph.now.ordered.now.order in
    start_front p n c.args.place (test c.in_ok-set.set) (test c.args.free) (test c.index.result.now) (test c.intersection-front.result) c.in_ok-set.ensures c.requires.below
    (row_named g.row.C.Denot test p n c.args.graph.now.near.items c.requires.graph.rows c.args.place c.from.result c.index.result.now c.from.ensures c.index.ensures c.requires.place)
    (λ x. c.intersection-front.ensures.places x ∙ ap (λ z. z && test c.args.free x) (c.in_ok-beside.ensures.places x))
