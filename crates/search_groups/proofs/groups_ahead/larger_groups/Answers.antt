use Rattle.std.proofs.Common.{◌∙◌, sym, subst}
use Rattle.certificate_laws.specs.Fitting.{IsLive}
use Rattle.state_groups.specs.PlacedValues.{codes_of_sets}
use Rattle.search_groups.specs.KnownGroups.{AreThose}
use Rattle.search_groups.specs.Positions.{search_problem, search_state}
use Rattle.search_groups.proofs.NextMoves.{larger_fit, listed_at}
use Rattle.search_groups.proofs.groups_ahead.larger_groups.Goals.{in-Some, in-None}
use Rattle.search_groups.proofs.groups_ahead.larger_groups.Goals as goal

pub returns-in-Ok-clause-larger : goal.returns-in-Ok-clause-larger
returns-in-Ok-clause-larger g c =
    let test = g.C.CountySet.test in
    let input = c.args.input.now in
    let at = c.args.position.now in
    let order = input.graph.now.ordered.now.order in
    let s = search_state input test at.state in
    elim c.match-larger.branch [
      | in-Some w ↦
          let ok = sym w.found-is ∙ c.in-Ok.is in
          listed_at g.row.C.Denot test g.C.CountySet.PLACES input c.requires.input c.requires.input.graph.order s at c.requires.at _ (rw ok at w.live_groups-found.ensures.below)
          (larger_fit g.row.C.Denot test g.C.CountySet.PLACES input c.requires.input c.requires.input.graph.order s at c.requires.at w.in-Some.larger (codes_of_sets order test c.in-Ok.groups.items) (rw w.in-Some.is at c.requires.at.larger)
          (subst (λ z. AreThose order (IsLive (search_problem input) s) (codes_of_sets order test z) (codes_of_sets order test c.in-Ok.groups.items)) w.deref.ensures.value (rw ok at w.live_groups-found.ensures.those)))
      | in-None w ↦
          let ok = sym w.found-is ∙ c.in-Ok.is in
          listed_at g.row.C.Denot test g.C.CountySet.PLACES input c.requires.input c.requires.input.graph.order s at c.requires.at _ (rw ok at w.all_groups_of_size-found.ensures.below) (rw ok at w.all_groups_of_size-found.ensures.groups)
    ]
