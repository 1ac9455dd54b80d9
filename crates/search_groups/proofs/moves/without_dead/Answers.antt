use Rattle.std.proofs.Common.{refl, subst}
use Rattle.state_groups.specs.PlacedValues.{codes_of_sets}
use Rattle.certificate_laws.specs.Fitting.{IsLive}
use Rattle.search_groups.specs.KnownGroups.{AreThose}
use Rattle.search_groups.specs.Positions.{search_problem, search_state}
use Rattle.search_groups.proofs.NextMoves.{live_at}
use Rattle.search_groups.proofs.moves.without_dead.Goals as goal

pub returns-in-Ok-clause-at : goal.returns-in-Ok-clause-at
returns-in-Ok-clause-at g c =
    let test = g.C.CountySet.test in
    let input = c.args.input.now in
    let order = input.graph.now.ordered.now.order in (
      live_at g.row.C.Denot test g.C.CountySet.PLACES input c.requires.input c.requires.input.graph.order (search_state input test c.args.position.state) c.args.position c.requires.at _ refl refl c.in-Ok.ensures.below
          (subst (λ z. AreThose order (IsLive (search_problem input) (search_state input test c.args.position.state)) (codes_of_sets order test z) (codes_of_sets order test c.in-Ok.groups.items)) c.deref.ensures.value c.in-Ok.ensures.those)
          refl,
      refl,
      refl,
    )
