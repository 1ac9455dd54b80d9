use Rattle.search_groups.proofs.moves.position_at.Goals as goal
use Rattle.search_groups.proofs.KnownGroups.{known_serves}
use Rattle.std.proofs.Common.{length, subst, sym, arith}
use Rattle.search_groups.specs.Positions.{search_problem, search_round, search_state}
use Rattle.state_groups.specs.PlacedValues.{codes_of_sets}
use Rattle.search_groups.specs.KnownGroups.{IsKnown}
use Rattle.connected_laws.specs.Listing.{AreBelow}

pub returns : goal.returns
returns g c =
    let test = g.C.CountySet.test in
    let input = c.args.input.now in
    let s = search_state input test c.args.state.now in
    record {
      at = record {
        placed = c.in_ok-copied_state.ensures.placed;
        is = c.in_ok-copied_state.ensures.value;
        state = c.requires.state;
        small = omega arith;
        below = subst (AreBelow (length input.graph.now.ordered.now.order) test) (sym c.new.ensures.items) (λ k d l. absurd (omega (arith, l)));
        known = subst (λ z. IsKnown (search_problem input) (search_round input) s 0 (codes_of_sets input.graph.now.ordered.now.order test z)) (sym c.new.ensures.items) (known_serves.first (search_problem input) (search_round input) s);
        larger = tt;
      };
    }
