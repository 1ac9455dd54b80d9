use Rattle.std.proofs.Common.{◌≡◌, List, sym, ap, ◌∙◌, subst, length}
use Rattle.std.proofs.lemmas.List.{length-map}
use Rattle.grouping_laws.specs.Ranges.{seated, SuitAll}
use Rattle.county_problem.specs.ProblemValue.{problem_of}
use Rattle.connected_laws.specs.Listing.{AreBelow}
use Rattle.certificate_data.specs.RoundValue.{round_of}
use Rattle.state_groups.specs.PlacedValues.{state_at, codes_of_set, codes_of_sets}
use Rattle.search_ends.specs.FinishedStates.{CoverOnce, CanSeat}
use Rattle.search_ends.proofs.SeatLemmas.{as_many}
use Rattle.search_ends.proofs.Finishing.{IsEnd, cover_once, can_seat}
use Rattle.search_ends.proofs.WholeParts.{sets_differ, groups_found, groups_in_turn, groups_in_order, groups_lines}
use Rattle.search_ends.proofs.finished_groupings.finished_grouping.Goals as goal

pub seats_for-requires : goal.seats_for-requires
seats_for-requires g c =
    let test = g.C.CountySet.test in
    let order = c.args.input.now.graph.now.ordered.now.order in
    let p = problem_of c.args.input.now.graph.now.ordered.now.problem in
    let r = round_of c.args.input.now.round.now in
    let s = state_at order test c.args.state.now in
    let codes = codes_of_sets order test c.in_ok-sets.sets.items in
    let held = sym c.deref.ensures.value in
    let end : IsEnd p r s = record { is_problem = c.problem-problem.ensures.law; state = c.requires.state; none = c.requires.none; ahead = c.requires.ahead; no_stuck = c.requires.no_stuck; no_seats = c.requires.no_seats } in
    record {
      below = subst (λ (z : List g.row.C.Denot). AreBelow (length order) test z) held c.in_ok-sets.ensures.below;
      once = subst (λ (z : List g.row.C.Denot). CoverOnce p (codes_of_sets order test z)) held (cover_once p r s codes end c.in_ok-sets.ensures.finished);
      some = subst (λ (z : List g.row.C.Denot). CanSeat p (codes_of_sets order test z)) held (can_seat p r s codes end c.in_ok-sets.ensures.finished);
    }

pub seated_groups-requires-clause-each : goal.seated_groups-requires-clause-each
seated_groups-requires-clause-each g c =
    let test = g.C.CountySet.test in
    let order = c.args.input.now.graph.now.ordered.now.order in
    let many = as_many (problem_of c.args.input.now.graph.now.ordered.now.problem) (codes_of_sets order test c.deref.result.now) c.in_ok-seats.seats.items c.in_ok-seats.ensures.suit in
    ap length c.deref-3.ensures.value ∙ (many ∙ (length-map c.deref.result.now (codes_of_set order test) ∙ ap length (c.deref.ensures.value ∙ sym c.deref-2.ensures.value)))

pub returns : goal.returns
returns g c =
    let test = g.C.CountySet.test in
    let order = c.args.input.now.graph.now.ordered.now.order in
    let p = problem_of c.args.input.now.graph.now.ordered.now.problem in
    let r = round_of c.args.input.now.round.now in
    let s = state_at order test c.args.state.now in
    let whole = c.requires.graph.order in
    let sets = c.in_ok-sets.sets.items in
    let seats = c.in_ok-seats.seats.items in
    let groups = c.in_ok-seated_groups.field-0.items in
    let are = c.in_ok-sets.ensures.finished in
    let end : IsEnd p r s = record { is_problem = c.problem-problem.ensures.law; state = c.requires.state; none = c.requires.none; ahead = c.requires.ahead; no_stuck = c.requires.no_stuck; no_seats = c.requires.no_seats } in
    let suit : SuitAll p (codes_of_sets order test sets) seats = subst (λ (z : List g.row.C.Denot). SuitAll p (codes_of_sets order test z) seats) c.deref.ensures.value c.in_ok-seats.ensures.suit in
    let e : groups ≡ seated (codes_of_sets order test sets) seats =
    c.in_ok-seated_groups.ensures.groups ∙ (ap (λ (z : List g.row.C.Denot). seated (codes_of_sets order test z) c.deref-3.result.now) c.deref-2.ensures.value ∙ ap (seated (codes_of_sets order test sets)) c.deref-3.ensures.value) in
    record {
      found = groups_found test p r s order whole end sets are seats groups suit e c.in_ok-seats.ensures.sum;
      in_turn = groups_in_turn test p r s order whole end sets are seats groups suit e (c.in_ok-sets.ensures.in_turn (sets_differ test p r s order whole end sets are));
      in_order = groups_in_order test p r s order whole end sets are seats groups suit e;
      lines = groups_lines test p r s order whole end sets are seats groups suit e c.requires.graph.few c.in_ok-seated_groups.ensures.numbers;
    }
