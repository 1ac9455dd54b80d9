use Rattle.std.proofs.Common.{◌+◌, ◌*◌, ◌≤◌, refl, sym, ap, subst, arith}
use Rattle.std.specs.Vec.{vec_items}
use Rattle.county_codes.specs.Limits.{most_counties}
use Rattle.grouping_laws.specs.Grouping.{counts, sets_of}
use Rattle.search_groups.specs.Positions.{search_problem, search_round, search_state}
use Rattle.bound_proofs.proofs.CountBounds.{reached_first, reached_next, bound_at_loss, none_at_more}
use Rattle.bound_proofs.proofs.CountSteps.{list_here}
use Rattle.bound_proofs.proofs.bound.lines_to_bound.Goals as goal

pub loop-groups-init : goal.loop-groups-init
loop-groups-init g c = record {
  size = refl;
  few = omega arith;
  reached = reached_first (search_problem c.args.input.now) (search_round c.args.input.now) (search_state c.args.input.now g.C.CountySet.test c.args.state.now) (counts (sets_of c.args.target.now.groups.items));
}

pub overflow_add-size : goal.overflow_add-size
overflow_add-size g c = omega (arith, c.loop-groups.invariant.size, c.loop-groups-test.true, c.requires.few)

pub count_allowance-requires-clause-groups : goal.count_allowance-requires-clause-groups
count_allowance-requires-clause-groups g c =
    list_here vec_items g.C.CountySet.test c.args.input.now.graph.now.ordered.now.order (search_problem c.args.input.now) (search_round c.args.input.now) (search_state c.args.input.now g.C.CountySet.test c.args.state.now) c.args.lists.now c.loop-groups.groups-index (c.loop-groups.size + 1) c.groups-item.result c.deref.result.now
    c.requires.each c.loop-groups-test.true c.groups-item.is c.deref.ensures.value (omega (arith, c.loop-groups.invariant.size))

pub returns-then-allowed-wanted : goal.returns-then-allowed-wanted
returns-then-allowed-wanted g c =
    let inv = c.loop-groups.invariant in
    none_at_more (search_problem c.args.input.now) (search_round c.args.input.now) (search_state c.args.input.now g.C.CountySet.test c.args.state.now) (counts (sets_of c.args.target.now.groups.items)) c.loop-groups.size c.loop-groups.used c.in_ok-more.more c.in_ok-more.ensures.line inv.reached
    (omega (arith, inv.size, c.loop-groups-test.true, c.requires.few)) (omega (arith, c.if-allowed-wanted.true, c.closed_of_size.ensures.value, c.groups_of_size-wanted.ensures)) _

pub returns-then-allowed-wanted-2 : goal.returns-then-allowed-wanted-2
returns-then-allowed-wanted-2 g c =
    let inv = c.loop-groups.invariant in (
      omega (arith, inv.size, c.loop-groups-test.true),
      bound_at_loss (search_problem c.args.input.now) (search_round c.args.input.now) (search_state c.args.input.now g.C.CountySet.test c.args.state.now) (counts (sets_of c.args.target.now.groups.items)) c.loop-groups.size c.loop-groups.used c.in_ok-more.more c.in_ok-more.ensures.line inv.reached
          (omega (arith, inv.size, c.loop-groups-test.true, c.requires.few)) (omega (arith, c.if-allowed-wanted-2.true, c.closed_of_size.ensures.value, c.groups_of_size-wanted.ensures)) (c.loop-groups.size + 1) refl,
    )

pub loop-groups-preserved : goal.loop-groups-preserved
loop-groups-preserved g c =
    let inv = c.loop-groups.invariant in
    record {
      size = omega (arith, inv.size);
      few = subst (λ n. c.loop-groups.used + n * c.in_ok-more.more ≤ most_counties) (sym c.from.ensures) c.in_ok-more.ensures.few.1;
      reached = reached_next (search_problem c.args.input.now) (search_round c.args.input.now) (search_state c.args.input.now g.C.CountySet.test c.args.state.now) (counts (sets_of c.args.target.now.groups.items)) c.loop-groups.size c.loop-groups.used c.in_ok-more.more c.in_ok-more.ensures.line inv.reached
          (omega (arith, inv.size, c.loop-groups-test.true, c.requires.few)) (omega (arith, c.if-allowed-wanted.false, c.if-allowed-wanted-2.false, c.closed_of_size.ensures.value, c.groups_of_size-wanted.ensures)) (c.loop-groups.size + 1) (c.loop-groups.used + c.from.result * c.in_ok-more.more)
          refl (ap (λ n. c.loop-groups.used + n * c.in_ok-more.more) c.from.ensures);
    }
