use Rattle.std.proofs.Common.{◌≡◌, All, None, sym, ◌∙◌, subst, arith}
use Rattle.grouping_laws.proofs.Elements.{has_all}
use Rattle.county_problem.specs.OrderedValue.{code_at}
use Rattle.state_groups.specs.PlacedValues.{codes_of_set, IsClosable}
use Rattle.certificate_laws.specs.State.{IsState, raise}
use Rattle.certificate_laws.proofs.Branches.{branch_keeps_state}
use Rattle.branch_bound.specs.Searching.{search_problem, search_round, search_state, IsOutcome}
use Rattle.grouping_laws.specs.GroupsFrom.{IsOrder}
use Rattle.board_laws.specs.PartialTrees.{open_leaf}
use Rattle.partial_trees.specs.PartialValue.{partial_of}
use Rattle.branch_bound.specs.Parts.{IsOpenPart}
use Rattle.branch_bound.proofs.OpenParts.{open_leaf_part, stopped_outcome}
use Rattle.branch_bound.specs.PlainRounds.{IsNextPlainMove}
use Rattle.branch_bound.proofs.Joining.{plain_names, plain_fits}
use Rattle.branch_bound.proofs.Searches.{better_behind, listed, some_items, GroupsAt, TakesAt, TakenAt, group_there, stopped_there, takes_more, leaf_end, behind_more}
use Rattle.branch_bound.proofs.plain_search.+proving_plain.Goals as goal

pub prove_plain-returns-in-Ok-Leaf-clause-outcome : goal.prove_plain-returns-in-Ok-Leaf-clause-outcome
prove_plain-returns-in-Ok-Leaf-clause-outcome g t c =
    leaf_end c.branching.branches c.in-Ok-Leaf.leaf c.branching.invariant.behind
    (subst (λ z. IsNextPlainMove g.C.CountySet.test c.args.input.now (search_state c.args.input.now g.C.CountySet.test c.branching.state) z) c.in-Ok-Leaf.field-0-is c.in-Ok-Leaf.ensures.next_move)

pub prove_plain-returns-in-Ok-Better-clause-outcome : goal.prove_plain-returns-in-Ok-Better-clause-outcome
prove_plain-returns-in-Ok-Better-clause-outcome g t c =
    better_behind c.branching.invariant.behind c.in-Ok-Better.found
    (subst (λ z. IsNextPlainMove g.C.CountySet.test c.args.input.now (search_state c.args.input.now g.C.CountySet.test c.branching.state) z) c.in-Ok-Better.field-0-is c.in-Ok-Better.ensures.next_move)

pub prove_plain-branching-preserved : goal.prove_plain-branching-preserved
prove_plain-branching-preserved g t c =
    let test = g.C.CountySet.test in
    let input = c.args.input.now in
    let inv = c.branching.invariant in
    let e = c.in-Ok-Branch.ensures in
    let f = c.prove_plain_takes.ensures in
    let p = search_problem input in
    let round = search_round input in
    let s = search_state input test c.branching.state in
    let next = search_state input test c.raise_place.new.state in
    let county = code_at input.graph.now.ordered.now.order c.in-Ok-Branch.place in
    let v = subst (λ z. IsNextPlainMove test input s z) c.in-Ok-Branch.field-0-is e.next_move in
    let all = subst (TakesAt test input c.branching.state c.in-Ok-Branch.place input.round.now.limit) c.in-Proved.is c.in_ok-takes-in-Ok-Branch.ensures.takes in
    let raised : next ≡ raise county input.round.now.limit s = c.raise_place.ensures.value in
    record {
      at = record {
        placed = c.raise_place.ensures.placed;
        state = subst (IsState p round) (sym raised) ((branch_keeps_state).raised_state p round s county input.round.now.limit inv.at.state v.1);
      };
      behind = behind_more p round (search_state input test c.args.state) s next c.branching.branches.items c.push_branch.new.branches.items county None c.in-Proved.takes inv.behind (subst (IsOrder p) c.requires.input.order c.requires.input.graph.order) inv.at.state (omega arith) c.requires.input.small
          (plain_names round.format c.requires.input.plain) v.1 (plain_fits round.format county c.requires.input.plain c.push_branch.ensures.county) all c.in_ok-push_branch-in-Proved.ensures.pushed raised;
      more = omega (arith, inv.more, e.more, f.more);
      limit = f.limit ∙ e.limit ∙ inv.limit;
    }

pub prove_plain-returns-in-Better-clause-outcome : goal.prove_plain-returns-in-Better-clause-outcome
prove_plain-returns-in-Better-clause-outcome g t c =
    better_behind c.branching.invariant.behind c.in-Better.found
    (subst (TakesAt g.C.CountySet.test c.args.input.now c.branching.state c.in-Ok-Branch.place c.args.input.now.round.now.limit) c.in-Better.is c.in_ok-takes-in-Ok-Branch.ensures.takes)

pub prove_plain-returns-in-Open-clause-outcome : goal.prove_plain-returns-in-Open-clause-outcome
prove_plain-returns-in-Open-clause-outcome g t c =
    let input = c.args.input.now in
    let part = partial_of c.in-Open.part in
    stopped_outcome (search_problem input) (search_round input) (search_state input g.C.CountySet.test c.args.state) c.branching.branches.items part c.stopped_behind.result c.stopped_behind.ensures
    (c.branching.invariant.behind.parts part (subst (TakesAt g.C.CountySet.test input c.branching.state c.in-Ok-Branch.place input.round.now.limit) c.in-Open.is c.in_ok-takes-in-Ok-Branch.ensures.takes))

pub prove_plain-returns-in-Err-StepLimit-clause-outcome : goal.prove_plain-returns-in-Err-StepLimit-clause-outcome
prove_plain-returns-in-Err-StepLimit-clause-outcome g t c =
    let input = c.args.input.now in
    stopped_outcome (search_problem input) (search_round input) (search_state input g.C.CountySet.test c.args.state) c.branching.branches.items open_leaf c.stopped_here.result c.stopped_here.ensures (c.branching.invariant.behind.parts open_leaf (open_leaf_part _ _ _))

pub prove_plain_take-prove_plain-requires : goal.prove_plain_take-prove_plain-requires
prove_plain_take-prove_plain-requires g t c κs within =
    let test = g.C.CountySet.test in
    let input = c.args.input.now in
    let p = search_problem input in
    let round = search_round input in
    let s = search_state input test c.args.state.now in
    let codes = codes_of_set input.graph.now.ordered.now.order test c.args.group.now in
    let is = c.requires.group.1 in (
      omega arith,
      (
        within,
        (
          c.requires.input,
          record {
            placed = c.in_ok-closed.ensures.placed;
            state = subst (IsState p round) (sym c.in_ok-closed.ensures.value) ((branch_keeps_state).closed_state p round s codes c.requires.at.state is.fits is.small);
          },
        ),
      ),
    )

pub prove_plain_take-returns-clause-taken : goal.prove_plain_take-returns-clause-taken
prove_plain_take-returns-clause-taken g t c =
    let test = g.C.CountySet.test in
    let input = c.args.input.now in
    c.taken_of.ensures.taken (search_state input test c.args.state.now) c.requires.group.1.fits (omega (arith, c.requires.group.1.small, c.requires.input.small))
    (subst (λ z. IsOutcome (search_problem input) (search_round input) z c.in_ok-outcome.outcome) c.in_ok-closed.ensures.value c.in_ok-outcome.ensures.outcome)

pub prove_plain_takes-prove_plain_take-requires : goal.prove_plain_takes-prove_plain_take-requires
prove_plain_takes-prove_plain_take-requires g t c κs within =
    let test = g.C.CountySet.test in
    let input = c.args.input.now in
    let held = c.args.state.now in
    let place = c.args.place in
    let list = c.deref-group-items.result.now in
    let inv = c.taking.invariant in
    let i = c.taking.index in
    let item = c.group-item.result in
    let e = c.plain_groups.ensures in
    let same = c.deref-group-items.ensures.value in
    let all = some_items (GroupsAt test input held place input.round.now.limit) c.in-Some.is same c.in_ok-groups.ensures.groups in
    let closable = has_all (IsClosable test held) list (some_items (All (IsClosable test held)) c.in-Some.is same c.in_ok-groups.ensures.closable) item (listed list i item c.taking-test.true c.group-item.is) in (
      omega (arith, inv.more, inv.limit, e.more, e.limit),
      (within, (c.requires.input, (c.requires.at, (closable, (code_at input.graph.now.ordered.now.order place, group_there test input held place input.round.now.limit list i item all c.taking-test.true c.group-item.is))))),
    )

pub prove_plain_takes-taking-preserved : goal.prove_plain_takes-taking-preserved
prove_plain_takes-taking-preserved g t c =
    let inv = c.taking.invariant in
    let f = c.prove_plain_take.ensures in
    record {
      takes = takes_more g.C.CountySet.test c.args.input.now c.args.state.now c.deref-group-items.result.now c.taking.index c.group-item.result c.taking.takes.items c.push.new.self.items c.in-Proved.take c.taking-test.true c.group-item.is c.in_ok-push-in-Proved.ensures.items
          (subst (TakenAt g.C.CountySet.test c.args.input.now c.args.state.now c.group-item.result) c.in-Proved.is c.in_ok-take.ensures.taken) inv.takes;
      more = omega (arith, inv.more, f.more);
      limit = f.limit ∙ inv.limit;
    }

pub prove_plain_takes-returns-in-Better-clause-takes : goal.prove_plain_takes-returns-in-Better-clause-takes
prove_plain_takes-returns-in-Better-clause-takes g t c = subst (TakenAt g.C.CountySet.test c.args.input.now c.args.state.now c.group-item.result) c.in-Better.is c.in_ok-take.ensures.taken

pub prove_plain_takes-returns-in_default-clause-takes : goal.prove_plain_takes-returns-in_default-clause-takes
prove_plain_takes-returns-in_default-clause-takes g t c =
    let input = c.args.input.now in
    subst (IsOpenPart (search_problem input) (search_round input) (search_state input g.C.CountySet.test c.args.state.now)) (sym c.open_part.ensures) (open_leaf_part _ _ _)

pub prove_plain_takes-returns-in-Open-clause-takes : goal.prove_plain_takes-returns-in-Open-clause-takes
prove_plain_takes-returns-in-Open-clause-takes g t c =
    let test = g.C.CountySet.test in
    let input = c.args.input.now in
    let held = c.args.state.now in
    let place = c.args.place in
    let format = input.round.now.format in
    let plain = c.requires.input.plain in
    let item = c.group-item.result in
    let same = c.deref-group-items.ensures.value in
    let all = some_items (GroupsAt test input held place input.round.now.limit) c.in-Some.is same c.in_ok-groups.ensures.groups in
    stopped_there test input held (subst (IsOrder (search_problem input)) c.requires.input.order c.requires.input.graph.order) c.requires.at.state c.requires.input.small place None (omega arith) (plain_names format plain) c.requires.can
    (plain_fits format (code_at input.graph.now.ordered.now.order place) plain c.begun_branch.ensures.county) c.deref-group-items.result.now c.deref.result.now (c.deref.ensures.value ∙ sym same) all c.taking.index item c.taking-test.true c.group-item.is c.taking.takes.items c.taking.invariant.takes
    (partial_of c.in-Open.part) _ _ c.in_ok-parts-in-Open.ensures.takes c.in_ok-branch-in-Open.ensures.branch c.in_ok-parts-in-Open.ensures.small (subst (TakenAt test input held item) c.in-Open.is c.in_ok-take.ensures.taken)
