use Rattle.std.proofs.Common.{◌≡◌, ◌<◌, ℕ, true, length, Some, sym, ◌∙◌, subst, arith}
use Rattle.grouping_laws.proofs.Elements.{has_all}
use Rattle.county_problem.specs.OrderedValue.{code_at}
use Rattle.connected_laws.specs.Listing.{AreBelow}
use Rattle.certificate_laws.specs.State.{State, raise}
use Rattle.branch_bound.specs.Searching.{search_problem, search_round, search_state, IsOutcome, IsBetter, IsNextMove}
use Rattle.grouping_laws.specs.GroupsFrom.{IsOrder}
use Rattle.board_laws.specs.PartialTrees.{open_leaf}
use Rattle.partial_trees.specs.PartialValue.{partial_of}
use Rattle.branch_bound.specs.Parts.{IsOpenPart}
use Rattle.branch_bound.proofs.OpenParts.{open_leaf_part, stopped_outcome}
use Rattle.branch_bound.proofs.Joining.{wide_names, wide_fits}
use Rattle.search_groups.proofs.Positions.{choice_can}
use Rattle.branch_bound.proofs.Searches.{own, IsBehind, better_behind, listed, some_items, GroupsAt, TakesAt, TakenAt, group_there, stopped_there, takes_more, leaf_end, behind_more, choice_size}
use Rattle.branch_bound.proofs.search.+proving.Goals as goal

pub prove-returns-in-Ok-Leaf-clause-outcome : goal.prove-returns-in-Ok-Leaf-clause-outcome
prove-returns-in-Ok-Leaf-clause-outcome g t c =
    leaf_end c.branching.branches c.in-Ok-Leaf.leaf c.branching.invariant.behind
    (subst (λ z. IsNextMove g.C.CountySet.test c.args.input.now (search_state c.args.input.now g.C.CountySet.test c.branching.position.state) z) c.in-Ok-Leaf.field-0-is c.in-Ok-Leaf.ensures.next_move)

pub prove-returns-in-Ok-Better-clause-outcome : goal.prove-returns-in-Ok-Better-clause-outcome
prove-returns-in-Ok-Better-clause-outcome g t c =
    better_behind c.branching.invariant.behind c.in-Ok-Better.found
    (subst (λ z. IsNextMove g.C.CountySet.test c.args.input.now (search_state c.args.input.now g.C.CountySet.test c.branching.position.state) z) c.in-Ok-Better.field-0-is c.in-Ok-Better.ensures.next_move)

pub prove-prove_takes-requires : goal.prove-prove_takes-requires
prove-prove_takes-requires g t c κs within =
    let test = g.C.CountySet.test in
    let input = c.args.input.now in
    let s = search_state input test c.branching.position.state in
    let v = subst (λ z. IsNextMove test input s z) c.in-Ok-Branch.field-0-is c.in-Ok-Branch.ensures.next_move in
    let e = c.in-Ok-Branch.ensures in
    (omega (arith, e.counted, e.left, e.limit, c.branching.invariant.more, c.branching.invariant.limit), (within.0, (within.1, (c.requires.input, (own g.row.C.Denot test input s c.in-Ok-Branch.at v.0, (v.1, e.lists))))))

pub prove-raised_behind-requires-clause-at : goal.prove-raised_behind-requires-clause-at
prove-raised_behind-requires-clause-at g t c =
    let test = g.C.CountySet.test in
    let input = c.args.input.now in
    let s = search_state input test c.branching.position.state in
    let v = subst (λ z. IsNextMove test input s z) c.in-Ok-Branch.field-0-is c.in-Ok-Branch.ensures.next_move in
    own g.row.C.Denot test input s c.in-Ok-Branch.at v.0

pub prove-raised_behind-requires-clause-choice : goal.prove-raised_behind-requires-clause-choice
prove-raised_behind-requires-clause-choice g t c =
    let test = g.C.CountySet.test in
    let input = c.args.input.now in
    let s = search_state input test c.branching.position.state in
    (subst (λ z. IsNextMove test input s z) c.in-Ok-Branch.field-0-is c.in-Ok-Branch.ensures.next_move).1

pub prove-branching-smaller : goal.prove-branching-smaller
prove-branching-smaller g t c =
    let e = c.in-Ok-Branch.ensures in
    let f = c.prove_takes.ensures in
    omega (arith, e.counted, e.left, e.limit, f.more, f.limit)

pub prove-branching-preserved : goal.prove-branching-preserved
prove-branching-preserved g t c =
    let test = g.C.CountySet.test in
    let input = c.args.input.now in
    let inv = c.branching.invariant in
    let e = c.in-Ok-Branch.ensures in
    let f = c.prove_takes.ensures in
    let at = c.in-Ok-Branch.at in
    let p = search_problem input in
    let round = search_round input in
    let first = search_state input test c.args.position.state in
    let s = search_state input test c.branching.position.state in
    let here = search_state input test at.state in
    let county = code_at input.graph.now.ordered.now.order c.in-Ok-Branch.place in
    let bs = c.branching.branches.items in
    let v = subst (λ z. IsNextMove test input s z) c.in-Ok-Branch.field-0-is e.next_move in
    let behind : IsBehind p round first here bs = subst (λ (z : State). IsBehind p round first z bs) (sym v.0.is) inv.behind in
    let next = c.in_ok-position-in-Proved.position in
    let step = c.in_ok-position-in-Proved.ensures.raised in
    let all = subst (TakesAt test input at.state c.in-Ok-Branch.place at.size) c.in-Proved.is c.in_ok-takes-in-Ok-Branch.ensures.takes in
    let stands = own g.row.C.Denot test input s at v.0 in
    let can = choice_can g.row.C.Denot test g.C.CountySet.PLACES input c.requires.input here at c.in-Ok-Branch.place stands v.1 in
    let fits = wide_fits round.format county at.size c.requires.input.wide c.raised_behind.ensures.county (choice_size g.row.C.Denot test input s at c.in-Ok-Branch.place v.0 v.1) (omega (arith, v.0.small, c.requires.input.small)) in
    record {
      at = own g.row.C.Denot test input (raise county at.size here) next step;
      behind = behind_more p round first here (search_state input test next.state) bs c.raised_behind.new.branches.items county (Some at.size) c.in-Proved.takes behind (subst (IsOrder p) c.requires.input.order c.requires.input.graph.order) stands.state stands.small c.requires.input.small
          (wide_names round.format at.size c.requires.input.wide) can fits all c.in_ok-position-in-Proved.ensures.pushed step.is;
      lists = f.lists;
      more = omega (arith, inv.more, e.more, f.more);
      limit = f.limit ∙ e.limit ∙ inv.limit;
    }

pub prove-returns-in-Better-clause-outcome : goal.prove-returns-in-Better-clause-outcome
prove-returns-in-Better-clause-outcome g t c =
    let test = g.C.CountySet.test in
    let input = c.args.input.now in
    let at = c.in-Ok-Branch.at in
    let v = subst (λ z. IsNextMove test input (search_state input test c.branching.position.state) z) c.in-Ok-Branch.field-0-is c.in-Ok-Branch.ensures.next_move in
    better_behind c.branching.invariant.behind c.in-Better.found
    (subst (λ z. IsBetter (search_problem input) (search_round input) z c.in-Better.found) v.0.is (subst (TakesAt test input at.state c.in-Ok-Branch.place at.size) c.in-Better.is c.in_ok-takes-in-Ok-Branch.ensures.takes))

pub prove-returns-in-Open-clause-outcome : goal.prove-returns-in-Open-clause-outcome
prove-returns-in-Open-clause-outcome g t c =
    let test = g.C.CountySet.test in
    let input = c.args.input.now in
    let at = c.in-Ok-Branch.at in
    let part = partial_of c.in-Open.part in
    let v = subst (λ z. IsNextMove test input (search_state input test c.branching.position.state) z) c.in-Ok-Branch.field-0-is c.in-Ok-Branch.ensures.next_move in
    let is = subst (TakesAt test input at.state c.in-Ok-Branch.place at.size) c.in-Open.is c.in_ok-takes-in-Ok-Branch.ensures.takes in
    stopped_outcome (search_problem input) (search_round input) (search_state input test c.args.position.state) c.branching.branches.items part c.stopped_behind.result c.stopped_behind.ensures
    (c.branching.invariant.behind.parts part (subst (λ z. IsOpenPart (search_problem input) (search_round input) z part) v.0.is is))

pub prove-returns-in-Err-StepLimit-clause-outcome : goal.prove-returns-in-Err-StepLimit-clause-outcome
prove-returns-in-Err-StepLimit-clause-outcome g t c =
    let input = c.args.input.now in
    stopped_outcome (search_problem input) (search_round input) (search_state input g.C.CountySet.test c.args.position.state) c.branching.branches.items open_leaf c.stopped_here.result c.stopped_here.ensures (c.branching.invariant.behind.parts open_leaf (open_leaf_part _ _ _))

pub prove_take-returns-clause-taken : goal.prove_take-returns-clause-taken
prove_take-returns-clause-taken g t c =
    let test = g.C.CountySet.test in
    let input = c.args.input.now in
    c.taken_of.ensures.taken (search_state input test c.args.position.now.state) c.requires.group.1.fits (omega (arith, c.requires.group.1.small, c.requires.at.small, c.requires.input.small)) (subst (λ z. IsOutcome (search_problem input) (search_round input) z c.in_ok-outcome.outcome) c.in_ok-closed.ensures.is c.in_ok-outcome.ensures.outcome)

pub prove_takes-prove_take-requires : goal.prove_takes-prove_take-requires
prove_takes-prove_take-requires g t c κs within =
    let test = g.C.CountySet.test in
    let input = c.args.input.now in
    let order = input.graph.now.ordered.now.order in
    let at = c.args.position.now in
    let place = c.args.place in
    let list = c.deref-group-items.result.now in
    let inv = c.taking.invariant in
    let i = c.taking.index in
    let item = c.group-item.result in
    let e = c.listed_groups.ensures in
    let found = c.in_ok-groups.ensures in
    let same = c.deref-group-items.ensures.value in
    let all = some_items (GroupsAt test input at.state place at.size) c.in-Some.is same found.groups in
    let below = some_items (AreBelow (length order) test) c.in-Some.is same found.below in (
      omega (arith, inv.more, inv.limit, e.more, e.limit),
      (within.0, (within.1, (c.requires.input, (c.requires.at, (has_all (λ z. (x : ℕ) → test z x ≡ true → x < length order) list below item (listed list i item c.taking-test.true c.group-item.is), ((code_at order place, group_there test input at.state place at.size list i item all c.taking-test.true c.group-item.is), inv.lists)))))),
    )

pub prove_takes-taking-preserved : goal.prove_takes-taking-preserved
prove_takes-taking-preserved g t c =
    let inv = c.taking.invariant in
    let f = c.prove_take.ensures in
    record {
      takes = takes_more g.C.CountySet.test c.args.input.now c.args.position.now.state c.deref-group-items.result.now c.taking.index c.group-item.result c.taking.takes.items c.push.new.self.items c.in-Proved.take c.taking-test.true c.group-item.is c.in_ok-push-in-Proved.ensures.items
          (subst (TakenAt g.C.CountySet.test c.args.input.now c.args.position.now.state c.group-item.result) c.in-Proved.is c.in_ok-take.ensures.taken) inv.takes;
      lists = f.lists;
      more = omega (arith, inv.more, f.more);
      limit = f.limit ∙ inv.limit;
    }

pub prove_takes-returns-in-Better-clause-takes : goal.prove_takes-returns-in-Better-clause-takes
prove_takes-returns-in-Better-clause-takes g t c = subst (TakenAt g.C.CountySet.test c.args.input.now c.args.position.now.state c.group-item.result) c.in-Better.is c.in_ok-take.ensures.taken

pub prove_takes-returns-in_default-clause-takes : goal.prove_takes-returns-in_default-clause-takes
prove_takes-returns-in_default-clause-takes g t c =
    let input = c.args.input.now in
    subst (IsOpenPart (search_problem input) (search_round input) (search_state input g.C.CountySet.test c.args.position.now.state)) (sym c.open_part.ensures) (open_leaf_part _ _ _)

pub prove_takes-returns-in-Open-clause-takes : goal.prove_takes-returns-in-Open-clause-takes
prove_takes-returns-in-Open-clause-takes g t c =
    let test = g.C.CountySet.test in
    let input = c.args.input.now in
    let at = c.args.position.now in
    let place = c.args.place in
    let item = c.group-item.result in
    let same = c.deref-group-items.ensures.value in
    let stands = c.requires.at in
    let wide = c.requires.input.wide in
    let format = input.round.now.format in
    let all = some_items (GroupsAt test input at.state place at.size) c.in-Some.is same c.in_ok-groups.ensures.groups in
    let can = choice_can g.row.C.Denot test g.C.CountySet.PLACES input c.requires.input (search_state input test at.state) at place stands c.requires.choice in
    let some = choice_size g.row.C.Denot test input (search_state input test at.state) at place stands c.requires.choice in
    stopped_there test input at.state (subst (IsOrder (search_problem input)) c.requires.input.order c.requires.input.graph.order) stands.state c.requires.input.small place (Some at.size) stands.small (wide_names format at.size wide) can
    (wide_fits format (code_at input.graph.now.ordered.now.order place) at.size wide c.begun_branch.ensures.county some (omega (arith, stands.small, c.requires.input.small))) c.deref-group-items.result.now c.deref.result.now (c.deref.ensures.value ∙ sym same) all c.taking.index item c.taking-test.true c.group-item.is
    c.taking.takes.items c.taking.invariant.takes (partial_of c.in-Open.part) _ _ c.in_ok-parts-in-Open.ensures.takes c.in_ok-branch-in-Open.ensures.branch c.in_ok-parts-in-Open.ensures.small (subst (TakenAt test input at.state item) c.in-Open.is c.in_ok-take.ensures.taken)
