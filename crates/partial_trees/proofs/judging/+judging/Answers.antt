use Rattle.std.proofs.Common.{ℕ, ◌≡◌, suc, ◌+◌, List, ◌∷◌, length, drop, Some, Err, sym, ap, ◌∙◌, subst, arith}
use Rattle.std.specs.List.{All}
use Rattle.std.proofs.lemmas.Bool.{false≢true, eq-eqb, eqb-true}
use Rattle.std.proofs.lemmas.Result.{IfOk-weaker, IfErr-weaker}
use Rattle.connected_sets.specs.Graphs.{graph_problem, graph_order}
use Rattle.grouping_laws.proofs.Elements.{all_from_has, contains_from_has}
use Rattle.certificate_data.specs.RoundValue.{round_of}
use Rattle.certificate_data.specs.TreeValue.{tree_of}
use Rattle.certificate_laws.specs.State.{close, raise}
use Rattle.certificate_laws.specs.Groups.{IsSetAt, IsGroupAt}
use Rattle.checker_laws.specs.Branches.{IsTakeFault}
use Rattle.checker_laws.specs.Cost.{IsSetCount}
use Rattle.state_judge.specs.CheckFaults.{NamesFault}
use Rattle.certificate_laws.specs.Proving.{limit_of}
use Rattle.search_groups.specs.declared.position.Position.{Position}
use Rattle.certificate_checker.specs.Knowing.{IsKnownAt}
use Rattle.certificate_checker.proofs.KnownPlaces.{all_behind}
use Rattle.certificate_checker.proofs.Takes.{first_set, none_left, some_left}
use Rattle.state_groups.specs.StateValue.{state_of}
use Rattle.state_groups.specs.PlacedValues.{state_at, codes_of_sets, IsPlaced, IsClosable}
use Rattle.board_laws.specs.PartialTrees.{whole, no_begun}
use Rattle.partial_trees.specs.declared.tree.PartialTree.{out-PartialTree}
use Rattle.partial_trees.specs.declared.tree.PartialBranch.{out-PartialBranch}
use Rattle.partial_trees.specs.declared.tree.PartialTake.{PartialTake, out-PartialTake}
use Rattle.partial_trees.specs.PartialValue.{rest_of, partial_of, list_of_begun, list_onto}
use Rattle.partial_trees.specs.Refusals.{IsPartProof, IsPartRefusal, IsTakesRefusal}
use Rattle.partial_trees.specs.Judged.{AreTakenParts, IsTakenPart}
use Rattle.partial_trees.proofs.PartialLists.{branch_falls, take_falls, deep_in}
use Rattle.partial_trees.proofs.Spelled.{five_digits, branch_fits, no_limit, groups_fit}
use Rattle.partial_trees.proofs.Taking.{TakesLeft, PartLeft, no_takes_yet, next_codes, at_take, at_group, at_no_take, taken_more, take_refused, stray_take, takes_done, group_left, nothing_yet, at_branch, at_rest, no_line, line_refused, takes_refused, branch_taken, leaf_taken, whole_taken, rest_refused}
use Rattle.partial_trees.proofs.judging.+judging.Goals as goal

pub judge_part-branching-init : goal.judge_part-branching-init
judge_part-branching-init g t c = record {
  placed = c.requires.placed;
  known = c.requires.known;
  lists = c.requires.lists;
  left = nothing_yet g.C.CountySet.test (graph_problem c.args.input.now.check.graph.now) (round_of c.args.input.now.check.round.now) (state_at (graph_order c.args.input.now.check.graph.now) g.C.CountySet.test c.args.state) c.args.part.now c.deref-branch-items.result.now c.args.states.now.items c.deref-branch-items.ensures.value;
}

pub judge_part-returns-then-not-has_line-clause-refused : goal.judge_part-returns-then-not-has_line-clause-refused
judge_part-returns-then-not-has_line-clause-refused g t c =
    let input = c.args.input.now in
    let b = out-PartialBranch c.branch-item.result in
    let at = at_branch c.deref-branch-items.result.now c.branching.branch-index c.branch-item.result (rest_of (out-PartialTree c.args.part.now).rest) c.branch-item.is c.branching-test.true c.branching.invariant.left in
    no_line at input.budget (λ fits. no_limit input.check.round.now.format b.county b.limit (c.has_line.ensures.none c.if-not-has_line.true) fits)

pub judge_part-returns-in-Err-clause-refused : goal.judge_part-returns-in-Err-clause-refused
judge_part-returns-in-Err-clause-refused g t c =
    let input = c.args.input.now in
    let p = graph_problem input.check.graph.now in
    let round = round_of input.check.round.now in
    let s = state_at (graph_order input.check.graph.now) g.C.CountySet.test c.branching.state in
    let b = out-PartialBranch c.branch-item.result in
    let at = at_branch c.deref-branch-items.result.now c.branching.branch-index c.branch-item.result (rest_of (out-PartialTree c.args.part.now).rest) c.branch-item.is c.branching-test.true c.branching.invariant.left in
    subst (IsPartRefusal p input.budget round (state_at (graph_order input.check.graph.now) g.C.CountySet.test c.args.state) (partial_of c.args.part.now)) (sym c.from.ensures)
    (line_refused at input.budget c.in-Err.stop c.in-Err.ensures.branch (λ k.
    let l = c.knowing_branch.ensures.stopped (c.in-Err.is ∙ ap Err k) in
    (l.0, l.1, λ m are. omega (arith, l.2 m (subst (λ z. IsSetCount z (IsSetAt p z s b.county (limit_of round b.limit)) m) (sym c.requires.input.check.order) are), c.new-steps.ensures.limit, c.new-steps.ensures.used))))

pub judge_part-judge_takes-requires : goal.judge_part-judge_takes-requires
judge_part-judge_takes-requires g t c κs within =
    let test = g.C.CountySet.test in
    let check = c.args.input.now.check in
    let p = graph_problem check.graph.now in
    let round = round_of check.round.now in
    let order = graph_order check.graph.now in
    let s = state_at order test c.branching.state in
    let b = c.in-Ok.branching in
    let county = (out-PartialBranch c.branch-item.result).county in
    let groups = codes_of_sets order test b.groups.items in
    let R : Position g.row.C.Denot → List ℕ → Type 0 = λ at k. (x : ℕ) × IsGroupAt p round s x at.size k in
    let fits : (at : Position g.row.C.Denot) → c.knowing_branch.new.known ≡ Some at → All (R at) (codes_of_sets order test c.deref-in-branching.result.now) = λ at e.
    subst (λ z. All (R at) (codes_of_sets order test z)) (sym c.deref-in-branching.ensures.value)
    (all_from_has (R at) groups (λ k has. (county, subst (λ z. IsGroupAt p round s county z k) (sym (c.in-Ok.ensures.sized at e ∙ c.in-Ok.ensures.size)) ((c.in-Ok.ensures.branch.2.each k).0 (contains_from_has groups k has))))) in (
      omega (
        arith,
        c.decreases,
        branch_falls c.args.part.now c.deref-branch-items.result.now c.branching.branch-index c.branch-item.result c.deref-branch-items.ensures.value c.branch-item.is c.branching-test.true,
        ap (λ z. deep_in (list_of_begun z)) c.deref.ensures.value,
      ),
      (within, (c.requires.input, (c.branching.invariant.placed, (c.in-Ok.ensures.known, (subst (All (IsClosable g.C.CountySet.test c.branching.state)) (sym c.deref-in-branching.ensures.value) c.in-Ok.ensures.groups, (fits, c.in-Ok.ensures.lists)))))),
    )

pub judge_part-returns-in-Err-judge_takes-clause-refused : goal.judge_part-returns-in-Err-judge_takes-clause-refused
judge_part-returns-in-Err-judge_takes-clause-refused g t c =
    let test = g.C.CountySet.test in
    let input = c.args.input.now in
    let order = graph_order input.check.graph.now in
    let at = at_branch c.deref-branch-items.result.now c.branching.branch-index c.branch-item.result (rest_of (out-PartialTree c.args.part.now).rest) c.branch-item.is c.branching-test.true c.branching.invariant.left in
    let found = c.in-Ok.ensures.branch in
    let groups = c.in-Ok.branching.groups.items in
    let stop = c.in-Err-judge_takes.stop in
    let Refused : List g.row.C.Denot → List PartialTake → Type 0 = λ sets takes. IsTakesRefusal (graph_problem input.check.graph.now) input.budget (round_of input.check.round.now) (state_at order test c.branching.state) (codes_of_sets order test sets) (list_of_begun takes) stop in
    takes_refused at (codes_of_sets order test groups) found.0 found.1 found.2 input.budget stop
    (subst (Refused groups) c.deref.ensures.value (subst (λ z. Refused z c.deref.result.now) c.deref-in-branching.ensures.value c.in-Err-judge_takes.ensures.refused))

pub judge_part-branching-preserved : goal.judge_part-branching-preserved
judge_part-branching-preserved g t c =
    let test = g.C.CountySet.test in
    let input = c.args.input.now in
    let order = graph_order input.check.graph.now in
    let p = graph_problem input.check.graph.now in
    let round = round_of input.check.round.now in
    let now = c.branching.states.items in
    let behind = rest_of (out-PartialTree c.args.part.now).rest in
    let s = state_at order test c.branching.state in
    let b = out-PartialBranch c.branch-item.result in
    let at = at_branch c.deref-branch-items.result.now c.branching.branch-index c.branch-item.result behind c.branch-item.is c.branching-test.true c.branching.invariant.left in
    let found = c.in-Ok.ensures.branch in
    let sets_of = c.in-Ok.branching.groups.items in
    let groups = codes_of_sets order test sets_of in
    let later = c.judge_takes.new.states.items in
    let limit = limit_of round b.limit in
    let Taken : List g.row.C.Denot → List PartialTake → Type 0 = λ sets takes. AreTakenParts test p round s (codes_of_sets order test sets) (list_of_begun takes) now later in
    let taken = subst (Taken sets_of) c.deref.ensures.value (subst (λ z. Taken z c.deref.result.now) c.deref-in-branching.ensures.value c.in-Ok-judge_takes.ensures.taken) in
    let fits = branch_fits round.format b.county b.limit found.0 (five_digits order (state_of test c.branching.state) limit b.county c.requires.input.five found.1.is_open) (c.has_line.ensures.some c.if-not-has_line.false) (λ n e. omega (arith, found.1.small, c.requires.input.check.small, ap (limit_of round) e)) in
    let sets = groups_fit p round order (state_of test c.branching.state) b.county limit groups c.requires.input.five (omega (arith, found.1.small, c.requires.input.check.small)) found.2 in
    let raised_to = c.raise_place.ensures.value ∙ ap (λ z. raise z c.in-Ok.branching.limit s) c.in-Ok.ensures.place.1 ∙ ap (λ z. raise b.county z s) c.in-Ok.ensures.size in
    record {
      placed = c.raise_place.ensures.placed;
      known = subst (λ z. IsKnownAt test input.check z c.in_ok-known.known) (sym c.raise_place.ensures.value) c.in_ok-known.ensures;
      lists = c.in-Ok-judge_takes.ensures.lists;
      left =
          subst (λ z. PartLeft test p round (state_at order test c.args.state) (partial_of c.args.part.now) c.args.states.now.items z (list_onto (drop (c.branching.branch-index + 1) c.deref-branch-items.result.now) behind) later) (sym raised_to)
          (branch_taken at groups found.0 found.1 found.2 later fits sets taken);
    }

pub judge_part-returns-in_ok-keep_state-in-None-clause-taken : goal.judge_part-returns-in_ok-keep_state-in-None-clause-taken
judge_part-returns-in_ok-keep_state-in-None-clause-taken g t c =
    let test = g.C.CountySet.test in
    let state = c.branching.state in
    let order = c.requires.input.check.order in
    let at = at_rest c.deref-branch-items.result.now c.branching.branch-index (omega (arith, c.branching-test.false)) (ap rest_of c.in-None.is) c.branching.invariant.left in
    leaf_taken c.keep_state.new.states.items state at c.in_ok-keep_state-in-None.ensures (subst (λ z. IsPlaced (length z) test state) order c.branching.invariant.placed) (ap (λ z. state_at z test state) (sym order))

pub judge_part-returns-in-Some-clause-taken : goal.judge_part-returns-in-Some-clause-taken
judge_part-returns-in-Some-clause-taken g t c =
    let test = g.C.CountySet.test in
    let check = c.args.input.now.check in
    let order = graph_order check.graph.now in
    let p = graph_problem check.graph.now in
    let round = round_of check.round.now in
    let at = at_rest c.deref-branch-items.result.now c.branching.branch-index (omega (arith, c.branching-test.false)) (ap rest_of c.in-Some.is) c.branching.invariant.left in
    IfOk-weaker c.judge_whole.result (λ _. IsPartProof p round (state_at order test c.branching.state) (whole (tree_of c.in-Some.tree)))
    (λ _. IsTakenPart test p round (state_at order test c.args.state) (partial_of c.args.part.now) c.args.states.now.items c.branching.states.items)
    (λ _ proof. whole_taken at proof) c.judge_whole.ensures.taken

pub judge_part-returns-in-Some-clause-refused : goal.judge_part-returns-in-Some-clause-refused
judge_part-returns-in-Some-clause-refused g t c =
    let test = g.C.CountySet.test in
    let input = c.args.input.now in
    let order = graph_order input.check.graph.now in
    let at = at_rest c.deref-branch-items.result.now c.branching.branch-index (omega (arith, c.branching-test.false)) (ap rest_of c.in-Some.is) c.branching.invariant.left in
    IfErr-weaker c.judge_whole.result (IsPartRefusal (graph_problem input.check.graph.now) input.budget (round_of input.check.round.now) (state_at order test c.branching.state) (whole (tree_of c.in-Some.tree)))
    (IsPartRefusal (graph_problem input.check.graph.now) input.budget (round_of input.check.round.now) (state_at order test c.args.state) (partial_of c.args.part.now))
    (λ stop refused. rest_refused input.budget stop at refused) c.judge_whole.ensures.refused

pub judge_takes-taking-init : goal.judge_takes-taking-init
judge_takes-taking-init g t c = record {
  closable = c.requires.groups;
  fits = c.requires.fits;
  lists = c.requires.lists;
  taken = no_takes_yet g.C.CountySet.test (graph_problem c.args.input.now.check.graph.now) (round_of c.args.input.now.check.round.now) (state_at (graph_order c.args.input.now.check.graph.now) g.C.CountySet.test c.args.state.now) (codes_of_sets (graph_order c.args.input.now.check.graph.now) g.C.CountySet.test c.args.groups.now) (list_of_begun c.args.takes.now) c.args.states.now.items;
}

pub judge_takes-judge_take-requires-clause-below : goal.judge_takes-judge_take-requires-clause-below
judge_takes-judge_take-requires-clause-below g t c = λ k d h x e. c.requires.placed.rest x ((c.taking.invariant.closable k d h).inside x e)

pub judge_takes-returns-in-Err-clause-refused : goal.judge_takes-returns-in-Err-clause-refused
judge_takes-returns-in-Err-clause-refused g t c =
    let left = codes_of_sets (graph_order c.args.input.now.check.graph.now) g.C.CountySet.test c.taking.left.now in
    let at = at_take c.args.takes.now c.taking.take-index c.take-item.result c.take-item.is c.taking-test.true c.taking.invariant.taken in
    stray_take c.in-Err.field-0 at (subst (λ z. NamesFault c.in-Err.field-0 (IsTakeFault left z)) c.as_slice.ensures c.in-Err.ensures)

pub judge_takes-closed_state-requires-clause-group : goal.judge_takes-closed_state-requires-clause-group
judge_takes-closed_state-requires-clause-group g t c = first_set _ (IsClosable g.C.CountySet.test c.args.state.now) c.taking.left.now _ _ c.in-Some.ensures.cases c.taking.invariant.closable

pub judge_takes-judge_part-requires : goal.judge_takes-judge_part-requires
judge_takes-judge_part-requires g t c κs within =
    let known = subst (λ z. IsKnownAt g.C.CountySet.test c.args.input.now.check z c.in_ok-below.below) (sym c.in_ok-closed.ensures.value) (c.in_ok-below.ensures c.in-Some.group.now c.in-Some.others.now c.in-Some.ensures.cases.0) in (
      omega (arith, c.decreases, take_falls c.args.takes.now c.taking.take-index c.take-item.result c.take-item.is c.taking-test.true),
      (within, (c.requires.input, (c.in_ok-closed.ensures.placed, (known, c.taking.invariant.lists)))),
    )

pub judge_takes-closed_known-requires-clause-below : goal.judge_takes-closed_known-requires-clause-below
judge_takes-closed_known-requires-clause-below g t c = λ k d h x e. c.requires.placed.rest x ((c.taking.invariant.closable k d h).inside x e)

pub judge_takes-returns-in-Err-judge_part-clause-refused : goal.judge_takes-returns-in-Err-judge_part-clause-refused
judge_takes-returns-in-Err-judge_part-clause-refused g t c =
    let test = g.C.CountySet.test in
    let input = c.args.input.now in
    let order = graph_order input.check.graph.now in
    let s = state_at order test c.args.state.now in
    let one = out-PartialTake c.take-item.result in
    let first = c.in-Some.ensures.cases.0 in
    let next = next_codes order test c.taking.left.now c.in-Some.group.now c.in-Some.others.now c.as_slice.result.now first c.in-Ok.ensures ∙ c.as_slice.ensures in
    let here = at_group order c.taking.left.now c.in-Some.group.now c.in-Some.others.now one.codes first next (at_take c.args.takes.now c.taking.take-index c.take-item.result c.take-item.is c.taking-test.true c.taking.invariant.taken) in
    let stop = c.in-Err-judge_part.stop in
    take_refused input.budget stop here
    (subst (λ z. IsPartRefusal (graph_problem input.check.graph.now) input.budget (round_of input.check.round.now) z (partial_of one.tree) stop) (c.in_ok-closed.ensures.value ∙ ap (λ z. close z s) next) c.in-Err-judge_part.ensures.refused)

pub judge_takes-taking-preserved : goal.judge_takes-taking-preserved
judge_takes-taking-preserved g t c =
    let test = g.C.CountySet.test in
    let check = c.args.input.now.check in
    let order = graph_order check.graph.now in
    let p = graph_problem check.graph.now in
    let round = round_of check.round.now in
    let s = state_at order test c.args.state.now in
    let one = out-PartialTake c.take-item.result in
    let first = c.in-Some.ensures.cases.0 in
    let next = next_codes order test c.taking.left.now c.in-Some.group.now c.in-Some.others.now c.as_slice.result.now first c.in-Ok.ensures ∙ c.as_slice.ensures in
    let here = at_group order c.taking.left.now c.in-Some.group.now c.in-Some.others.now one.codes first next (at_take c.args.takes.now c.taking.take-index c.take-item.result c.take-item.is c.taking-test.true c.taking.invariant.taken) in
    let later = c.judge_part.new.states.items in
    record {
      closable = λ k d h. (subst (All (IsClosable test c.args.state.now)) first c.taking.invariant.closable) (suc k) d (omega (arith, h));
      fits = λ at e.
          let Q : List ℕ → Type 0 = λ k. (x : ℕ) × IsGroupAt p round s x at.size k in
          all_behind Q (codes_of_sets order test (c.in-Some.group.now ∷ c.in-Some.others.now)) (subst (λ (z : List g.row.C.Denot). All Q (codes_of_sets order test z)) first (c.taking.invariant.fits at e));
      lists = c.in-Ok-judge_part.ensures.lists;
      taken =
          taken_more later here
          (subst (λ z. IsTakenPart test p round z (partial_of one.tree) c.taking.states.items later) (c.in_ok-closed.ensures.value ∙ ap (λ z. close z s) next) c.in-Ok-judge_part.ensures.taken);
    }

pub judge_takes-returns-then-not-is_empty-clause-refused : goal.judge_takes-returns-then-not-is_empty-clause-refused
judge_takes-returns-then-not-is_empty-clause-refused g t c =
    let left = c.taking.left.now in
    group_left (at_no_take c.args.takes.now c.taking.take-index (omega (arith, c.taking-test.false)) c.taking.invariant.taken)
    (some_left _ (graph_order c.args.input.now.check.graph.now) g.C.CountySet.test left (λ e. false≢true (sym c.if-not-is_empty.true ∙ (c.is_empty.ensures ∙ eq-eqb (length left) 0 e))))

pub judge_takes-returns-clause-taken : goal.judge_takes-returns-clause-taken
judge_takes-returns-clause-taken g t c =
    let test = g.C.CountySet.test in
    let check = c.args.input.now.check in
    let order = graph_order check.graph.now in
    let left = c.taking.left.now in
    let at = at_no_take c.args.takes.now c.taking.take-index (omega (arith, c.taking-test.false)) c.taking.invariant.taken in
    takes_done (subst
    (λ z. TakesLeft test (graph_problem check.graph.now) (round_of check.round.now) (state_at order test c.args.state.now) (codes_of_sets order test c.args.groups.now) (list_of_begun c.args.takes.now) c.args.states.now.items z no_begun c.taking.states.items)
    (none_left _ order test left (eqb-true (length left) 0 (sym c.is_empty.ensures ∙ c.if-not-is_empty.false))) at)
