use Rattle.std.proofs.Common.{◌-◌, ◌+◌, Err, length, drop, sym, ap, subst, arith}
use Rattle.partial_trees.specs.PartialValue.{partial_of, list_of_begun}
use Rattle.partial_trees.specs.declared.tree.PartialTake.{roll-PartialTake}
use Rattle.county_problem.specs.OrderedValue.{code_at}
use Rattle.state_groups.specs.PlacedValues.{codes_of_set, codes_of_sets, IsClosable}
use Rattle.share_board.specs.Openings.{IsOpened, AreOpened, board_problem, board_round, board_state, IsHalted, AreHalted}
use Rattle.partial_trees.proofs.PartialLists.{made_take}
use Rattle.share_board.proofs.Openings.{are_opened_kept, branch_opened}
use Rattle.share_board.proofs.Branching.{plain_names, OpenOn, MoreOn, take_halted, takes_halted, raised_halted, line_halted, open_more, more_more, open_end, left_sets, no_sets_left}
use Rattle.share_board.proofs.opening.+opening.Goals as goal

pub open_branch-returns-in-Err-clause-stopped : goal.open_branch-returns-in-Err-clause-stopped
open_branch-returns-in-Err-clause-stopped g t c =
    let is = c.requires.branching in
    takes_halted c.requires.plain c.args.input.now.share c.args.depth (length c.args.states.now.items) c.requires.some is.can is.groups c.in-Err.stop (rw c.deref.ensures.value at c.in-Err.ensures.stopped)

pub open_branch-returns-in-Err-open_tree-clause-stopped : goal.open_branch-returns-in-Err-open_tree-clause-stopped
open_branch-returns-in-Err-open_tree-clause-stopped g t c =
    let is = c.requires.branching in
    raised_halted c.requires.plain c.args.input.now.share c.args.depth (length c.args.states.now.items) c.requires.some is.can is.groups c.in-Err-open_tree.stop (rw c.deref.ensures.value at c.in-Ok.ensures.opened)
    (rw c.raise_place.ensures.value at c.in-Err-open_tree.ensures.stopped)

pub open_branch-returns-clause-opened : goal.open_branch-returns-clause-opened
open_branch-returns-clause-opened g t c =
    let test = g.C.CountySet.test in
    let p = board_problem c.args.input.now in
    let round = board_round c.args.input.now in
    let is = c.requires.branching in
    let kept = are_opened_kept test p round c.open_tree.new.states.items (rw c.deref.ensures.value at c.in-Ok.ensures.opened) c.in-Ok-open_tree.ensures.kept in
    let behind = rw c.raise_place.ensures.value at c.in-Ok-open_tree.ensures.opened in
    rw c.in_ok-branched.ensures (branch_opened test p round c.requires.some (plain_names round.format c.requires.plain) is.can is.groups kept behind)

pub open_branch-returns-clause-kept : goal.open_branch-returns-clause-kept
open_branch-returns-clause-kept g t c = λ k u h. c.in-Ok-open_tree.ensures.kept k u (c.in-Ok.ensures.kept k u h)

pub open_takes-closed_state-requires-clause-group : goal.open_takes-closed_state-requires-clause-group
open_takes-closed_state-requires-clause-group g t c = subst (IsClosable g.C.CountySet.test c.args.state.now) (sym c.group-item.is) (c.requires.groups c.taking.group-index c.group-item.result c.taking-test.true)

pub open_takes-returns-in-Err-clause-stopped : goal.open_takes-returns-in-Err-clause-stopped
open_takes-returns-in-Err-clause-stopped g t c =
    let test = g.C.CountySet.test in
    let input = c.args.input.now in
    let order = input.graph.now.ordered.now.order in
    let groups = c.args.groups.now in
    let left = left_sets order test groups c.taking.group-index c.group-item.result c.group-item.is c.taking-test.true in
    take_halted (board_problem input) (board_round input) c.requires.plain input.share c.args.depth (board_state input test c.args.state.now) (codes_of_set order test c.group-item.result) (codes_of_sets order test (drop (c.taking.group-index + 1) groups))
    (codes_of_sets order test groups) (length c.args.states.now.items) (length c.taking.states.items) c.in-Err.stop (rw c.in_ok-closed.ensures.value at c.in-Err.ensures.stopped) (rw left at c.taking.invariant.more)

pub open_takes-taking-preserved : goal.open_takes-taking-preserved
open_takes-taking-preserved g t c =
    let test = g.C.CountySet.test in
    let input = c.args.input.now in
    let order = input.graph.now.ordered.now.order in
    let s = board_state input test c.args.state.now in
    let first = length c.args.states.now.items in
    let states = c.taking.states.items in
    let later = c.open_tree.new.states.items in
    let groups = c.args.groups.now in
    let codes = codes_of_set order test c.group-item.result in
    let rest = codes_of_sets order test (drop (c.taking.group-index + 1) groups) in
    let tree = partial_of c.in-Ok.tree in
    let left = left_sets order test groups c.taking.group-index c.group-item.result c.group-item.is c.taking-test.true in
    let opened = rw c.in_ok-closed.ensures.value at c.in-Ok.ensures.opened in
    record {
      kept = λ k u h. c.in-Ok.ensures.kept k u (c.taking.invariant.kept k u h);
      few = c.in-Ok.ensures.few;
      opened =
          open_more test (board_problem input) (board_round input) c.args.depth s first (codes_of_sets order test groups) codes rest c.taking.takes.items c.put_take.new.takes.items (roll-PartialTake (record { codes = codes; tree = c.in-Ok.tree })) tree states later (λ others. made_take codes c.in-Ok.tree others) c.in_ok-put_take.ensures opened c.in-Ok.ensures.kept
          (rw left at c.taking.invariant.opened);
      more = more_more test (board_problem input) (board_round input) c.args.depth s first (codes_of_sets order test groups) c.requires.plain codes rest tree states later opened (rw left at c.taking.invariant.more);
    }

pub open_takes-returns-clause-opened : goal.open_takes-returns-clause-opened
open_takes-returns-clause-opened g t c =
    let test = g.C.CountySet.test in
    let input = c.args.input.now in
    let groups = c.args.groups.now in
    let order = input.graph.now.ordered.now.order in
    open_end test (board_problem input) (board_round input) c.args.depth (board_state input test c.args.state.now) (length c.args.states.now.items) (codes_of_sets order test groups) c.taking.takes.items c.taking.states.items (codes_of_sets order test (drop c.taking.group-index groups))
    (no_sets_left order test groups c.taking.group-index (omega (arith, c.taking-test.false))) c.taking.invariant.opened

pub open_tree-returns-in-Err-clause-stopped : goal.open_tree-returns-in-Err-clause-stopped
open_tree-returns-in-Err-clause-stopped g t c =
    let input = c.args.input.now in
    let p = board_problem input in
    let round = board_round input in
    let s = board_state input g.C.CountySet.test c.args.state in
    let first = length c.args.states.now.items in
    subst (IsHalted p round input.share c.args.depth s first) (sym c.from.ensures)
    (line_halted p round input.share c.args.depth s first c.in-Err.stop (omega (arith, c.if-depth-eq0.false)) (λ k. c.in-Err.ensures.stopped (ap Err k)))
