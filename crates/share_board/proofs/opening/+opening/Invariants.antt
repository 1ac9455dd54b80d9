use Rattle.std.proofs.Common.{◌+◌, ◌*◌, ◌≤◌, length, drop}
use Rattle.state_groups.specs.PlacedValues.{codes_of_sets}
use Rattle.share_board.specs.Replies.{most_opening}
use Rattle.share_board.specs.Openings.{StatesAreKept, board_problem, board_round, board_state}
use Rattle.share_board.proofs.Branching.{OpenOn, MoreOn}
use Rattle.share_board.proofs.opening.+opening.Given as goal

abbrev pub decreases-open_tree : goal.decreases-open_tree
decreases-open_tree g l = 3 * l.depth + 1

abbrev pub decreases-open_branch : goal.decreases-open_branch
decreases-open_branch g l = 3 * l.depth

abbrev pub decreases-open_takes : goal.decreases-open_takes
decreases-open_takes g l = 3 * l.depth + 2

abbrev pub invariant-open_takes-taking : goal.invariant-open_takes-taking
invariant-open_takes-taking g l = record {
  kept : StatesAreKept l.input.round.now.order g.C.CountySet.test l.fn.states.items l.states.items;
  few : length l.states.items ≤ most_opening;
  opened : OpenOn g.C.CountySet.test (board_problem l.input) (board_round l.input) l.depth (board_state l.input g.C.CountySet.test l.state) (length l.fn.states.items) (codes_of_sets l.input.graph.now.ordered.now.order g.C.CountySet.test l.groups)
      (codes_of_sets l.input.graph.now.ordered.now.order g.C.CountySet.test (drop l.group-index l.groups)) l.takes.items l.states.items;
  more : MoreOn (board_problem l.input) (board_round l.input) l.depth (board_state l.input g.C.CountySet.test l.state) (length l.fn.states.items) (codes_of_sets l.input.graph.now.ordered.now.order g.C.CountySet.test l.groups)
      (codes_of_sets l.input.graph.now.ordered.now.order g.C.CountySet.test (drop l.group-index l.groups)) (length l.states.items);
}
