-- Lists of groups of a board's problem stay so whatever comes to the board.
use Rattle.std.proofs.Common.{◌≡◌, ℕ, Bool, length, sym, subst}
use Rattle.county_problem.specs.OrderedValue.{OrderedValue, problem_at}
use Rattle.county_problem.specs.declared.problem.Problem.{Problem as ProblemHeld}
use Rattle.connected_sets.specs.declared.county_graph.CountyGraph.{CountyGraph}
use Rattle.search_groups.specs.PartLists.{AreListsOf}
use Rattle.search_groups.specs.declared.part_lists.PartLists.{PartLists}
use Rattle.share_board.specs.declared.board.Board.{Board}
use Rattle.share_board.specs.BoardValue.{Keeps, IsBoardGraph, AreBoardLists}

pub lists_kept : {C : Type 0} (test : C → ℕ → Bool) (before later : Board C) (lists : PartLists C) → Keeps before later → AreBoardLists test before lists → AreBoardLists test later lists
lists_kept test before later lists keeps are =
    subst (λ (v : ProblemHeld). AreListsOf test (problem_at (record { problem = v; order = later.round.order })) (length later.round.order) lists) (sym keeps.problem)
    (subst (λ z. AreListsOf test (problem_at (record { problem = before.problem; order = z })) (length z) lists) (sym keeps.order) are)

-- and so does its county graph
pub graph_kept : {C : Type 0} (before later : Board C) (graph : CountyGraph C) → Keeps before later → IsBoardGraph before graph → IsBoardGraph later graph
graph_kept before later graph keeps is =
    subst (λ (v : ProblemHeld). graph.ordered.now ≡ record { problem = v; order = later.round.order }) (sym keeps.problem)
    (subst (λ z. graph.ordered.now ≡ record { problem = before.problem; order = z }) (sym keeps.order) is)

-- They are those of the board's order.
module _ {C : Type 0} (test : C → ℕ → Bool) (board : Board C) (o : OrderedValue) (same : o ≡ record { problem = board.problem; order = board.round.order }) (lists : PartLists C) where
  pub lists_of_order : AreBoardLists test board lists → AreListsOf test (problem_at o) (length o.order) lists
  lists_of_order are = subst (λ (z : OrderedValue). AreListsOf test (problem_at z) (length z.order) lists) (sym same) are

  pub lists_of_board : AreListsOf test (problem_at o) (length o.order) lists → AreBoardLists test board lists
  lists_of_board are = subst (λ (z : OrderedValue). AreListsOf test (problem_at z) (length z.order) lists) same are
