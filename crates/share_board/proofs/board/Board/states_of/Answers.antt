use Rattle.std.proofs.Common.{sym, subst}
use Rattle.county_problem.specs.ProblemValue.{problem_of}
use Rattle.county_problem.specs.OrderedValue.{OrderedValue}
use Rattle.certificate_data.specs.RoundValue.{round_of}
use Rattle.certificate_laws.specs.State.{IsState}
use Rattle.state_groups.specs.PlacedValues.{state_at}
use Rattle.partial_trees.specs.PartialValue.{partial_of}
use Rattle.share_board.specs.BoardValue.{reply_of}
use Rattle.share_board.specs.Dividing.{IsRefusedPart}
use Rattle.share_board.proofs.Filling.{placed_there, of_round}
use Rattle.share_board.proofs.Lists.{lists_of_order, lists_of_board}
use Rattle.share_board.proofs.PartSplits.{leaves_long, part_may, part_may_not, refused_part}
use Rattle.share_board.proofs.board.Board.states_of.Goals as goal

pub check_part-requires-clause-placed : goal.check_part-requires-clause-placed
check_part-requires-clause-placed g c =
    placed_there g.C.CountySet.test c.args.self.now c.requires.board.0 c.requires.board.1 c.args.graph.now.ordered.now c.args.at c.index.result.now c.requires.ordered c.requires.waits c.index.ensures

pub check_part-requires-clause-state : goal.check_part-requires-clause-state
check_part-requires-clause-state g c = λ _.
    let test = g.C.CountySet.test in
    let board = c.args.self.now in
    let held = c.index.result.now in
    subst (λ (z : OrderedValue). IsState (problem_of z.problem) (round_of board.round) (state_at z.order test held)) (sym c.requires.ordered) (of_round test board c.requires.board.0 c.requires.board.1 c.args.at held c.requires.waits c.index.ensures)

pub check_part-requires-clause-lists : goal.check_part-requires-clause-lists
check_part-requires-clause-lists g c =
    let board = c.args.self.now in
    let o = c.args.graph.now.ordered.now in
    lists_of_order g.C.CountySet.test board o c.requires.ordered c.args.lists.now c.requires.lists

pub returns-in-Ok-clause-lists : goal.returns-in-Ok-clause-lists
returns-in-Ok-clause-lists g c =
    let board = c.args.self.now in
    let o = c.args.graph.now.ordered.now in
    lists_of_board g.C.CountySet.test board o c.requires.ordered c.check_part.new.lists c.check_part.ensures.lists

pub returns-in-Err-clause-lists : goal.returns-in-Err-clause-lists
returns-in-Err-clause-lists g c =
    let board = c.args.self.now in
    let o = c.args.graph.now.ordered.now in
    lists_of_board g.C.CountySet.test board o c.requires.ordered c.check_part.new.lists c.check_part.ensures.lists

pub returns-in-Ok-clause-leaves : goal.returns-in-Ok-clause-leaves
returns-in-Ok-clause-leaves g c =
    let test = g.C.CountySet.test in
    let order = c.args.graph.now.ordered.now.order in
    leaves_long order test c.in-Ok.states.items (partial_of c.args.tree.now) (round_of c.args.self.now.round) (state_at order test c.index.result.now) c.in-Ok.ensures.states

pub returns-in-Ok-clause-states : goal.returns-in-Ok-clause-states
returns-in-Ok-clause-states g c = λ b s is stand is_part.
    let board = c.args.self.now in
    let o = c.args.graph.now.ordered.now in
    let e = c.in-Ok.ensures in
    part_may g.C.CountySet.test board b is (partial_of c.args.tree.now) c.args.at c.index.result.now s o c.requires.ordered c.requires.waits c.index.ensures stand c.in-Ok.states.items is_part e.proves e.states e.placed

pub returns-in-Err-clause-refused : goal.returns-in-Err-clause-refused
returns-in-Err-clause-refused g c = λ b s is stand.
    let test = g.C.CountySet.test in
    let board = c.args.self.now in
    let p = problem_of board.problem in
    let tree = partial_of c.args.tree.now in
    let o = c.args.graph.now.ordered.now in
    let refused = part_may_not test board b is tree c.args.at c.index.result.now s o c.requires.ordered c.requires.waits c.index.ensures stand board.budget c.in-Err.stop c.in-Err.ensures.refused in
    subst (λ z. IsRefusedPart p board.budget b.round s tree (reply_of board.round.order test z)) (sym c.part_refusal.ensures) (refused_part board.round.order test p board.budget b.round s tree c.in-Err.stop refused)
