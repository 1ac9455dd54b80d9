use Rattle.branch_bound.specs.Searching.{search_problem, search_round, search_state}
use Rattle.branch_bound.proofs.LeafEnds.{leaf_end_of}
use Rattle.branch_bound.proofs.judging.present_room.Goals as goal

pub returns : goal.returns
returns g c = leaf_end_of (search_problem c.args.input.now) (search_round c.args.input.now) (search_state c.args.input.now g.C.CountySet.test c.args.position.now.state) c.room_leaf.result c.room_leaf.ensures.leaf c.room_leaf.ensures.complete
