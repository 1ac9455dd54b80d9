use Rattle.certificate_data.specs.declared.allowance.Allowance.TheVariants.{Room}
use Rattle.search_groups.specs.Positions.{search_problem, search_round, search_state}
use Rattle.search_ends.proofs.Endings.{given_end, room_fewer}
use Rattle.search_ends.proofs.ShortLines.{complete_end}
use Rattle.search_ends.proofs.room.room_leaf.Goals as goal

pub returns : goal.returns
returns g c =
    let p = search_problem c.args.input.now in
    let round = search_round c.args.input.now in
    let s = search_state c.args.input.now g.C.CountySet.test c.args.state.now in
    let k = c.in-Some.wanted in
    let fewer = room_fewer round.format p s c.args.size k c.in_ok-room.room c.from.result c.in_ok-room.ensures.value c.from.ensures c.if-room-from.false in
    record {
      leaf = given_end p round s c.requires.at.limit c.args.size k Room _ c.requires.size c.requires.small c.requires.none c.in-Some.ensures fewer c.in_ok-ending_leaf.ensures;
      complete = complete_end p round s c.args.size k Room _ c.in-Some.ensures fewer c.in_ok-ending_leaf.ensures;
    }
