use Rattle.branch_bound.specs.Searching.{search_state}
use Rattle.search_groups.proofs.Positions.{choice_can}
use Rattle.branch_bound.proofs.search.raised_behind.Goals as goal

pub raised_position-requires-clause-can : goal.raised_position-requires-clause-can
raised_position-requires-clause-can g c =
    let test = g.C.CountySet.test in
    let input = c.args.input.now in
    choice_can g.row.C.Denot test g.C.CountySet.PLACES input c.requires.input (search_state input test c.args.at.state) c.args.at c.args.place c.requires.at c.requires.choice
