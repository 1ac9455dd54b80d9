use Rattle.std.proofs.Common.{refl, map}
use Rattle.certificate_data.specs.TreeValue.{allowance_of}
use Rattle.search_groups.specs.Positions.{search_problem, search_round, search_state}
use Rattle.search_ends.proofs.Endings.{given_empty}
use Rattle.search_ends.proofs.ShortLines.{complete_empty}
use Rattle.search_ends.proofs.empty_leaves.empty_leaf.Goals as goal

pub returns-in_ok-empty_lines-in-Some-clause-leaf : goal.returns-in_ok-empty_lines-in-Some-clause-leaf
returns-in_ok-empty_lines-in-Some-clause-leaf g c =
    let lines = c.in_ok-empty_lines-in-Some.field-0.items in
    let ends = c.in-Some.ensures in
    given_empty (search_problem c.args.input.now) (search_round c.args.input.now) (search_state c.args.input.now g.C.CountySet.test c.args.state.now) c.requires.at.limit c.args.size c.in-Some.last _ (map allowance_of lines) c.requires.none ends.0 ends.1 refl
    c.in_ok-empty_lines-in-Some.ensures

pub returns-in_ok-empty_lines-in-Some-clause-complete : goal.returns-in_ok-empty_lines-in-Some-clause-complete
returns-in_ok-empty_lines-in-Some-clause-complete g c =
    let lines = c.in_ok-empty_lines-in-Some.field-0.items in
    complete_empty (search_problem c.args.input.now) (search_round c.args.input.now) (search_state c.args.input.now g.C.CountySet.test c.args.state.now) c.in-Some.last (map allowance_of lines) c.in-Some.ensures.1 c.in_ok-empty_lines-in-Some.ensures
