use Rattle.std.proofs.Common.{◌≤◌, All, refl, sym, subst}
use Rattle.std.proofs.lemmas.List.Elements.{recursion_from_All}
use Rattle.certificate_laws.specs.State.{close}
use Rattle.certificate_lines.specs.Fitting.{IsSet}
use Rattle.state_groups.specs.PlacedValues.{codes_of_set}
use Rattle.branch_bound.specs.Searching.{search_problem, search_round, IsOutcome}
use Rattle.branch_bound.proofs.Searches.{better_closed, take_made}
use Rattle.branch_bound.proofs.search.taken_of.Goals as goal

pub returns-in_ok-codes-in-Proved-clause-taken : goal.returns-in_ok-codes-in-Proved-clause-taken
returns-in_ok-codes-in-Proved-clause-taken g c s fits few proved =
    let input = c.args.input.now in
    let group = codes_of_set input.graph.now.ordered.now.order g.C.CountySet.test c.args.group.now in
    let codes = c.in_ok-codes-in-Proved.ensures in
    take_made (search_problem input) (search_round input) s (close group s) group c.in_ok-codes-in-Proved.codes c.in-Proved.tree refl codes.value
    (subst IsSet (sym codes.value) (record { some = fits.lawful.connected.some_county; few = few; small = recursion_from_All (λ z. z ≤ 99999) group (subst (All (λ z. z ≤ 99999)) codes.value codes.small) })) (subst (IsOutcome (search_problem input) (search_round input) (close group s)) c.in-Proved.is proved)

pub returns-in-Better-clause-taken : goal.returns-in-Better-clause-taken
returns-in-Better-clause-taken g c s fits few proved =
    let input = c.args.input.now in
    let group = codes_of_set input.graph.now.ordered.now.order g.C.CountySet.test c.args.group.now in
    better_closed (search_problem input) (search_round input) s (close group s) group c.in-Better.found refl fits (subst (IsOutcome (search_problem input) (search_round input) (close group s)) c.in-Better.is proved)

pub returns-in-Open-clause-taken : goal.returns-in-Open-clause-taken
returns-in-Open-clause-taken g c s fits few proved =
    let input = c.args.input.now in
    let group = codes_of_set input.graph.now.ordered.now.order g.C.CountySet.test c.args.group.now in
    subst (IsOutcome (search_problem input) (search_round input) (close group s)) c.in-Open.is proved
