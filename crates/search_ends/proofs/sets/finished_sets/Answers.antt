use Rattle.std.proofs.Common.{◌≡◌, ℕ, ◌<◌, true, length, ap, ◌∙◌}
use Rattle.grouping_laws.proofs.PlaceProblem.{order_once}
use Rattle.county_problem.specs.ProblemValue.{problem_of}
use Rattle.connected_laws.specs.Listing.{lists_of}
use Rattle.connected_laws.proofs.Keys.{all_moved}
use Rattle.state_groups.specs.PlacedValues.{state_at}
use Rattle.search_ends.proofs.SetLemmas.{finished_value, finished_below, finished_moved, sorted_codes}
use Rattle.search_ends.proofs.sets.finished_sets.Goals as goal

pub returns : goal.returns
returns g c =
    let test = g.C.CountySet.test in
    let order = c.args.graph.now.ordered.now.order in
    let p = problem_of c.args.graph.now.ordered.now.problem in
    let held = c.args.state.now in
    let whole = c.requires.graph.order in
    let copies = c.in_ok-sets.sets.items in
    let parts = c.in_ok-parts.parts.items in
    let all = c.append.new.self.items in
    let found = c.in_ok-sorted.field-0.items in
    let same = c.in_ok-sorted.ensures.same in
    let copied : (n : ℕ) → lists_of n test copies ≡ lists_of n test held.closed.items = λ n. c.in_ok-sets.ensures.places n ∙ ap (lists_of n test) c.deref.ensures.value in
    let below = finished_below test order held copies parts all c.requires.placed copied c.in_ok-parts.ensures.inside c.in_ok-append.ensures.items in
    record {
      finished = finished_moved test order p (state_at order test held) all found same (finished_value test order p held copies parts all whole c.requires.placed copied c.in_ok-parts.ensures.parts c.in_ok-append.ensures.items);
      in_turn = sorted_codes test order (order_once p order whole) found (c.in_ok-sorted.ensures.sorted (length order) below);
      below = all_moved (λ (z : g.row.C.Denot). (x : ℕ) → test z x ≡ true → x < length order) all found same below;
    }
