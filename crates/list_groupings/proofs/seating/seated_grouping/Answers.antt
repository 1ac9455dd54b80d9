use Rattle.std.proofs.Common.{◌≡◌, ◌≤◌, ℕ, List, map, length, All, sym, ap, ◌∙◌, subst, arith}
use Rattle.std.specs.List.Sorted.{IsPermutation, IsStrictlyIncreasing}
use Rattle.county_codes.specs.declared.county.County.{County}
use Rattle.county_codes.specs.Counties.{codes_of}
use Rattle.grouping_laws.specs.Sets.{sum_by, count}
use Rattle.grouping_laws.specs.Problem.{people_of}
use Rattle.grouping_laws.specs.Grouping.{Lawful, sets_of}
use Rattle.grouping_laws.specs.Ranges.{seated, SuitAll}
use Rattle.grouping_laws.proofs.Seated.{seated_sets}
use Rattle.county_problem.specs.ProblemValue.{problem_of}
use Rattle.county_problem.specs.Building.{people_in}
use Rattle.county_problem.proofs.PeopleLemmas.{people_within}
use Rattle.county_problem.specs.Allotting.{SuitEach}
use Rattle.search_ends.proofs.SeatLemmas.{as_many}
use Rattle.list_laws.specs.AllBest.{SameSets}
use Rattle.list_groupings.proofs.SeatingLemmas.{suit_sets, ascending, sets_once, all_people, seated_is_lawful, can_seat, same_sets, are_in_order, none_suit}
use Rattle.list_groupings.proofs.seating.seated_grouping.Goals as goal

pub people_of_sets-requires : goal.people_of_sets-requires
people_of_sets-requires c =
    let p = problem_of c.args.problem.now in
    let one = c.counties-counties.ensures.problem.once in
    let moved : IsPermutation (map (ascending p one) c.args.closed.now) c.in_ok-sets.sets.items = subst (λ (z : List (List ℕ)). IsPermutation z c.in_ok-sets.sets.items) c.in_ok-ascending_sets.ensures c.in_ok-sets.ensures.same in
    record { once = subst (λ (z : List (List ℕ)). All (λ g. (x : ℕ) → count x g ≤ 1) z) (sym c.deref.ensures.value) (sets_once p one c.args.closed.now c.in_ok-sets.sets.items c.requires.once c.requires.lawful moved) }

pub allot-requires : goal.allot-requires
allot-requires c =
    let p = problem_of c.args.problem.now in
    let one = c.counties-counties.ensures.problem.once in
    let sets = c.in_ok-sets.sets.items in
    let moved : IsPermutation (map (ascending p one) c.args.closed.now) sets = subst (λ (z : List (List ℕ)). IsPermutation z sets) c.in_ok-ascending_sets.ensures c.in_ok-sets.ensures.same in
    let held : sum_by (λ n. n) c.deref-2.result.now ≡ sum_by (λ n. n) (map (people_of p) sets) = ap (sum_by (λ n. n)) (c.deref-2.ensures.value ∙ (c.in_ok-people.ensures ∙ ap (map (people_of p)) c.deref.ensures.value)) in
    let all = all_people p one c.args.closed.now sets c.requires.once c.requires.lawful moved in
    let few : people_in c.args.problem.now.counties ≤ c.args.problem.now.total_people = subst (λ (z : List County). people_in z ≤ c.args.problem.now.total_people) c.counties-counties.ensures.value c.counties-counties.ensures.people in
    omega (arith, held, all, few, people_within c.args.problem.now.counties (codes_of c.args.problem.now.counties) one)

pub seated_groups-requires : goal.seated_groups-requires
seated_groups-requires c =
    let p = problem_of c.args.problem.now in
    let sets = c.in_ok-sets.sets.items in
    let seats = c.in-Some.seats.items in
    let got : SuitEach p c.deref-2.result.now seats × (sum_by (λ k. k) seats ≡ p.seats_left) = rw c.in-Some.is at c.in_ok-seats.ensures in
    let suit : SuitAll p sets seats = suit_sets p sets seats (subst (λ (z : List ℕ). SuitEach p z seats) (c.deref-2.ensures.value ∙ (c.in_ok-people.ensures ∙ ap (map (people_of p)) c.deref.ensures.value)) got.0) in
    record { each = ap (λ (z : List ℕ). length z) c.deref-in-Some-2.ensures.value ∙ (as_many p sets seats suit ∙ sym (ap (λ (z : List (List ℕ)). length z) c.deref-in-Some.ensures.value)) }

pub returns-in-Some : goal.returns-in-Some
returns-in-Some c =
    let p = problem_of c.args.problem.now in
    let one = c.counties-counties.ensures.problem.once in
    let sets = c.in_ok-sets.sets.items in
    let seats = c.in-Some.seats.items in
    let groups = c.in_ok-seated_groups-in-Some.field-0.items in
    let moved : IsPermutation (map (ascending p one) c.args.closed.now) sets = subst (λ (z : List (List ℕ)). IsPermutation z sets) c.in_ok-ascending_sets.ensures c.in_ok-sets.ensures.same in
    let got : SuitEach p c.deref-2.result.now seats × (sum_by (λ k. k) seats ≡ p.seats_left) = rw c.in-Some.is at c.in_ok-seats.ensures in
    let suit : SuitAll p sets seats = suit_sets p sets seats (subst (λ (z : List ℕ). SuitEach p z seats) (c.deref-2.ensures.value ∙ (c.in_ok-people.ensures ∙ ap (map (people_of p)) c.deref.ensures.value)) got.0) in
    let e : groups ≡ seated sets seats =
    c.in_ok-seated_groups-in-Some.ensures ∙ (ap (λ (z : List (List ℕ)). seated z c.deref-in-Some-2.result.now) c.deref-in-Some.ensures.value ∙ ap (seated sets) c.deref-in-Some-2.ensures.value) in
    let own : sets_of groups ≡ sets = ap sets_of e ∙ seated_sets p sets seats suit in
    let up : IsStrictlyIncreasing (codes_of c.args.problem.now.counties) = subst (λ (z : List County). IsStrictlyIncreasing (codes_of z)) c.counties-counties.ensures.value c.counties-counties.ensures.by_code in
    record {
      lawful = subst (Lawful p) (sym e) (seated_is_lawful p one c.args.closed.now sets c.requires.once c.requires.lawful moved seats suit got.1);
      filled = can_seat p one c.args.closed.now sets c.requires.once c.requires.lawful moved seats suit got.1;
      sets = subst (λ (z : List (List ℕ)). SameSets z c.args.closed.now) (sym own) (same_sets p one c.args.closed.now sets c.requires.once c.requires.lawful moved);
      in_order = are_in_order p one c.args.closed.now sets c.requires.once c.requires.lawful moved up c.in_ok-sets.ensures.sorted groups own;
    }

pub returns-clause-lawful : goal.returns-clause-lawful
returns-clause-lawful c =
    let p = problem_of c.args.problem.now in
    let one = c.counties-counties.ensures.problem.once in
    let sets = c.in_ok-sets.sets.items in
    let moved : IsPermutation (map (ascending p one) c.args.closed.now) sets = subst (λ (z : List (List ℕ)). IsPermutation z sets) c.in_ok-ascending_sets.ensures c.in_ok-sets.ensures.same in
    let none : (ks : List ℕ) → SuitEach p c.deref-2.result.now ks → sum_by (λ k. k) ks ≡ p.seats_left → ⊥ = rw c.in-None.is at c.in_ok-seats.ensures in
    none_suit p one c.args.closed.now sets c.requires.once c.requires.lawful moved
    (λ ks. subst (λ (z : List ℕ). SuitEach p z ks → sum_by (λ k. k) ks ≡ p.seats_left → ⊥) (c.deref-2.ensures.value ∙ (c.in_ok-people.ensures ∙ ap (map (people_of p)) c.deref.ensures.value)) (none ks))
