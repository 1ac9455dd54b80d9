use Rattle.std.proofs.Common.{◌≡◌, ℕ, ◌<◌, inl, Bool, true, false, Option, Some, None, MatchOption, length, tests, arith}
use Rattle.grouping_laws.specs.Problem.{Problem}
use Rattle.place_sets.specs.PlaceSets.{places_of}
use Rattle.county_problem.specs.OrderedValue.{problem_at}
use Rattle.connected_laws.specs.Growing.{IsGrowth, IsFront, IsWhole, IsCandidate}
use Rattle.connected_laws.proofs.Fronts.{whole_front}
use Rattle.connected_sets.proofs.growing.next_place.Goals as goal

found : (p : Problem) (n limit : ℕ) (set free front : ℕ → Bool) (r : Option ℕ) → IsGrowth p n limit set free → IsFront p set free front → MatchOption r ((x : ℕ) → front x ≡ false) (λ c. front c ≡ true) → length (places_of n set) < limit
    → MatchOption r (IsWhole p n limit set free) (λ c. IsCandidate p set free c × (length (places_of n set) < limit))
found p n limit set free front None growth f h few = whole_front p n limit set free front growth f (inl h)
found p n limit set free front (Some c) growth f h few = (f.each c h, few)

pub returns : goal.returns
returns g c =
    let test = g.C.CountySet.test in
    let p = problem_at c.args.input.now.graph.now.ordered.now in
    let n = length c.args.input.now.graph.now.ordered.now.order in
    let growth = c.args.growth.now in
    let size = c.size.ensures.count n c.requires.growth.growth.below in
    let few : length (places_of n (test growth.set)) < c.args.input.now.limit = grind (arith, tests, size) in
    found p n c.args.input.now.limit (test growth.set) (test growth.free) (test growth.front) c.next_place.result c.requires.growth.growth c.requires.growth.front c.next_place.ensures.place few
