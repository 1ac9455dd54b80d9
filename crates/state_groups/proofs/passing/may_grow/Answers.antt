use Rattle.std.proofs.Common.{◌≡◌, ℕ, true, subst, length, arith}
use Rattle.place_sets.specs.PlaceSets.{places_of}
use Rattle.place_sets.proofs.Sums.{total_ones}
use Rattle.place_sets.proofs.PlaceSets.{total_part}
use Rattle.place_sets.proofs.PlaceSums.{total_all}
use Rattle.county_problem.specs.OrderedValue.{problem_at}
use Rattle.state_groups.specs.Keeping.{IsAsked}
use Rattle.state_groups.proofs.PeopleBounds.{joins, joins_free, joins_split, joins_length}
use Rattle.state_groups.proofs.passing.may_grow.Goals as goal

pub returns-then-size-more : goal.returns-then-size-more
returns-then-size-more g c =
    let test = g.C.CountySet.test in
    let p = problem_at c.args.input.now.graph.now.ordered.now in
    let n = length c.args.input.now.graph.now.ordered.now.order in
    let input = c.args.input.now in
    let set = test c.args.growth.now.set in
    let reach = test c.args.reach.now in
    let below : (x : ℕ) → reach x ≡ true → _ = λ x e. c.requires.growth.free_below x (c.requires.free x e) in
    λ h x asked fits.
    let size : length h ≡ input.limit = subst (λ b. IsAsked b input.limit h) c.if-test.true asked in
    let few = total_part (λ z. 1) n (joins p n input.limit set reach h x) reach (joins_free p n input.limit set reach h x) in
    absurd (omega (
      arith,
      size,
      few,
      joins_length p n input.limit set reach h x,
      total_ones (places_of n reach),
      total_ones (places_of n (joins p n input.limit set reach h x)),
      c.from.ensures,
      c.size.ensures.count n c.requires.growth.below,
      c.size-then-test.ensures.count n below,
      c.if-size-more.true,
    ))

pub overflow_add-least : goal.overflow_add-least
overflow_add-least g c =
    let test = g.C.CountySet.test in
    let p = problem_at c.args.input.now.graph.now.ordered.now in
    let n = length c.args.input.now.graph.now.ordered.now.order in
    omega (arith, total_all p.people n (test c.args.growth.now.set), c.requires.people, c.requires.graph.people, c.requires.graph.bound, c.fewest_more.ensures.bound)

pub overflow_add-greatest : goal.overflow_add-greatest
overflow_add-greatest g c =
    let test = g.C.CountySet.test in
    let p = problem_at c.args.input.now.graph.now.ordered.now in
    let n = length c.args.input.now.graph.now.ordered.now.order in
    omega (arith, total_all p.people n (test c.args.growth.now.set), c.requires.people, c.requires.graph.people, c.requires.graph.bound, c.most_more.ensures.bound)

pub returns : goal.returns
returns g c =
    let test = g.C.CountySet.test in
    let p = problem_at c.args.input.now.graph.now.ordered.now in
    let n = length c.args.input.now.graph.now.ordered.now.order in
    let input = c.args.input.now in
    let set = test c.args.growth.now.set in
    let reach = test c.args.reach.now in
    let size = c.size.ensures.count n c.requires.growth.below in
    λ h x asked fits.
    let js = joins p n input.limit set reach h x in
    let split = joins_split p n input.limit set reach h x p.people in
    let long = joins_length p n input.limit set reach h x in
    let more = c.from.ensures in
    let low = c.fewest_more.ensures.least js (joins_free p n input.limit set reach h x) (λ e. let whole : length h ≡ input.limit = subst (λ b. IsAsked b input.limit h) e asked in omega (arith, whole, long, size)) in
    let high = c.most_more.ensures.greatest js (joins_free p n input.limit set reach h x) (omega (arith, x.small, long, size)) in
    c.may_fit.ensures h x.in_order x.small fits (omega (arith, low, split, c.requires.people)) (omega (arith, high, split, c.requires.people))
