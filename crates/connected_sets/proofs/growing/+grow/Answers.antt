use Rattle.std.proofs.Common.{◌≡◌, ℕ, true, not, ◌==◌, refl, sym, ap, ◌∙◌, subst, length, Bool, arith, rules}
use Rattle.std.proofs.lemmas.Bool.{and_parts}
use mathlib.Core.Path.{fun_ext}
use Rattle.connected_laws.specs.Growing.{IsGrowth, IsMove, IsFront}
use Rattle.connected_laws.specs.Listing.{IsListed, HasStepped}
use Rattle.connected_laws.proofs.Fronts.{skipped_front}
use Rattle.connected_laws.proofs.Growing.{skipped_growth, fewer_free}
use Rattle.connected_laws.proofs.Listing.{on_ok, listed_none, listed_fork, stepped_none, stepped_taken, stepped_fork}
use Rattle.grouping_laws.specs.Problem.{people_of}
use Rattle.place_sets.specs.PlaceSets.{places_of}
use Rattle.county_problem.specs.OrderedValue.{problem_at}
use Rattle.connected_sets.specs.Growths.{IsSoundGrowth}
use Rattle.connected_sets.proofs.growing.+grow.Goals as goal

pub returns-in_err-is_passed_over-clause-steps : goal.returns-in_err-is_passed_over-clause-steps
returns-in_err-is_passed_over-clause-steps g t c = stepped_none (problem_at c.args.input.now.graph.now.ordered.now) (length c.args.input.now.graph.now.ordered.now.order) c.args.input.now.limit (g.C.CountySet.test c.args.growth.set) (g.C.CountySet.test c.args.growth.free) c.args.steps.now.used c.args.steps.now.used refl

pub returns-then-branch-clause-steps : goal.returns-then-branch-clause-steps
returns-then-branch-clause-steps g t c = c.pass_over.ensures.steps

pub returns-in_err-joined-in-Some-clause-steps : goal.returns-in_err-joined-in-Some-clause-steps
returns-in_err-joined-in-Some-clause-steps g t c = stepped_none (problem_at c.args.input.now.graph.now.ordered.now) (length c.args.input.now.graph.now.ordered.now.order) c.args.input.now.limit (g.C.CountySet.test c.args.growth.set) (g.C.CountySet.test c.args.growth.free) c.args.steps.now.used c.args.steps.now.used refl

pub returns-then-branch-clause-listed : goal.returns-then-branch-clause-listed
returns-then-branch-clause-listed g t c =
    let test = g.C.CountySet.test in
    let p = problem_at c.args.input.now.graph.now.ordered.now in
    let n = length c.args.input.now.graph.now.ordered.now.order in
    on_ok c.pass_over.result c.pass_over.ensures.counted (λ one keep d.
    listed_none g.row.C.Denot test p n c.args.input.now.limit keep (test c.args.growth.set) (test c.args.growth.free) c.args.groups.now.items c.args.groups.now.items (c.in_ok-is_passed_over.ensures.passed c.if-branch.true keep d) refl)

pub returns-in_err-grow-in-Some-clause-steps : goal.returns-in_err-grow-in-Some-clause-steps
returns-in_err-grow-in-Some-clause-steps g t c =
    let test = g.C.CountySet.test in
    let p = problem_at c.args.input.now.graph.now.ordered.now in
    let n = length c.args.input.now.graph.now.ordered.now.order in
    let growth = c.args.growth in
    let limit = c.args.input.now.limit in
    let more = test c.in_ok-joined-in-Some.joined.set in
    let less = test c.in_ok-joined-in-Some.joined.free in
    let place = c.in-Some.place in
    let free = c.in-Some.ensures.0.is_free in
    let m = c.in_ok-joined-in-Some.ensures.moved in
    stepped_taken p n limit (test growth.set) (test growth.free) more less place c.args.steps.now.used c.grow.new.steps.used free m c.grow.ensures.steps

pub grow-requires : goal.grow-requires
grow-requires g t c κs within =
    let test = g.C.CountySet.test in
    let p = problem_at c.args.input.now.graph.now.ordered.now in
    let n = length c.args.input.now.graph.now.ordered.now.order in
    let growth = c.args.growth in
    let limit = c.args.input.now.limit in
    let more = test c.in_ok-joined-in-Some.joined.set in
    let less = test c.in_ok-joined-in-Some.joined.free in
    let place = c.in-Some.place in
    let free = c.in-Some.ensures.0.is_free in
    let m = c.in_ok-joined-in-Some.ensures.moved in
    let fewer = fewer_free p n limit (test growth.set) (test growth.free) more less place c.requires.growth.growth free m in
    let lower : (x : ℕ) → less x ≡ true → test growth.free x ≡ true = λ x e. (and_parts (test growth.free x) (not (x == place)) (sym (m.without x) ∙ e)).0 in
    let knows = g.met.T.GrowthTest.shrinks c.args.test.now p n limit (test growth.free) less lower c.requires.knows in
    let joined = c.in_ok-joined-in-Some.ensures in
    (first_of (omega (arith, fewer), search (rules, fewer)), (within.0, (within.1, (c.requires.graph, (joined.growth, knows)))))

pub grow-requires-in-Some : goal.grow-requires-in-Some
grow-requires-in-Some g t c κs within =
    let test = g.C.CountySet.test in
    let p = problem_at c.args.input.now.graph.now.ordered.now in
    let n = length c.args.input.now.graph.now.ordered.now.order in
    let growth = c.args.growth in
    let limit = c.args.input.now.limit in
    let more = test c.in_ok-joined-in-Some.joined.set in
    let less = test c.in_ok-joined-in-Some.joined.free in
    let place = c.in-Some.place in
    let free = c.in-Some.ensures.0.is_free in
    let m = c.in_ok-joined-in-Some.ensures.moved in
    let rest = test c.without_place-others.result.free in
    let n2 : IsMove (test growth.set) (test growth.free) more rest place = record { with = m.with; without = c.without_place-others.ensures.free } in
    let set = c.without_place-others.ensures.set in
    let h : IsGrowth p n limit (test growth.set) rest = skipped_growth p n limit (test growth.set) (test growth.free) more rest place c.requires.growth.growth n2 in
    let fewer = fewer_free p n limit (test growth.set) (test growth.free) more rest place c.requires.growth.growth free n2 in
    let lower : (x : ℕ) → rest x ≡ true → test growth.free x ≡ true = λ x e. (and_parts (test growth.free x) (not (x == place)) (sym (n2.without x) ∙ e)).0 in
    let knows = g.met.T.GrowthTest.shrinks c.args.test.now p n limit (test growth.free) rest lower c.requires.knows in
    let front : IsFront p (test growth.set) rest (test c.without_place-others.result.front) =
    skipped_front p (test growth.set) (test growth.free) (test growth.front) more rest (test c.without_place-others.result.front) place n2 c.requires.growth.front c.without_place-others.ensures.front in
    let people : c.without_place-others.result.people ≡ people_of p (places_of n (test c.without_place-others.result.set)) = c.without_place-others.ensures.people ∙ (c.requires.growth.people ∙ ap (λ (z : g.row.C.Denot). people_of p (places_of n (test z))) (sym set)) in
    let sound : IsSoundGrowth g.row.C.Denot test c.args.input.now c.without_place-others.result = record {
      growth = subst (λ (z : g.row.C.Denot). IsGrowth p n limit (test z) rest) (sym set) h;
      front = subst (λ (z : g.row.C.Denot). IsFront p (test z) rest (test c.without_place-others.result.front)) (sym set) front;
      people = people;
    } in
    (first_of (omega (arith, fewer), search (rules, fewer)), (within.0, (within.1, (c.requires.graph, (sound, knows)))))

pub returns-in_ok-grow-in-Some-clause-steps : goal.returns-in_ok-grow-in-Some-clause-steps
returns-in_ok-grow-in-Some-clause-steps g t c =
    let test = g.C.CountySet.test in
    let p = problem_at c.args.input.now.graph.now.ordered.now in
    let n = length c.args.input.now.graph.now.ordered.now.order in
    let growth = c.args.growth in
    let limit = c.args.input.now.limit in
    let more = test c.in_ok-joined-in-Some.joined.set in
    let less = test c.in_ok-joined-in-Some.joined.free in
    let place = c.in-Some.place in
    let free = c.in-Some.ensures.0.is_free in
    let m = c.in_ok-joined-in-Some.ensures.moved in
    let rest = test c.without_place-others.result.free in
    let n2 : IsMove (test growth.set) (test growth.free) more rest place = record { with = m.with; without = c.without_place-others.ensures.free } in
    let same : less ≡ rest = fun_ext (λ x. m.without x ∙ sym (c.without_place-others.ensures.free x)) in
    let first : HasStepped p n limit more rest c.args.steps.now.used c.grow.new.steps.used = subst (λ (z : ℕ → Bool). HasStepped p n limit more z c.args.steps.now.used c.grow.new.steps.used) same c.grow.ensures.steps in
    let second : HasStepped p n limit (test growth.set) rest c.grow.new.steps.used c.grow-in-Some.new.steps.used = subst (λ (z : g.row.C.Denot). HasStepped p n limit (test z) rest c.grow.new.steps.used c.grow-in-Some.new.steps.used) c.without_place-others.ensures.set c.grow-in-Some.ensures.steps in
    stepped_fork p n limit (test growth.set) (test growth.free) more rest place c.args.steps.now.used c.grow.new.steps.used c.grow-in-Some.new.steps.used c.requires.growth.growth free n2 first second

pub returns-in_ok-grow-in-Some-clause-listed : goal.returns-in_ok-grow-in-Some-clause-listed
returns-in_ok-grow-in-Some-clause-listed g t c =
    let test = g.C.CountySet.test in
    let p = problem_at c.args.input.now.graph.now.ordered.now in
    let n = length c.args.input.now.graph.now.ordered.now.order in
    let growth = c.args.growth in
    let limit = c.args.input.now.limit in
    let more = test c.in_ok-joined-in-Some.joined.set in
    let less = test c.in_ok-joined-in-Some.joined.free in
    let place = c.in-Some.place in
    let free = c.in-Some.ensures.0.is_free in
    let m = c.in_ok-joined-in-Some.ensures.moved in
    let rest = test c.without_place-others.result.free in
    let n2 : IsMove (test growth.set) (test growth.free) more rest place = record { with = m.with; without = c.without_place-others.ensures.free } in
    let same : less ≡ rest = fun_ext (λ x. m.without x ∙ sym (c.without_place-others.ensures.free x)) in
    let old = c.args.groups.now.items in
    let mid = c.grow.new.groups.items in
    let new = c.grow-in-Some.new.groups.items in
    on_ok c.grow-in-Some.result c.grow-in-Some.ensures.listed
    (λ second keep d.
    listed_fork g.row.C.Denot test p n limit keep (test growth.set) (test growth.free) more rest place old mid new c.requires.growth.growth free n2
    (subst (λ (z : ℕ → Bool). IsListed g.row.C.Denot test p n limit keep more z old mid) same (c.in_ok-grow-in-Some.ensures.listed keep d))
    (subst (λ (z : g.row.C.Denot). IsListed g.row.C.Denot test p n limit keep (test z) rest mid new) c.without_place-others.ensures.set (second keep d)))

pub returns-then-branch-clause-counted : goal.returns-then-branch-clause-counted
returns-then-branch-clause-counted g t c = on_ok c.pass_over.result c.pass_over.ensures.counted (λ one. omega (arith, one))

pub returns-then-branch-clause-limit : goal.returns-then-branch-clause-limit
returns-then-branch-clause-limit g t c = c.pass_over.ensures.limit

pub returns-then-branch-clause-stopped : goal.returns-then-branch-clause-stopped
returns-then-branch-clause-stopped g t c = c.pass_over.ensures.stopped

pub returns-in_ok-grow-in-Some-clause-counted : goal.returns-in_ok-grow-in-Some-clause-counted
returns-in_ok-grow-in-Some-clause-counted g t c = on_ok c.grow-in-Some.result c.grow-in-Some.ensures.counted (λ second. omega (arith, second, c.in_ok-grow-in-Some.ensures.counted))

pub returns-in_ok-grow-in-Some-clause-limit : goal.returns-in_ok-grow-in-Some-clause-limit
returns-in_ok-grow-in-Some-clause-limit g t c = c.grow-in-Some.ensures.limit ∙ c.grow.ensures.limit

pub returns-in_ok-grow-in-Some-clause-stopped : goal.returns-in_ok-grow-in-Some-clause-stopped
returns-in_ok-grow-in-Some-clause-stopped g t c = c.grow-in-Some.ensures.stopped

pub returns-in-None-clause-listed : goal.returns-in-None-clause-listed
returns-in-None-clause-listed g t c = c.end_growth.ensures.listed

pub returns-in-None-clause-steps : goal.returns-in-None-clause-steps
returns-in-None-clause-steps g t c = c.end_growth.ensures.steps

pub returns-in-None-clause-counted : goal.returns-in-None-clause-counted
returns-in-None-clause-counted g t c = c.end_growth.ensures.counted

pub returns-in-None-clause-limit : goal.returns-in-None-clause-limit
returns-in-None-clause-limit g t c = c.end_growth.ensures.limit

pub returns-in-None-clause-stopped : goal.returns-in-None-clause-stopped
returns-in-None-clause-stopped g t c = c.end_growth.ensures.stopped
