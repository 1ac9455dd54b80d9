use Rattle.std.proofs.Common.{◌≡◌, ℕ, ◌&&◌, not, true, false, ap, ◌∙◌, arith, inl, inr, length}
use Rattle.grouping_laws.specs.SeatWindow.{people_bounds}
use Rattle.connected_laws.proofs.PlaceLists.{placed}
use Rattle.county_problem.specs.OrderedValue.{problem_at}
use Rattle.state_groups.proofs.StrandLemmas.{least_for_one, kept_back}
use Rattle.state_groups.proofs.stranding.is_too_small.Goals as goal

pub returns-then-people_in-district_bounds : goal.returns-then-people_in-district_bounds
returns-then-people_in-district_bounds g c = λ e.
    let test = g.C.CountySet.test in
    let p = problem_at c.args.ordered.now in
    let place = c.in-Some._place in
    let both : (test c.args.part.now place ≡ true) × (test c.args.free.now place ≡ false) =
    kept_back (test c.args.part.now place) (test c.args.free.now place) (test c.minus-kept.result place) (c.minus-kept.ensures.places place ∙ ap (λ z. z && not (test c.args.free.now place)) (c.in_ok-copy.ensures.places place)) c.in-Some.ensures.least.1 in
    let bounds : c.district_bounds.result ≡ people_bounds p 1 = c.district_bounds.ensures.value ∙ ap (λ v. people_bounds (problem_at (record c.args.ordered.now { problem = v })) 1) c.problem-problem.ensures.value in
    record {
      place = place;
      there = placed (length c.args.ordered.now.order) place (test c.args.part.now) (c.requires.below place both.0) both.0;
      not_free = both.1;
      small = inl (λ people k few s. omega (arith, few, c.people_in.ensures.value, c.if-people_in-district_bounds.true, ap (λ (z : ℕ × ℕ). z.0) bounds, least_for_one p c.places-places.ensures.problem people k s));
    }

pub returns : goal.returns
returns g c = λ e.
    let test = g.C.CountySet.test in
    let r = c.asks_more.ensures.0 e in
    let place = r.0 in
    let both : (test c.args.part.now place ≡ true) × (test c.args.free.now place ≡ false) =
    kept_back (test c.args.part.now place) (test c.args.free.now place) (test c.minus-kept.result place) (c.minus-kept.ensures.places place ∙ ap (λ z. z && not (test c.args.free.now place)) (c.in_ok-copy.ensures.places place)) r.1 in
    record {
      place = place;
      there = placed (length c.args.ordered.now.order) place (test c.args.part.now) (c.requires.below place both.0) both.0;
      not_free = both.1;
      small = inr (omega (arith, r.2, c.size.ensures.count (length c.args.ordered.now.order) c.requires.below));
    }
