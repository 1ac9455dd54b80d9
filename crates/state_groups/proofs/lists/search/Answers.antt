use Rattle.std.proofs.Common.{◌≡◌, ℕ, ◌==◌, Bool, not, refl, ap, ◌∙◌, sym, subst, length}
use mathlib.Core.Path.{fun_ext}
use Rattle.std.proofs.lemmas.Bool.{and_parts}
use Rattle.grouping_laws.specs.Problem.{people_of}
use Rattle.place_sets.specs.PlaceSets.{places_of}
use Rattle.county_problem.specs.OrderedValue.{problem_at}
use Rattle.connected_laws.specs.Growing.{only, later}
use Rattle.connected_laws.specs.Listing.{IsListed, HasStepped}
use Rattle.connected_laws.proofs.StartSets.{starts}
use Rattle.connected_laws.proofs.People.{people_only}
use Rattle.connected_laws.proofs.Listing.{on_ok, stepped_none}
use Rattle.certificate_laws.proofs.RegionGrowthLemmas.{regions_are_grown}
use Rattle.state_groups.specs.Keeping.{others}
use Rattle.state_groups.specs.People.{fewer_tables}
use Rattle.state_groups.proofs.lists.search.Goals as goal

pub grow-requires-clause-growth : goal.grow-requires-clause-growth
grow-requires-clause-growth g c =
    let test = g.C.CountySet.test in
    let n = length c.args.graph.now.ordered.now.order in
    let growth = c.in_ok-growth.growth in
    let freed : (x : ℕ) → test growth.free x ≡ others (test c.args.region) c.args.place x = λ x. ap (λ (z : g.row.C.Denot). test z x) c.in_ok-growth.ensures.free ∙ c.without-free.ensures.places x in
    let p = problem_at c.args.graph.now.ordered.now in
    let there = c.requires.below c.args.place c.requires.there in
    record {
      growth = regions_are_grown.growth (problem_at c.args.graph.now.ordered.now) n c.args.limit c.args.place (test c.args.region) (test growth.set) (test growth.free) c.requires.some
          (record { below = c.requires.below; there = c.requires.there; set_is = c.in_ok-growth.ensures.set; free_is = freed });
      front = c.in_ok-growth.ensures.front;
      people = c.in_ok-growth.ensures.people ∙ (people_only p n c.args.place (only c.args.place) (later n c.args.place) (starts n c.args.place there) ∙ ap (λ (z : ℕ → Bool). people_of p (places_of n z)) (sym (fun_ext c.in_ok-growth.ensures.set)));
    }

pub returns-clause-listed : goal.returns-clause-listed
returns-clause-listed g c =
    let test = g.C.CountySet.test in
    let p = problem_at c.args.graph.now.ordered.now in
    let n = length c.args.graph.now.ordered.now.order in
    let growth = c.in_ok-growth.growth in
    let freed : (x : ℕ) → test growth.free x ≡ others (test c.args.region) c.args.place x = λ x. ap (λ (z : g.row.C.Denot). test z x) c.in_ok-growth.ensures.free ∙ c.without-free.ensures.places x in
    let old = c.args.groups.now.items in
    let new = c.grow.new.groups.items in
    let set : test growth.set ≡ only c.args.place = fun_ext c.in_ok-growth.ensures.set in
    let free : test growth.free ≡ others (test c.args.region) c.args.place = fun_ext freed in
    on_ok c.grow.result c.grow.ensures.listed
    (λ found keep d.
    subst (λ (z : ℕ → Bool). IsListed g.row.C.Denot test p n c.args.limit keep z (others (test c.args.region) c.args.place) old new) set
    (subst (λ (z : ℕ → Bool). IsListed g.row.C.Denot test p n c.args.limit keep (test growth.set) z old new) free (found keep d)))

pub returns-clause-steps : goal.returns-clause-steps
returns-clause-steps g c =
    let test = g.C.CountySet.test in
    let p = problem_at c.args.graph.now.ordered.now in
    let n = length c.args.graph.now.ordered.now.order in
    let growth = c.in_ok-growth.growth in
    let freed : (x : ℕ) → test growth.free x ≡ others (test c.args.region) c.args.place x = λ x. ap (λ (z : g.row.C.Denot). test z x) c.in_ok-growth.ensures.free ∙ c.without-free.ensures.places x in
    let set : test growth.set ≡ only c.args.place = fun_ext c.in_ok-growth.ensures.set in
    let free : test growth.free ≡ others (test c.args.region) c.args.place = fun_ext freed in
    subst (λ (z : ℕ → Bool). HasStepped p n c.args.limit z (others (test c.args.region) c.args.place) c.args.steps.now.used c.grow.new.steps.used) set
    (subst (λ (z : ℕ → Bool). HasStepped p n c.args.limit (test growth.set) z c.args.steps.now.used c.grow.new.steps.used) free c.grow.ensures.steps)

pub returns-clause-counted : goal.returns-clause-counted
returns-clause-counted g c = c.grow.ensures.counted

pub returns-clause-limit : goal.returns-clause-limit
returns-clause-limit g c = c.grow.ensures.limit

pub returns-clause-stopped : goal.returns-clause-stopped
returns-clause-stopped g c = c.grow.ensures.stopped

pub returns-in_err-growth-clause-steps : goal.returns-in_err-growth-clause-steps
returns-in_err-growth-clause-steps g c =
    stepped_none (problem_at c.args.graph.now.ordered.now) (length c.args.graph.now.ordered.now.order) c.args.limit (only c.args.place) (others (g.C.CountySet.test c.args.region) c.args.place) c.args.steps.now.used c.args.steps.now.used refl

pub grow-requires-clause-knows : goal.grow-requires-clause-knows
grow-requires-clause-knows g c =
    let test = g.C.CountySet.test in
    let p = problem_at c.args.graph.now.ordered.now in
    let n = length c.args.graph.now.ordered.now.order in
    let growth = c.in_ok-growth.growth in
    let freed : (x : ℕ) → test growth.free x ≡ others (test c.args.region) c.args.place x = λ x. ap (λ (z : g.row.C.Denot). test z x) c.in_ok-growth.ensures.free ∙ c.without-free.ensures.places x in (
      c.requires.places,
      c.requires.rest,
      fewer_tables c.args.format p n c.args.limit (test c.args.state.now.rest) (test c.args.region) (test growth.free) c.args.tables.now
          (λ x e. (and_parts (test c.args.region x) (not (x == c.args.place)) (sym (freed x) ∙ e)).0) c.requires.tables,
    )
