use Rattle.std.proofs.Common.{rules, ◌≡◌, ◌+◌, ◌≢◌, ap, subst, length, arith, IsTrue, is_none, ◌↔◌}
use Rattle.place_sets.specs.PlaceSets.{places_of}
use Rattle.grouping_laws.specs.Places.{codes_at}
use Rattle.std.proofs.lemmas.Bool.{false≢true}
use Rattle.county_problem.specs.OrderedValue.{code_at}
use Rattle.state_judge.proofs.TakeLemmas.{too_few, other_code, none_more, compared}
use Rattle.state_judge.proofs.branch.has_codes.Goals as goal

pub returns-in_default : goal.returns-in_default
returns-in_default g c =
    let inv = c.loop-code.invariant in
    (λ k. absurd (false≢true k), λ k. absurd (too_few c.args.ordered.now.order (g.C.CountySet.test c.args.set.now) (length c.args.ordered.now.order) c.loop-code.from inv.within c.args.codes.now c.loop-code.code-index c.code-item.result inv.same c.loop-code-test.true c.in_default.ensures.least k))

pub returns-then-ne : goal.returns-then-ne
returns-then-ne g c =
    let inv = c.loop-code.invariant in
    let at = c.in-Some.ensures.least in
    let order = c.args.ordered.now.order in
    let other : code_at order c.in-Some.place ≢ c.code-item.result = search rules in
    (λ k. absurd (false≢true k), λ k. absurd (other (other_code order (g.C.CountySet.test c.args.set.now) (length order) c.loop-code.from inv.within c.args.codes.now c.loop-code.code-index c.code-item.result c.in-Some.place inv.same c.loop-code-test.true c.code-item.is at.0 at.1 at.2 (c.requires c.in-Some.place at.1) k)))

pub loop-code-preserved : goal.loop-code-preserved
loop-code-preserved g c =
    let inv = c.loop-code.invariant in
    let at = c.in-Some.ensures.least in
    let order = c.args.ordered.now.order in
    let same : code_at order c.in-Some.place ≡ c.code-item.result = search rules in
    record {
      same = compared order (g.C.CountySet.test c.args.set.now) c.loop-code.from c.loop-code.code-index c.code-item.result c.in-Some.place (c.from-from.result + 1) c.args.codes.now inv.same c.loop-code-test.true c.code-item.is at.0 at.1 at.2 same (ap (λ z. z + 1) c.from-from.ensures);
      within = omega (arith, c.requires c.in-Some.place at.1, c.from-from.ensures);
    }

pub returns : goal.returns
returns g c =
    let inv = c.loop-code.invariant in
    let same : is_none c.next-2.result ≡ c.is_none.result = search rules in
    subst (λ b. IsTrue b ↔ (codes_at c.args.ordered.now.order (places_of (length c.args.ordered.now.order) (g.C.CountySet.test c.args.set.now)) ≡ c.args.codes.now)) same
    (none_more c.args.ordered.now.order (g.C.CountySet.test c.args.set.now) (length c.args.ordered.now.order) c.loop-code.from inv.within c.args.codes.now c.loop-code.code-index c.next-2.result inv.same (omega (arith, c.loop-code-test.false)) c.next-2.ensures.least c.requires)
