use Rattle.std.proofs.Common.{◌≡◌, ℕ, ◌+◌, ◌*◌, Bool, List, length, get_or, refl, ap, ◌∙◌, arith}
use Rattle.county_problem.specs.ProblemValue.{names_both}
use Rattle.county_problem.specs.OrderedValue.{OrderedValue, code_at}
use Rattle.county_problem.proofs.ProblemLemmas.{either_way}
use Rattle.county_problem.proofs.OrderLemmas.{row_there, row_adjacent}
use Rattle.county_problem.proofs.ordered_counties.Ordered.touch.Goals as goal

pub index-requires : goal.index-requires
index-requires c =
    let order = c.self.inside.order.items in
    let long = ap (λ (w : OrderedValue). length w.order) c.self.view_is in
    let there = row_there (names_both c.self.inside.problem.now.pairs) order c.args.a c.args.b (omega (arith, long, c.requires.a)) (omega (arith, long, c.requires.b)) in
    rw (c.from.ensures, c.len.ensures, c.from-2.ensures, c.self.inside.order.ok.0, c.self.inside.rows.ok.0, c.self.invariant.rows_are) there

pub returns-clause-value : goal.returns-clause-value
returns-clause-value c =
    let order = c.self.inside.order.items in
    let adjacent = names_both c.self.inside.problem.now.pairs in
    let long = ap (λ (w : OrderedValue). length w.order) c.self.view_is in
    let i : c.from.result * c.len.result + c.from-2.result ≡ c.args.a * length order + c.args.b = rw (c.from.ensures, c.len.ensures, c.from-2.ensures, c.self.inside.order.ok.0) refl in
    let d = c.index.result.now in
    rw (← c.self.view_is) (
    c.index.ensures
    ∙ (ap (λ (k : ℕ). get_or c.self.inside.rows.items k d) i
    ∙ (ap (λ (l : List Bool). get_or l (c.args.a * length order + c.args.b) d) c.self.invariant.rows_are
    ∙ row_adjacent adjacent order c.args.a c.args.b (omega (arith, long, c.requires.a)) (omega (arith, long, c.requires.b)) d)))

pub returns-clause-either_way : goal.returns-clause-either_way
returns-clause-either_way c =
    let order = c.args.self.now.order in
    returns-clause-value c ∙ either_way c.args.self.now.problem.pairs (code_at order c.args.a) (code_at order c.args.b)
