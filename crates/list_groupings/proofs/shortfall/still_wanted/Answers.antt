use Rattle.std.proofs.Common.{◌≡◌, ◌+◌, ◌-◌, ◌*◌, ◌≤◌, List, ℕ, ap, ◌∙◌, arith}
use Rattle.grouping_laws.specs.Grouping.{counts}
use Rattle.county_problem.specs.CountList.{count_at}
use Rattle.list_laws.specs.Shortfalls.{still_wanted}
use Rattle.list_groupings.proofs.ShortfallLemmas.{still_more, small_product}
use Rattle.list_groupings.proofs.shortfall.still_wanted.Goals as goal

pub loop-before-preserved : goal.loop-before-preserved
loop-before-preserved c =
    let b = c.loop-before.before in
    let f = count_at c.args.wanted.now in
    let missing = c.saturating_sub-missing.result in
    record {
      sum = λ s e.
          let miss : missing ≡ f (b + 1) - counts s.closed (b + 1) = omega (arith, ap (λ (z : List (List ℕ)). counts z (b + 1)) e) in
          let size : c.from-in-loop-before.result ≡ b + 1 = omega arith in
          let product : c.from-in-loop-before.result * missing ≡ (b + 1) * (f (b + 1) - counts s.closed (b + 1)) = ap (λ z. z * missing) size ∙ ap (λ z. (b + 1) * z) miss in
          omega (arith, c.loop-before.invariant.sum s e, still_more s f b, product);
      few =
          let small : c.from-in-loop-before.result * missing ≤ 16776960 = small_product c.from-in-loop-before.result missing (omega arith) (omega arith) in
          omega (arith, c.loop-before.invariant.few, small);
    }

pub returns : goal.returns
returns c = record { value = λ s e. let last : c.loop-before.before ≡ c.args.size = omega arith in c.loop-before.invariant.sum s e ∙ ap (still_wanted s (count_at c.args.wanted.now)) last }
