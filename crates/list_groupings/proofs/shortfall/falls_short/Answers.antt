use Rattle.std.proofs.Common.{◌≡◌, ◌-◌, subst, ◌∙◌, get_or, arith}
use Rattle.county_problem.specs.CountList.{count_at}
use Rattle.list_groupings.proofs.ShortfallLemmas.{no_line, fewer, last_tells, spelled_at}
use Rattle.list_groupings.proofs.shortfall.falls_short.Goals as goal

pub returns-then-limit-eq0 : goal.returns-then-limit-eq0
returns-then-limit-eq0 c = record { value = λ format p s h b. no_line format p c.args.limit s (count_at c.args.wanted.now) _ (omega arith) b }

pub returns-then-lines-from : goal.returns-then-lines-from
returns-then-lines-from c = record { value = λ format p s h b. fewer format p c.args.limit s (count_at c.args.wanted.now) c.args.lines.now (omega arith) b }

pub gives_fewer-requires-clause-spelled : goal.gives_fewer-requires-clause-spelled
gives_fewer-requires-clause-spelled c =
    let at : c.from-2.result - 1 ≡ c.args.limit - 1 = omega arith in
    spelled_at c.args.lines.now (c.args.limit - 1) c.index-lines-from.result c.index-lines-from.result (subst (λ z. c.index-lines-from.result ≡ get_or c.args.lines.now z c.index-lines-from.result) at c.index-lines-from.is) (omega arith) c.requires.spelled

pub returns : goal.returns
returns c = record {
  value = λ format p s h b.
      let at : c.from-2.result - 1 ≡ c.args.limit - 1 = omega arith in
      let is : c.index-lines-from.result ≡ get_or c.args.lines.now (c.args.limit - 1) c.index-lines-from.result = subst (λ z. c.index-lines-from.result ≡ get_or c.args.lines.now z c.index-lines-from.result) at c.index-lines-from.is in
      c.gives_fewer.ensures.value p s h ∙ last_tells format p c.args.limit s (count_at c.args.wanted.now) c.args.lines.now c.index-lines-from.result (omega arith) (omega arith) is b;
}
