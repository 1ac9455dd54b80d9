use Rattle.std.proofs.Common.{ℕ, ◌+◌, ◌&&◌, ◌||◌, nat_lt, List, drop, refl, sym, ap, ◌∙◌}
use Rattle.std.proofs.lemmas.List.{drop_all}
use Rattle.std.specs.BTreeSet.{contains}
use Rattle.county_problem.specs.ProblemValue.{names_both}
use Rattle.adjacency_reader.specs.Pairs.{by_codes}
use Rattle.adjacency_reader.proofs.PairLemmas.{after_row, after_rows, drop_item}
use Rattle.adjacency_reader.proofs.pairs.pair_set.Goals as goal

pub loop-a-init : goal.loop-a-init
loop-a-init c = λ (x y : ℕ). rw c.new-pairs.ensures.empty refl

pub loop-a-preserved : goal.loop-a-preserved
loop-a-preserved c = λ (x y : ℕ).
    let rows = c.args.rows.now in
    let i = c.loop-a.a-index in
    let old = c.loop-a.pairs in
    after_row x y old c.add_pair.new.pairs (nat_lt x y && names_both rows x y) c.loop-a-item.result (drop (i + 1) rows) (c.in_ok-add_pair.ensures x y)
    (ap (λ (l : List (ℕ × ℕ)). contains by_codes old (x, y) || (nat_lt x y && names_both l x y)) (sym (drop_item rows i c.loop-a-item.result c.loop-a-item.is c.loop-a-test.true)) ∙ c.loop-a.invariant x y)

pub returns : goal.returns
returns c = λ (x y : ℕ).
    let rows = c.args.rows.now in
    after_rows x y c.loop-a.pairs c.loop-a.pairs (nat_lt x y && names_both rows x y) (drop c.loop-a.a-index rows) (drop_all c.loop-a.a-index rows c.loop-a-test.false) (c.loop-a.invariant x y)
