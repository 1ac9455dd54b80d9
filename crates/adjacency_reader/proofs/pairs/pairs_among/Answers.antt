use Rattle.std.proofs.Common.{ℕ, ◌&&◌, nat_lt, List, ap, sym, subst, ◌∙◌}
use Rattle.std.specs.Ordering.{nat_cmp}
use Rattle.std.specs.BTreeSet.{contains}
use Rattle.std.proofs.lemmas.Result.{IfOk-weaker}
use Rattle.county_problem.specs.ProblemValue.{names_both}
use Rattle.adjacency_reader.specs.Pairs.{ArePairs}
use Rattle.adjacency_reader.proofs.LinkLemmas.{pairs_from}
use Rattle.adjacency_reader.proofs.pairs.pairs_among.Goals as goal

pub returns : goal.returns
returns c = IfOk-weaker c.list.result _ _
    (λ v is. subst (λ (l : List (ℕ × ℕ)). ArePairs c.args.counties.now c.args.rows.now l) (sym is)
    (pairs_from c.args.counties.now c.args.rows.now c.in_ok-rows.rows.items (contains nat_cmp c.in_ok-listed.listed) c.in_ok-pairs.pairs c.in_ok-listed.ensures c.in_ok-rows.ensures c.list.ensures.ascending
    (λ (x y : ℕ). c.in_ok-pairs.ensures x y ∙ ap (λ (l : List (ℕ × ℕ)). nat_lt x y && names_both l x y) c.deref.ensures.value)))
    c.list.ensures.value
