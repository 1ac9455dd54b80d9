use Rattle.std.proofs.Common.{ℕ, ◌+◌, ◌||◌, List, drop, refl, sym, ap, ◌∙◌}
use Rattle.std.proofs.lemmas.List.{drop_all}
use Rattle.std.specs.BTreeSet.{contains as set_contains}
use Rattle.std.specs.Ordering.{nat_cmp}
use Rattle.grouping_laws.specs.Sets.{contains}
use Rattle.adjacency_reader.proofs.PairLemmas.{after_code, after_codes, drop_item}
use Rattle.adjacency_reader.proofs.pairs.code_set.Goals as goal

pub loop-code-init : goal.loop-code-init
loop-code-init c = λ (code : ℕ). rw c.new-set.ensures.empty refl

pub loop-code-preserved : goal.loop-code-preserved
loop-code-preserved c = λ (code : ℕ).
    let codes = c.args.codes.now in
    let i = c.loop-code.code-index in
    after_code code c.loop-code.set c.insert.new.self (contains codes code) c.code-item.result (drop (i + 1) codes) (c.in_ok-insert.ensures.updates.0 code)
    (ap (λ (l : List ℕ). set_contains nat_cmp c.loop-code.set code || contains l code) (sym (drop_item codes i c.code-item.result c.code-item.is c.loop-code-test.true)) ∙ c.loop-code.invariant code)

pub returns : goal.returns
returns c = λ (code : ℕ).
    let codes = c.args.codes.now in
    after_codes code c.loop-code.set c.loop-code.set (contains codes code) (drop c.loop-code.code-index codes) (drop_all c.loop-code.code-index codes c.loop-code-test.false) (c.loop-code.invariant code)
