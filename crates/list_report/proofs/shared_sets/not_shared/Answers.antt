use Rattle.std.proofs.Common.{◌∙◌, ◌+◌, ◌++◌, ℕ, not, List, drop, filter, ap}
use Rattle.list_report.specs.SharedSets.{has_set, unshared_sets}
use Rattle.list_report.proofs.Loops.{read, more}
use Rattle.list_report.proofs.shared_sets.not_shared.Goals as goal

pub loop-sets-preserved : goal.loop-sets-preserved
loop-sets-preserved c =
    let q = λ (s : List ℕ). not (has_set c.args.shared.now s) in
    let now = c.loop-sets.unshared.items in
    let rest = unshared_sets c.args.shared.now (drop (c.loop-sets.sets-index + 1) c.args.listed.now) in
    more now (filter q c.sets-item.result) rest
    (c.in_ok-push_unshared.ensures ∙ ap (λ (l : List (List ℕ)). now ++ filter q l) c.as_slice.ensures)
    (read (unshared_sets c.args.shared.now) c.args.listed.now c.loop-sets.sets-index c.sets-item.result c.loop-sets-test.true c.sets-item.is)
    c.loop-sets.invariant
