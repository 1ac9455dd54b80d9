use Rattle.std.proofs.Common.{◌≡◌, ◌++◌, ◌∷◌, [], ℕ, true, false, List, rules}
use Rattle.std.specs.List.{list_all}
use Rattle.list_report.specs.SharedSets.{has_set}
use Rattle.list_report.proofs.Loops.{kept_same, left_out_same}
use Rattle.list_report.proofs.shared_sets.kept_by_all.Goals as goal
use Rattle.list_report.proofs.shared_sets.kept_by_all.Goals.{then-all_have+in_ok-copy+in_ok-push, else-all_have}

pub loop-set-preserved : goal.loop-set-preserved
loop-set-preserved c =
    let q = λ (s : List ℕ). list_all (λ g. has_set g s) c.args.listed.now in
    let now = c.loop-set.shared.items in
    elim c.if-all_have.branch [
      | then-all_have+in_ok-copy+in_ok-push w ↦
          let passes : q c.set-item.result ≡ true = search rules in
          let new : c.if-all_have.shared.items ≡ now ++ c.set-item.result ∷ [] = search rules in
          kept_same q now c.args.sets.now c.loop-set.set-index c.set-item.result c.loop-set-test.true c.set-item.is passes new c.loop-set.invariant
      | else-all_have w ↦
          let fails : q c.set-item.result ≡ false = search rules in
          let new : c.if-all_have.shared.items ≡ now = search rules in
          left_out_same q now c.args.sets.now c.loop-set.set-index c.set-item.result c.loop-set-test.true c.set-item.is fails new c.loop-set.invariant
    ]
