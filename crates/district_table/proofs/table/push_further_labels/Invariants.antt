use Rattle.std.proofs.Common.{◌≡◌, ◌∷◌, ◌++◌, drop, flat_map}
use Rattle.district_table.specs.DistrictTable.{set_label}
use Rattle.district_table.proofs.table.push_further_labels.Given as goal

abbrev pub invariant-loop-set : goal.invariant-loop-set
invariant-loop-set l = l.out.items ++ flat_map (λ s. 32 ∷ set_label s) (drop l.set-index l.sets) ≡ l.fn.out.items ++ flat_map (λ s. 32 ∷ set_label s) l.sets
