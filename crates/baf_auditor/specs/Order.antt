-- Assignments in the order of their blocks.
use Rattle.std.specs.Ordering.{nat_cmp, ordering_then}
use Rattle.std.specs.declared.cmp.Ordering.{Ordering}
use Rattle.std.specs.Cmp.{IsTotalOrder, nat_cmp_total, then_total, on_total}
use Rattle.std.specs.Cmp.Lexicographic.{slice_cmp, nat_list_cmp_total}
use Rattle.baf_auditor.specs.declared.assignments.Assignment.{Assignment}

-- assignments by block, and then by label
abbrev pub by_block : Assignment → Assignment → Ordering
by_block x y = ordering_then (nat_cmp x.block y.block) (slice_cmp nat_cmp x.label y.label)

-- it orders all assignments
pub by_block_total : IsTotalOrder by_block
by_block_total = then_total (on_total (λ (line : Assignment). line.block) nat_cmp_total) (on_total (λ (line : Assignment). line.label) nat_list_cmp_total)
