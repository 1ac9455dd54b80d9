use Rattle.std.proofs.Common.{◌≡◌, ◌<◌, ◌≤◌, ℕ, drop, length, get_or}
use Rattle.std.specs.Ordering.{nat_cmp}
use Rattle.std.specs.List.{All}
use Rattle.std.specs.Map.{lookup}
use Rattle.std.specs.BTreeMap.{is_at}
use Rattle.baf_auditor.specs.Naming.{naming}
use Rattle.baf_auditor.specs.declared.assignments.Assignment.{Assignment}
use Rattle.baf_auditor.proofs.EntryLemmas.{InOrder}
use Rattle.baf_auditor.proofs.NamingLemmas.{after_lines}
use Rattle.baf_auditor.proofs.line_counts.named_blocks.Given as goal

abbrev pub invariant-loop-line : goal.invariant-loop-line
invariant-loop-line l = record {
  said : (code : ℕ) → after_lines code (lookup (is_at (nat_cmp code)) l.named.items) (drop l.line-index l.lines) ≡ naming l.lines code;
  sorted : InOrder l.named.items;
  before : (i : ℕ) (d : Assignment) → l.line-index ≤ i → i < length l.lines → All (λ e. e.0 ≤ (get_or l.lines i d).block) l.named.items;
}
