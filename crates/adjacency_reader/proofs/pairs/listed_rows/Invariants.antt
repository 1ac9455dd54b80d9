use Rattle.std.proofs.Common.{◌≡◌, ◌++◌, ◌&&◌, drop, filter}
use Rattle.std.specs.BTreeSet.{contains}
use Rattle.std.specs.Ordering.{nat_cmp}
use Rattle.adjacency_reader.proofs.pairs.listed_rows.Given as goal

abbrev pub invariant-loop-row : goal.invariant-loop-row
invariant-loop-row l =
    l.kept.items ++ filter (λ q. contains nat_cmp l.listed q.0 && contains nat_cmp l.listed q.1) (drop l.row-index l.rows) ≡ filter (λ q. contains nat_cmp l.listed q.0 && contains nat_cmp l.listed q.1) l.rows
