use Rattle.std.proofs.Common.{◌≡◌, ℕ, ◌&&◌, nat_lt, false, drop}
use Rattle.std.specs.BTreeSet.{contains}
use Rattle.county_problem.specs.ProblemValue.{names_both}
use Rattle.adjacency_reader.specs.Pairs.{by_codes}
use Rattle.adjacency_reader.specs.Links.{last_sign}
use Rattle.adjacency_reader.specs.Adjacency.{joined_by}
use Rattle.adjacency_reader.proofs.linked_pairs.apply_links.Given as goal

abbrev pub invariant-loop-link : goal.invariant-loop-link
invariant-loop-link l = record {
  joined : (x y : ℕ) → (nat_lt x y && joined_by (last_sign (drop l.link-index l.links) x y) (contains by_codes l.linked (x, y))) ≡ (nat_lt x y && joined_by (last_sign l.links x y) (names_both l.pairs x y));
  ordered : (x y : ℕ) → nat_lt x y ≡ false → contains by_codes l.linked (x, y) ≡ false;
}
