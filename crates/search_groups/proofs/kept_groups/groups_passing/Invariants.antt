use Rattle.std.proofs.Common.{ℕ, ◌≡◌, Bool, true, List, take, length}
use Rattle.std.specs.Fn.{FnReturnsAt}
use Rattle.connected_laws.specs.Listing.{AreBelow}
use Rattle.state_groups.specs.PlacedValues.{codes_of_sets}
use Rattle.search_groups.specs.KnownGroups.{AreThose, Tells}
use Rattle.search_groups.proofs.kept_groups.groups_passing.Given as goal

abbrev pub invariant-loop-group : goal.invariant-loop-group
invariant-loop-group g l = record {
  those : (keeps : List ℕ → Bool) → Tells l.ordered.order g.C.CountySet.test (FnReturnsAt g.F.Fn l.passes) keeps → AreThose l.ordered.order (λ s. keeps s ≡ true) (codes_of_sets l.ordered.order g.C.CountySet.test (take l.group-index l.groups)) (codes_of_sets l.ordered.order g.C.CountySet.test l.kept.items);
  below : AreBelow (length l.ordered.order) g.C.CountySet.test l.kept.items;
}
