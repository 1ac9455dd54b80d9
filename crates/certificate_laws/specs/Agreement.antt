-- Which groupings a state still allows.
use Rattle.std.specs.Prelude.{ℕ, ◌≡◌, ◌≤◌, true, length, All, Contains}
use Rattle.county_codes.specs.declared.group.Group.{Group}
use Rattle.grouping_laws.specs.Sets.{contains, SameSet}
use Rattle.grouping_laws.specs.Grouping.{Grouping}
use Rattle.certificate_laws.specs.State.{State}

-- Each closed group is a set of the grouping, and each county of the rest lies in a set of at least its least size. The
-- order in which a group names its counties is no matter.
pub record Agrees (s : State) (g : Grouping) : Type 0 where
  pub closed : All (λ k. (m : Group) × Contains g m × SameSet m.codes k) s.closed
  pub large : (c : ℕ) → s.rest c ≡ true
      → (m : Group) × Contains g m × (contains m.codes c ≡ true) × (s.least c ≤ length m.codes)
