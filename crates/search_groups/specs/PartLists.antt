-- Lists of the groups of a part by itself, kept for each state whose rest has the part.
use Rattle.std.specs.Prelude.{ℕ, ◌≡◌, ◌≢◌, Bool, List, ◌++◌, length, filter, All, AllPairs, Contains, ◌↔◌}
use Rattle.grouping_laws.specs.Sets.{contains}
use Rattle.grouping_laws.specs.Problem.{Problem}
use Rattle.grouping_laws.specs.Places.{places_below}
use Rattle.connected_laws.specs.Listing.{AreBelow, lists_of}
use Rattle.certificate_data.specs.declared.format.Format.TheVariants.{Wide}
use Rattle.certificate_data.specs.Round.{Round}
use Rattle.certificate_laws.specs.State.{State}
use Rattle.certificate_laws.specs.Groups.{AreGroupsOf}
use Rattle.search_groups.specs.PartGroups.{alone, IsSizeToList, FitsPart}
use Rattle.search_groups.specs.declared.part_lists.PartList.{PartList}
use Rattle.search_groups.specs.declared.part_lists.PartLists.{PartLists}

-- All groups of the size that fit the region by itself in a wide format, sorted by lists of places. They name nothing
-- of a round but its order.
abbrev pub AreGroupsAlone : Problem → ℕ → (ℕ → Bool) → ℕ → List (List ℕ) → Type 0
AreGroupsAlone p n region size groups =
    (round : Round) → round.order ≡ places_below n → round.format ≡ Wide
    → AreGroupsOf p round (alone region size) size groups

-- the list has all groups of its size that fit its part by itself
pub record IsPartList {C : Type 0} (test : C → ℕ → Bool) (p : Problem) (n : ℕ) (list : PartList C) : Type 0 where
  pub groups : AreGroupsAlone p n (test list.part) list.size (lists_of n test list.groups.items)
  pub below : AreBelow n test list.groups.items

-- the list is that of the part and the size
pub record IsListFor {C : Type 0} (test : C → ℕ → Bool) (part : C) (size : ℕ) (list : PartList C) : Type 0 where
  pub same_part : (x : ℕ) → test list.part x ≡ test part x
  pub same_size : list.size ≡ size

-- all groups of the size that fit the part by itself are put behind the sets that were there
pub record ArePut {C : Type 0} (test : C → ℕ → Bool) (p : Problem) (n : ℕ) (part : C) (size : ℕ)
    (old new : List C) : Type 0 where
  pub found : List (List ℕ)
  pub more : lists_of n test new ≡ lists_of n test old ++ found
  pub groups : AreGroupsAlone p n (test part) size found
  pub below : AreBelow n test old → AreBelow n test new

-- a group of the size that fits one of the parts by itself, its places in order
pub record IsPartGroup (p : Problem) (n size : ℕ) (parts : List (List ℕ)) (g : List ℕ) : Type 0 where
  pub fits : FitsPart p parts size g
  pub in_order : filter (contains g) (places_below n) ≡ g
  pub size_is : length g ≡ size

-- the sets are all such groups, each once
pub record ArePartGroups {C : Type 0} (test : C → ℕ → Bool) (p : Problem) (n size : ℕ)
    (parts groups : List C) : Type 0 where
  pub each : (g : List ℕ) → Contains (lists_of n test groups) g ↔ IsPartGroup p n size (lists_of n test parts) g
  pub once : AllPairs (λ g h. g ≢ h) (lists_of n test groups)
  pub below : AreBelow n test groups

-- The sets are the groups of the size that fit each state which has the region as its rest and of which the size is
-- next, sorted by lists of places.
abbrev pub AreNextGroups : {C : Type 0} → (C → ℕ → Bool) → Problem → ℕ → (ℕ → Bool) → ℕ → List C → Type 0
AreNextGroups test p n region size groups =
    (s : State) → s.rest ≡ region → IsSizeToList p s size
    → (round : Round) → round.order ≡ places_below n → round.format ≡ Wide
    → AreGroupsOf p round s size (lists_of n test groups)

-- each list that is kept is one of its part and its size
abbrev pub AreListsOf : {C : Type 0} → (C → ℕ → Bool) → Problem → ℕ → PartLists C → Type 0
AreListsOf test p n lists = All (λ bucket. All (IsPartList test p n) bucket.items) lists.buckets.items
