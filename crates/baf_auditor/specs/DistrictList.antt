-- The districts of a plan: the people of each, and the sets and the counties in which it has blocks.
use Rattle.std.specs.Prelude.{◌≡◌, ◌↔◌, ℕ, List, Contains, All, map}
use Rattle.std.specs.Ordering.{nat_cmp}
use Rattle.std.specs.declared.cmp.Ordering.{Ordering}
use Rattle.std.specs.Cmp.Lexicographic.{slice_cmp}
use Rattle.std.specs.List.Sorted.{IsStrictlySortedBy}
use Rattle.pl94_counties.specs.declared.blocks.Block.{Block}
use Rattle.baf_auditor.specs.Findings.{DrawnSet, Plan, IsListedBlock, IsGivenTo, HasBlockIn, IsDistrict, HasPeople}
use Rattle.baf_auditor.specs.Findings.{county_of_block, set_key, AreCodesWith}
use Rattle.baf_auditor.specs.declared.finding.Set.{Set}
use Rattle.baf_auditor.specs.declared.district.District.{District}

-- the district of the label has a listed block in the set of the name
pub record HasBlockInNamed (plan : Plan) (label : List ℕ) (name : Set) : Type 0 where
  pub set : DrawnSet
  pub name_is : set.name ≡ name
  pub has : HasBlockIn plan label set

-- the district of the label has a listed block in the county
pub record HasBlockInCounty (plan : Plan) (label : List ℕ) (county : ℕ) : Type 0 where
  pub block : Block
  pub listed : IsListedBlock plan block
  pub given : IsGivenTo plan block.code label
  pub county_is : county_of_block block.code ≡ county

-- groups come before withdrawn sets, and each kind is in the order of its numbers
abbrev pub by_set : Set → Set → Ordering
by_set s t = slice_cmp nat_cmp (set_key s) (set_key t)

-- a list has the names of the sets in which the district has blocks, and no other
pub record AreItsSets (plan : Plan) (label : List ℕ) (sets : List Set) : Type 0 where
  pub in_order : IsStrictlySortedBy by_set sets
  pub are : (name : Set) → Contains sets name ↔ HasBlockInNamed plan label name

-- what is said of a district is so
pub record IsDistrictOf (plan : Plan) (d : District) : Type 0 where
  pub district : IsDistrict plan d.label
  pub people : HasPeople plan d.label d.people
  pub sets : AreItsSets plan d.label d.sets.items
  pub counties : AreCodesWith (HasBlockInCounty plan d.label) d.counties.items

-- a list has each district of a plan once, by label
pub record AreDistricts (plan : Plan) (list : List District) : Type 0 where
  pub in_order : IsStrictlySortedBy (slice_cmp nat_cmp) (map (λ d. d.label) list)
  pub so : All (IsDistrictOf plan) list
  pub every : (label : List ℕ) → IsDistrict plan label → Contains (map (λ d. d.label) list) label
