-- Districts: their people, and the sets in which they have blocks.
use Rattle.std.specs.Prelude.{◌≡◌, ℕ, nat_lt, ◌+◌, ◌-◌, ◌==◌, ◌&&◌, ◌||◌, Bool, false, List, [], ◌∷◌, ◌++◌, Option, Some}
use Rattle.std.specs.Prelude.{None, All, map, if◌then◌else◌}
use Rattle.std.specs.List.{filter_map, list_any}
use Rattle.std.specs.Str.{bytes_eq}
use Rattle.std.specs.Option.{unwrap_or}
use Rattle.grouping_laws.specs.Sets.{indicator, sum_by}
use Rattle.baf_auditor.specs.Findings.{DrawnSet, county_of_block}
use Rattle.baf_auditor.specs.Listing.{place_of}
use Rattle.baf_auditor.specs.declared.district.District.{District}
use Rattle.baf_auditor.specs.declared.finding.Set.{Set}
use Rattle.baf_auditor.specs.declared.finding.Set.TheVariants.{Group, Withdrawn}
use Rattle.baf_auditor.specs.declared.finding.Finding.{Finding}
use Rattle.baf_auditor.specs.declared.finding.Finding.TheVariants.{Crosses, WrongNumber, DistrictSize}

-- a listed block that lines give to a district: the label and the block's code, and its people
abbrev pub GivenBlock : Type 0
GivenBlock = (List ℕ × ℕ) × ℕ

-- ---- people

-- the people of the district of a label after a further block of a district
abbrev pub with_people : List ℕ → List ℕ → ℕ → Option ℕ → Option ℕ
with_people label own people before = if bytes_eq own label then Some (unwrap_or before 0 + people) else before

-- the people of the district of a label after further blocks of districts
abbrev pub people_after : List ℕ → Option ℕ → List GivenBlock → Option ℕ
people_after label before [] = before
people_after label before (e ∷ es) = people_after label (with_people label e.0.0 e.1 before) es

-- the people of the district of a label, if it has a block
abbrev pub district_people : List GivenBlock → List ℕ → Option ℕ
district_people given label = people_after label None given

-- a finding where the people of a district are not within bounds
abbrev pub size_finding : ℕ → ℕ → List ℕ × ℕ → Option Finding
size_finding least greatest e = if (nat_lt e.1 least || nat_lt greatest e.1) then Some (DistrictSize e.0 e.1) else None

-- ---- sets by their places

-- whether a place is this one
abbrev pub is_place : Option ℕ → ℕ → Bool
is_place None i = false
is_place (Some j) i = j == i

-- whether a block of a district, by label and code, shows that a district stands in the set at a place
abbrev pub shows : List DrawnSet → List ℕ × ℕ → List ℕ × ℕ → Bool
shows drawn key own = is_place (place_of drawn (county_of_block own.1)) key.1 && bytes_eq own.0 key.0

-- whether a district stands in a set, after a further block of a district
abbrev pub after_shown : List DrawnSet → List ℕ × ℕ → Option (Unit {0}) → List ℕ × ℕ → Option (Unit {0})
after_shown drawn key before own = if shows drawn key own then Some tt else before

-- whether a district stands in a set, after further blocks of districts
abbrev pub stands_after : List DrawnSet → List ℕ × ℕ → Option (Unit {0}) → List (List ℕ × ℕ) → Option (Unit {0})
stands_after drawn key before [] = before
stands_after drawn key before (own ∷ more) = stands_after drawn key (after_shown drawn key before own) more

-- whether the district of a label has a block in the set at a place, by the labels and codes of the blocks of districts
abbrev pub standing : List DrawnSet → List (List ℕ × ℕ) → List ℕ × ℕ → Option (Unit {0})
standing drawn given key = stands_after drawn key None given

-- the name of the set at a place, counted from 0; groups, this number of them, stand before withdrawn sets
abbrev pub name_at : ℕ → ℕ → Set
name_at groups place = if nat_lt place groups then Group (place + 1) else Withdrawn (place - groups + 1)

-- ---- districts that cross

-- a district in two sets
abbrev pub crossing : ℕ → List ℕ × ℕ → ℕ → Finding
crossing groups first place = Crosses first.0 (name_at groups first.1) (name_at groups place)

-- the pairs of a district's first set with those after it, which stand next in the list
abbrev pub crossings_with : ℕ → List ℕ × ℕ → List (List ℕ × ℕ) → List Finding
crossings_with groups first [] = []
crossings_with groups first (k ∷ ks) =
    if bytes_eq k.0 first.0 then crossing groups first k.1 ∷ crossings_with groups first ks else []

-- all pairs of the sets of a district
abbrev pub crossings : ℕ → List (List ℕ × ℕ) → List Finding
crossings groups [] = []
crossings groups (k ∷ ks) = crossings_with groups k ks ++ crossings groups ks

-- ---- numbers of districts

-- how many districts stand in the set at a place
abbrev pub districts_at : ℕ → List (List ℕ × ℕ) → ℕ
districts_at place keys = sum_by (λ k. indicator (k.1 == place)) keys

-- a finding where a set has another number of districts than seats
abbrev pub number_finding : Set → ℕ → ℕ → List Finding
number_finding name seats districts = if districts == seats then [] else WrongNumber name seats districts ∷ []

-- the findings of sets with another number of districts than seats, where the first set has this place
abbrev pub numbers_from : List (List ℕ × ℕ) → ℕ → List DrawnSet → List Finding
numbers_from keys place [] = []
numbers_from keys place (d ∷ ds) =
    number_finding d.name d.seats (districts_at place keys) ++ numbers_from keys (place + 1) ds

-- ---- counties

-- whether a block of a district, by label and code, shows that the district has a block in a county
abbrev pub shows_county : List ℕ × ℕ → List ℕ × ℕ → Bool
shows_county key own = bytes_eq own.0 key.0 && county_of_block own.1 == key.1

-- whether the district of a label has a block in a county, by the labels and codes of the blocks of districts
abbrev pub has_county : List (List ℕ × ℕ) → List ℕ × ℕ → Bool
has_county given key = list_any (shows_county key) given

-- ---- what is listed of each district

-- what the function gives of a key's number, if the key has the label
abbrev pub of_label : {Y : Type 0} → (ℕ → Y) → List ℕ → List ℕ × ℕ → Option Y
of_label f label key = if bytes_eq key.0 label then Some (f key.1) else None

-- the sets and counties of a district are those that stand with its label
pub record IsListedBy (groups : ℕ) (places counties : List (List ℕ × ℕ)) (d : District) : Type 0 where
  pub sets : d.sets.items ≡ filter_map (of_label (name_at groups) d.label) places
  pub counties_are : d.counties.items ≡ filter_map (of_label (λ county. county) d.label) counties

-- a list has one district for each sum of people, in the order of the sums, with its sets and counties
pub record AreListedBy (groups : ℕ) (places counties sums : List (List ℕ × ℕ)) (list : List District) : Type 0 where
  pub people : map (λ d. (d.label, d.people)) list ≡ sums
  pub each : All (IsListedBy groups places counties) list
