-- The findings of an audit: all that is wrong with a plan's assignments.
use Rattle.std.specs.Prelude.{◌≡◌, ◌≢◌, ◌↔◌, ◌⊎◌, ℕ, ◌+◌, ◌/◌, ◌≤◌, true, List, [], ◌∷◌, ◌++◌, length, Option, Some}
use Rattle.std.specs.Prelude.{Contains, AllPairs, find, ◌==◌}
use Rattle.std.specs.Ordering.{nat_cmp, ordering_then}
use Rattle.std.specs.declared.cmp.Ordering.{Ordering}
use Rattle.std.specs.Cmp.Lexicographic.{slice_cmp}
use Rattle.std.specs.List.Sorted.{IsStrictlySortedBy}
use Rattle.std.specs.declared.cmp.Ordering.TheVariants.{Less}
use Rattle.county_codes.specs.declared.withdrawn.Withdrawn as county
use Rattle.grouping_laws.specs.Sets.{indicator, sum_by, contains}
use Rattle.grouping_laws.specs.Problem.{Suits}
use Rattle.grouping_laws.specs.Grouping.{Grouping, Lawful}
use Rattle.county_problem.specs.ProblemValue.{ProblemValue, problem_of}
use Rattle.county_problem.specs.Judging.{IsFault}
use Rattle.county_problem.specs.declared.grouping_fault.GroupingFault.{GroupingFault}
use Rattle.county_problem.specs.declared.grouping_fault.GroupingFault.TheVariants as verdict
use Rattle.pl94_counties.specs.declared.blocks.Block.{Block}
use Rattle.baf_auditor.specs.Labels.{assigns}
use Rattle.baf_auditor.specs.declared.assignments.Assignment.{Assignment}
use Rattle.baf_auditor.specs.declared.finding.Set.{Set}
use Rattle.baf_auditor.specs.declared.finding.Set.TheVariants as sets
use Rattle.baf_auditor.specs.declared.finding.Finding.{Finding}
use Rattle.baf_auditor.specs.declared.finding.Finding.TheVariants as findings

-- ---- what is audited

-- a set of counties in which as many districts are drawn as it has seats
pub record DrawnSet : Type 0 where
  pub name : Set
  pub seats : ℕ
  pub codes : List ℕ

-- groups in their order, the first with this number
abbrev pub groups_from : ℕ → Grouping → List DrawnSet
groups_from n [] = []
groups_from n (g ∷ gs) = record { name = sets.Group n; seats = g.seats; codes = g.codes } ∷ groups_from (n + 1) gs

-- withdrawn sets in their order, the first with this number
abbrev pub withdrawn_from : ℕ → List county.Withdrawn → List DrawnSet
withdrawn_from n [] = []
withdrawn_from n (w ∷ ws) =
    record { name = sets.Withdrawn n; seats = w.seats; codes = w.codes } ∷ withdrawn_from (n + 1) ws

-- the groups, and then the withdrawn sets
abbrev pub drawn_sets : ProblemValue → Grouping → List DrawnSet
drawn_sets problem grouping = groups_from 1 grouping ++ withdrawn_from 1 problem.withdrawn

-- sets, listed blocks and the assignments of a file
pub record Plan : Type 0 where
  pub drawn : List DrawnSet
  pub blocks : List Block
  pub lines : List Assignment

-- blocks and assignments against the sets of a problem and a grouping
abbrev pub plan_of : ProblemValue → Grouping → List Block → List Assignment → Plan
plan_of problem grouping blocks lines = record { drawn = drawn_sets problem grouping; blocks = blocks; lines = lines }

-- ---- blocks, labels and districts

-- the county of a block: the first five of its fifteen digits
abbrev pub county_of_block : ℕ → ℕ
county_of_block block = block / 10000000000

-- the set that has a county
abbrev pub set_of_county : List DrawnSet → ℕ → Option DrawnSet
set_of_county drawn county = find (λ set. contains set.codes county) drawn

-- a block is listed, and the set has its county
abbrev pub BlockStandsIn : Plan → Block → DrawnSet → Type 0
BlockStandsIn plan block set =
    Contains plan.blocks block × (set_of_county plan.drawn (county_of_block block.code) ≡ Some set)

-- a block is listed; one whose county is in no set counts as not listed
abbrev pub IsListedBlock : Plan → Block → Type 0
IsListedBlock plan block = (set : DrawnSet) × BlockStandsIn plan block set

-- some line gives the block to the district of the label
pub record IsGivenTo (plan : Plan) (code : ℕ) (label : List ℕ) : Type 0 where
  pub line : Assignment
  pub stands : Contains plan.lines line
  pub names : line.block ≡ code
  pub labelled : line.label ≡ label
  pub assigned : assigns label ≡ true

-- the district of the label has a listed block in the set
pub record HasBlockIn (plan : Plan) (label : List ℕ) (set : DrawnSet) : Type 0 where
  pub block : Block
  pub stands : BlockStandsIn plan block set
  pub given : IsGivenTo plan block.code label

-- some line gives the label to a listed block
abbrev pub IsDistrict : Plan → List ℕ → Type 0
IsDistrict plan label = (set : DrawnSet) × HasBlockIn plan label set

-- a list has each thing of a kind once, and nothing else
pub record EachOnce {X : Type 0} (P : X → Type 0) (xs : List X) : Type 0 where
  pub once : AllPairs (λ x y. x ≢ y) xs
  pub are : (x : X) → Contains xs x ↔ P x

-- how many districts have a block in the set
abbrev pub HasDistricts : Plan → DrawnSet → ℕ → Type 0
HasDistricts plan set count =
    (labels : List (List ℕ)) × EachOnce (λ label. HasBlockIn plan label set) labels × (length labels ≡ count)

-- the people of the district: those of its listed blocks, each once
abbrev pub HasPeople : Plan → List ℕ → ℕ → Type 0
HasPeople plan label people =
    (blocks : List Block) × EachOnce (λ block. IsListedBlock plan block × IsGivenTo plan block.code label) blocks
    × (sum_by (λ block. block.people) blocks ≡ people)

-- ---- each kind

-- a line names a block that isn't listed
pub record IsUnknown (plan : Plan) (code : ℕ) : Type 0 where
  pub line : Assignment
  pub stands : Contains plan.lines line
  pub names : line.block ≡ code
  pub unlisted : (block : Block) → IsListedBlock plan block → block.code ≢ code

-- how many lines name the block
abbrev pub times_named : List Assignment → ℕ → ℕ
times_named lines code = sum_by (λ line. indicator (line.block == code)) lines

-- two or more lines name the block
abbrev pub IsTwice : Plan → ℕ → Type 0
IsTwice plan code = 2 ≤ times_named plan.lines code

-- a listed block with people, which no line gives to a district
pub record IsUnassigned (plan : Plan) (code : ℕ) : Type 0 where
  pub block : Block
  pub listed : IsListedBlock plan block
  pub code_is : block.code ≡ code
  pub some_people : 1 ≤ block.people
  pub none : (label : List ℕ) → IsGivenTo plan code label → ⊥

-- The number of a set as a key: groups come before withdrawn sets.
abbrev pub set_key : Set → List ℕ
set_key (sets.Group n) = 0 ∷ n ∷ []
set_key (sets.Withdrawn n) = 1 ∷ n ∷ []

-- the first of two keys, compared number by number, is the lesser one
abbrev pub IsLesserKey : List ℕ → List ℕ → Type 0
IsLesserKey x y = slice_cmp nat_cmp x y ≡ Less

-- the district of the label has listed blocks in both sets
pub record IsCrossing (plan : Plan) (label : List ℕ) (first second : Set) : Type 0 where
  pub one : DrawnSet
  pub other : DrawnSet
  pub one_is : one.name ≡ first
  pub other_is : other.name ≡ second
  pub before : IsLesserKey (set_key first) (set_key second)
  pub in_one : HasBlockIn plan label one
  pub in_other : HasBlockIn plan label other

-- the set has this number of seats, and another number of districts
pub record IsWrongNumber (plan : Plan) (name : Set) (seats districts : ℕ) : Type 0 where
  pub set : DrawnSet
  pub stands : Contains plan.drawn set
  pub name_is : set.name ≡ name
  pub seats_are : set.seats ≡ seats
  pub counted : HasDistricts plan set districts
  pub wrong : districts ≢ seats

-- the district has this number of people, and they don't suit one seat
pub record IsWrongSize (problem : ProblemValue) (plan : Plan) (label : List ℕ) (people : ℕ) : Type 0 where
  pub district : IsDistrict plan label
  pub counted : HasPeople plan label people
  pub wrong : Suits (problem_of problem) people 1 → ⊥

-- what a finding says of a plan is so; that of the grouping is none of the plan's
abbrev pub IsFinding : ProblemValue → Plan → Finding → Type 0
IsFinding problem plan (findings.Grouping fault) = ⊥
IsFinding problem plan (findings.UnknownBlock code) = IsUnknown plan code
IsFinding problem plan (findings.BlockTwice code) = IsTwice plan code
IsFinding problem plan (findings.Unassigned code) = IsUnassigned plan code
IsFinding problem plan (findings.Crosses label first second) = IsCrossing plan label first second
IsFinding problem plan (findings.WrongNumber name seats districts) = IsWrongNumber plan name seats districts
IsFinding problem plan (findings.DistrictSize label people) = IsWrongSize problem plan label people

-- ---- all findings in their order

-- a finding's kind, its label, and its block or sets
abbrev pub key_of : Finding → ℕ × List ℕ × List ℕ
key_of (findings.Grouping fault) = (1, [], [])
key_of (findings.UnknownBlock code) = (2, [], code ∷ [])
key_of (findings.BlockTwice code) = (3, [], code ∷ [])
key_of (findings.Unassigned code) = (4, [], code ∷ [])
key_of (findings.Crosses label first second) = (5, label, set_key first ++ set_key second)
key_of (findings.WrongNumber name seats districts) = (6, [], set_key name)
key_of (findings.DistrictSize label people) = (7, label, [])

-- by kind, then by label, then by block or sets
abbrev pub by_key : Finding → Finding → Ordering
by_key f g =
    ordering_then (nat_cmp (key_of f).0 (key_of g).0)
    (ordering_then (slice_cmp nat_cmp (key_of f).1 (key_of g).1) (slice_cmp nat_cmp (key_of f).2 (key_of g).2))

-- a list has exactly the findings of which P holds, the lesser key first
pub record AreAll (P : Finding → Type 0) (list : List Finding) : Type 0 where
  pub in_order : IsStrictlySortedBy by_key list
  pub are : (f : Finding) → Contains list f ↔ P f

-- a list has exactly the codes of which P holds, ascending
pub record AreCodesWith (P : ℕ → Type 0) (codes : List ℕ) : Type 0 where
  pub ascending : IsStrictlySortedBy nat_cmp codes
  pub are : (code : ℕ) → Contains codes code ↔ P code

-- the grouping is lawful, and the list has all findings of the plan
pub record AreOfPlan (problem : ProblemValue) (grouping : Grouping) (plan : Plan) (list : List Finding) : Type 0 where
  pub lawful : Lawful (problem_of problem) grouping
  pub all : AreAll (IsFinding problem plan) list

-- the grouping is not lawful, and its first fault is the only finding
pub record IsOfGrouping (problem : ProblemValue) (grouping : Grouping) (list : List Finding) : Type 0 where
  pub unlawful : Lawful (problem_of problem) grouping → ⊥
  pub fault : GroupingFault
  pub named : fault ≢ verdict.Memory
  pub first : IsFault (problem_of problem) grouping fault
  pub only : list ≡ findings.Grouping fault ∷ []

-- the findings of blocks and assignments against a grouping
abbrev pub AreFindings : ProblemValue → Grouping → List Block → List Assignment → List Finding → Type 0
AreFindings problem grouping blocks lines list =
    IsOfGrouping problem grouping list
    ⊎ AreOfPlan problem grouping (plan_of problem grouping blocks lines) list
