-- The findings of single blocks and those of districts, kind after kind.
use Rattle.std.specs.Prelude.{ℕ, ◌≡◌, List, ◌++◌, map}
use Rattle.std.specs.List.{filter_map}
use Rattle.std.specs.List.Sorted.{IsStrictlySortedBy}
use Rattle.std.specs.Map.{lookup}
use Rattle.std.specs.BTreeMap.{is_at}
use Rattle.std.specs.Cmp.Lexicographic.{slice_cmp}
use Rattle.std.specs.Ordering.{nat_cmp}
use Rattle.grouping_laws.specs.Problem.{Problem}
use Rattle.grouping_laws.specs.SeatWindow.{AreBounds}
use Rattle.grouping_laws.specs.Grouping.{Grouping, Lawful}
use Rattle.county_problem.specs.ProblemValue.{ProblemValue, problem_of}
use Rattle.baf_auditor.specs.Findings.{DrawnSet, Plan, IsFinding, AreCodesWith, IsUnknown, IsTwice, IsUnassigned}
use Rattle.baf_auditor.specs.Giving.{by_label}
use Rattle.baf_auditor.specs.Districts.{GivenBlock, district_people, size_finding, standing, crossings, numbers_from}
use Rattle.baf_auditor.specs.declared.block_findings.CodeKind.{CodeKind}
use Rattle.baf_auditor.specs.declared.block_findings.CodeKind.TheVariants.{Unknown, Twice, Unassigned}
use Rattle.baf_auditor.specs.declared.finding.Finding.{Finding}
use Rattle.baf_auditor.specs.declared.finding.Finding.TheVariants as findings

-- a finding that names a block alone
abbrev pub code_finding : CodeKind → ℕ → Finding
code_finding Unknown code = findings.UnknownBlock code
code_finding Twice code = findings.BlockTwice code
code_finding Unassigned code = findings.Unassigned code

-- the codes of the blocks that are found alone
pub record AreBlockKinds (plan : Plan) (unknown twice unassigned : List ℕ) : Type 0 where
  pub unknown_are : AreCodesWith (IsUnknown plan) unknown
  pub twice_are : AreCodesWith (IsTwice plan) twice
  pub unassigned_are : AreCodesWith (IsUnassigned plan) unassigned

-- the findings of districts, by the listed blocks that lines give to them: those that cross, wrong numbers, wrong sizes
pub record AreOfDistricts (p : Problem) (drawn : List DrawnSet) (groups : ℕ) (given : List GivenBlock)
    (list : List Finding) : Type 0 where
  pub found : List ((List ℕ × ℕ) × Unit {0})
  pub found_sorted : IsStrictlySortedBy by_label (map (λ e. e.0) found)
  pub standing_is : (key : List ℕ × ℕ) → lookup (is_at (by_label key)) found ≡ standing drawn (map (λ e. e.0) given) key
  pub sums : List (List ℕ × ℕ)
  pub sums_sorted : IsStrictlySortedBy (slice_cmp nat_cmp) (map (λ e. e.0) sums)
  pub sums_are : (label : List ℕ) → lookup (is_at (slice_cmp nat_cmp label)) sums ≡ district_people given label
  pub bounds : ℕ × ℕ
  pub law : AreBounds p 1 bounds
  pub list_is : list ≡ crossings groups (map (λ e. e.0) found) ++ (numbers_from (map (λ e. e.0) found) 0 drawn
      ++ filter_map (size_finding bounds.0 bounds.1) sums)

-- the list is the old one with the findings of districts behind it
abbrev pub AddsOfDistricts : Problem → List DrawnSet → ℕ → List GivenBlock → List Finding → List Finding → Type 0
AddsOfDistricts p drawn groups given old new =
    (list : List Finding) × AreOfDistricts p drawn groups given list × (new ≡ old ++ list)

-- the grouping is lawful, and nothing that a finding could say of the plan is so
abbrev pub IsClean : ProblemValue → Grouping → Plan → Type 0
IsClean problem grouping plan = Lawful (problem_of problem) grouping × ((f : Finding) → IsFinding problem plan f → ⊥)
