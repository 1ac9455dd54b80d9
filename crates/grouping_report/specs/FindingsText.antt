-- The text of an audit's findings.
use Rattle.std.specs.Prelude.{ℕ, ◌/◌, ◌%◌, List, ◌++◌, length, codes}
use Rattle.std.specs.List.{flat_map}
use Rattle.baf_auditor.specs.declared.finding.Set.{Set}
use Rattle.baf_auditor.specs.declared.finding.Set.TheVariants as sets
use Rattle.baf_auditor.specs.declared.finding.Finding.{Finding}
use Rattle.baf_auditor.specs.declared.finding.Finding.TheVariants as findings
use Rattle.county_codes.specs.Digits.{five_digits}
use Rattle.grouping_report.specs.FaultWords.{with_number, grouping_fault_words}

-- the fifteen digits of a block
unfoldable pub fifteen_digits : ℕ → List ℕ
fifteen_digits block =
    five_digits (block / 10000000000 % 100000) ++ five_digits (block / 100000 % 100000) ++ five_digits (block % 100000)

-- words and a block
unfoldable pub with_block : List ℕ → ℕ → List ℕ
with_block words block = words ++ fifteen_digits block

-- a set's kind and number
abbrev pub set_words : Set → List ℕ
set_words (sets.Group i) = with_number (codes "group ") i
set_words (sets.Withdrawn i) = with_number (codes "withdrawn ") i

-- words and a set
unfoldable pub with_set : List ℕ → Set → List ℕ
with_set words set = words ++ set_words set

-- words and the label of a district
unfoldable pub with_label : List ℕ → List ℕ → List ℕ
with_label words label = words ++ label

-- a district with two sets
abbrev pub crossing_words : List ℕ → Set → Set → List ℕ
crossing_words label first second =
    with_label (codes "Crosses ") label ++ with_set (codes " ") first ++ with_set (codes " ") second

-- a set with its seats and its districts
abbrev pub number_words : Set → ℕ → ℕ → List ℕ
number_words set seats districts =
    with_set (codes "WrongNumber ") set ++ with_number (codes " seats ") seats
    ++ with_number (codes " districts ") districts

-- a district with its people
abbrev pub size_words : List ℕ → ℕ → List ℕ
size_words label people = with_label (codes "DistrictSize ") label ++ with_number (codes " people ") people

-- a finding's kind, with what it names
abbrev pub finding_words : Finding → List ℕ
finding_words (findings.Grouping fault) = codes "Grouping " ++ grouping_fault_words fault
finding_words (findings.UnknownBlock block) = with_block (codes "UnknownBlock ") block
finding_words (findings.BlockTwice block) = with_block (codes "BlockTwice ") block
finding_words (findings.Unassigned block) = with_block (codes "Unassigned ") block
finding_words (findings.Crosses label first second) = crossing_words label first second
finding_words (findings.WrongNumber set seats districts) = number_words set seats districts
finding_words (findings.DistrictSize label people) = size_words label people

-- how many findings there are, and then a line for each
abbrev pub findings_text : List Finding → List ℕ
findings_text list =
    (with_number (codes "findings ") (length list) ++ codes "\n") ++ flat_map (λ f. finding_words f ++ codes "\n") list
