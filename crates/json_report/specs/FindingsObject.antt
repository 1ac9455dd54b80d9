-- The object of an audit's findings.
use Rattle.std.specs.Prelude.{ℕ, List, [], ◌∷◌, ◌++◌, None, codes}
use Rattle.std.specs.List.{flat_map}
use Rattle.json.specs.Token.{Token, begin_object, end_object, begin_array, end_array, key}
use Rattle.baf_auditor.specs.declared.finding.Set.{Set}
use Rattle.baf_auditor.specs.declared.finding.Set.TheVariants as sets
use Rattle.baf_auditor.specs.declared.finding.Finding.{Finding}
use Rattle.baf_auditor.specs.declared.finding.Finding.TheVariants as findings
use Rattle.grouping_report.specs.FaultWords.{grouping_fault_words}
use Rattle.grouping_report.specs.FindingsText.{fifteen_digits}
use Rattle.json_report.specs.Parts.{number_member, text_member, if_utf8}
use Rattle.json_report.specs.ReportObject.{answer_member, object_line}

-- a set: its kind and its number
abbrev pub set_object : Set → List Token
set_object (sets.Group i) = begin_object ∷ number_member (codes "group") i ++ end_object ∷ []
set_object (sets.Withdrawn i) = begin_object ∷ number_member (codes "withdrawn") i ++ end_object ∷ []

-- the kind of a finding
abbrev pub kind_member : List ℕ → List Token
kind_member kind = text_member (codes "finding") kind

-- what a finding names
abbrev pub finding_members : Finding → List Token
finding_members (findings.Grouping fault) =
    kind_member (codes "Grouping") ++ text_member (codes "fault") (if_utf8 (grouping_fault_words fault))
finding_members (findings.UnknownBlock block) =
    kind_member (codes "UnknownBlock") ++ text_member (codes "block") (fifteen_digits block)
finding_members (findings.BlockTwice block) =
    kind_member (codes "BlockTwice") ++ text_member (codes "block") (fifteen_digits block)
finding_members (findings.Unassigned block) =
    kind_member (codes "Unassigned") ++ text_member (codes "block") (fifteen_digits block)
finding_members (findings.Crosses label first second) =
    kind_member (codes "Crosses") ++ text_member (codes "district") (if_utf8 label)
    ++ key (codes "sets") ∷ begin_array ∷ (set_object first ++ set_object second) ++ end_array ∷ []
finding_members (findings.WrongNumber set seats districts) =
    kind_member (codes "WrongNumber") ++ key (codes "set") ∷ set_object set ++ number_member (codes "seats") seats
    ++ number_member (codes "districts") districts
finding_members (findings.DistrictSize label people) =
    kind_member (codes "DistrictSize") ++ text_member (codes "district") (if_utf8 label)
    ++ number_member (codes "people") people

-- the objects of findings
abbrev pub finding_objects : List Finding → List Token
finding_objects list = flat_map (λ f. begin_object ∷ finding_members f ++ end_object ∷ []) list

-- all findings
abbrev pub findings_members : List Finding → List Token
findings_members list =
    answer_member (codes "findings") ++ key (codes "findings") ∷ begin_array ∷ finding_objects list ++ end_array ∷ []

abbrev pub findings_json : List Finding → List ℕ
findings_json list = object_line (findings_members list) None
