-- What the definitions of `specs/` say of answers that are written out.
use Rattle.std.proofs.Common.{◌≡◌, refl, List, [], ◌∷◌, ◌++◌, Some, None, codes}
use lib.Utf8.{encode}
use Rattle.std.specs.Fmt.{digits}
use Rattle.std.specs.Str.{is_utf8, chars}
use Rattle.json.specs.Print.{print_from, escape_byte}
use Rattle.baf_auditor.specs.declared.finding.Set.TheVariants as sets
use Rattle.baf_auditor.specs.declared.finding.Finding.{Finding}
use Rattle.baf_auditor.specs.declared.finding.Finding.TheVariants as findings
use Rattle.county_codes.specs.declared.county.County.{County}
use Rattle.county_problem.specs.ProblemValue.{ProblemValue}
use Rattle.grouping_laws.specs.Grouping.{Grouping}
use Rattle.grouping_report.specs.FindingsText.{fifteen_digits}
use Rattle.pl94_counties.specs.CountyNames.{CountyName}
use Rattle.json_report.specs.Message.{message_json}
use Rattle.json_report.specs.ReportObject.{report_json}
use Rattle.json_report.specs.FindingsObject.{findings_json}
use Rattle.json_report.specs.SizeObject.{size_json}

-- a line that stands in place of an answer
message : message_json (codes "no \"file\"\n") ≡ codes "{\"message\":\"no \\\"file\\\"\"}\n"
unfolding is_utf8 chars encode print_from escape_byte
message = refl

-- a chamber of four seats and two counties
abbrev first : County
first = record { code = 37001; people = 100 }

abbrev second : County
second = record { code = 37003; people = 300 }

abbrev problem : ProblemValue
problem = record {
  counties = first ∷ second ∷ [];
  withdrawn = [];
  pairs = (37001, 37003) ∷ [];
  total_people = 400;
  chamber = 4;
  seats_left = 4;
  numerator = 1;
  denominator = 20;
}

abbrev named : List CountyName
named = record { county = first; name = codes "A" } ∷ record { county = second; name = codes "B" } ∷ []

abbrev grouping : Grouping
grouping = record { seats = 1; codes = 37001 ∷ [] } ∷ record { seats = 3; codes = 37003 ∷ [] } ∷ []

report : report_json problem (Some named) (codes "best") grouping
    ≡ codes "{\"answer\":\"best\",\"people\":400,\"chamber\":4,\"tolerance\":[1,20],\"seats_left\":4,\"counties\":2,"
    ++ codes "\"counts\":[2],\"groups\":[{\"group\":1,\"seats\":1,\"people\":100,\"counties\":[\"37001\"]},"
    ++ codes "{\"group\":2,\"seats\":3,\"people\":300,\"counties\":[\"37003\"]}],"
    ++ codes "\"names\":{\"37001\":\"A\",\"37003\":\"B\"}}\n"
unfolding digits print_from escape_byte
report = refl

sizes : size_json problem None
    ≡ codes "{\"answer\":\"sizes\",\"people\":400,\"chamber\":4,\"tolerance\":[1,20],"
    ++ codes "\"district\":{\"least\":95,\"greatest\":105},"
    ++ codes "\"sizes\":[{\"county\":\"37001\",\"people\":100,\"seats\":{\"least\":1,\"greatest\":1}},"
    ++ codes "{\"county\":\"37003\",\"people\":300,\"seats\":{\"least\":3,\"greatest\":3}}]}\n"
unfolding digits print_from escape_byte
sizes = refl

-- three findings
abbrev list : List Finding
list =
    findings.UnknownBlock 370010001001000 ∷ findings.Crosses (codes "3") (sets.Group 1) (sets.Withdrawn 2)
    ∷ findings.DistrictSize (codes "4") 90 ∷ []

audit : findings_json list
    ≡ codes "{\"answer\":\"findings\",\"findings\":[{\"finding\":\"UnknownBlock\",\"block\":\"370010001001000\"},"
    ++ codes "{\"finding\":\"Crosses\",\"district\":\"3\",\"sets\":[{\"group\":1},{\"withdrawn\":2}]},"
    ++ codes "{\"finding\":\"DistrictSize\",\"district\":\"4\",\"people\":90}]}\n"
unfolding digits is_utf8 chars encode print_from escape_byte fifteen_digits
audit = refl
