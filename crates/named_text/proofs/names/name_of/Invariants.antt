use Rattle.std.proofs.Common.{◌≡◌, map, drop}
use Rattle.pl94_counties.specs.CountyNames.{county_name}
use Rattle.named_text.specs.NamedText.{name_of}
use Rattle.named_text.proofs.names.name_of.Given as goal

abbrev pub invariant-loop-county : goal.invariant-loop-county
invariant-loop-county l =
    name_of (map county_name (drop l.county-index l.named)) l.code ≡ name_of (map county_name l.named) l.code
