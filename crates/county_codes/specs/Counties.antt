-- Lists of counties: their codes and their people.
use Rattle.std.specs.Prelude.{ℕ, ◌==◌, List, map, if◌then◌else◌}
use Rattle.county_codes.specs.declared.county.County.{County}
use Rattle.place_sets.specs.Lists.{sum_by}

-- the codes of counties
abbrev pub codes_of : List County → List ℕ
codes_of counties = map (λ c. c.code) counties

-- the people of the county of that code; 0 where there is none
abbrev pub people_at : List County → ℕ → ℕ
people_at counties code = sum_by (λ c. if c.code == code then c.people else 0) counties

-- the people of counties
abbrev pub people_in : List County → ℕ
people_in counties = sum_by (λ c. c.people) counties
