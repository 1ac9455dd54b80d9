-- The counties and the blocks of a state.
use Rattle.std.specs.Prelude.{ℕ, nat_le, List, Option, Some, None, Result, map, if◌then◌else◌}
use Rattle.std.specs.Result.{result_map_both}
use Rattle.county_codes.specs.declared.county.County.{County}
use Rattle.pl94_counties.specs.declared.blocks.Block.{Block}
use Rattle.pl94_counties.specs.declared.fault.Pl94Fault.{Pl94Fault}
use Rattle.pl94_counties.specs.declared.geo.Area.TheVariants as areas
use Rattle.pl94_counties.specs.Areas.{area_list}

-- a county of a code and its people
abbrev pub county_of : ℕ → ℕ → County
county_of code people = record { code = code; people = people }

-- the county of a code, if it is one of a county
abbrev pub county_in : ℕ → ℕ → Option County
county_in code people = if nat_le code 99999 then Some (county_of code people) else None

-- a block of a code and its people
abbrev pub block_of : ℕ → ℕ → Block
block_of code people = record { code = code; people = people }

-- the counties of a state by code, or the first fault
abbrev pub county_list : List ℕ → List ℕ → ℕ → Result (List County) Pl94Fault
county_list geo segment1 state =
    result_map_both (λ entries. map (λ e. county_of e.0 e.1) entries) (λ fault. fault)
    (area_list areas.County geo segment1 state)

-- the blocks of a state by code, or the first fault
abbrev pub block_list : List ℕ → List ℕ → ℕ → Result (List Block) Pl94Fault
block_list geo segment1 state =
    result_map_both (λ entries. map (λ e. block_of e.0 e.1) entries) (λ fault. fault)
    (area_list areas.Block geo segment1 state)
