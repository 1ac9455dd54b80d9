-- The counties and the blocks of a state, said of the lines of both census files.
use Rattle.std.specs.Prelude.{ℕ, List, All, map}
use Rattle.std.specs.List.Sorted.{IsStrictlyIncreasing}
use Rattle.field_lines.specs.Cut.{cut}
use Rattle.county_codes.specs.declared.county.County.{County}
use Rattle.pl94_counties.specs.declared.blocks.Block.{Block}
use Rattle.pl94_counties.specs.declared.geo.Area.TheVariants as areas
use Rattle.pl94_counties.specs.Counties.{county_of, block_of}
use Rattle.pl94_counties.specs.JoinedLines.{IsJoined, IsListedArea}

-- The counties of the state by code, each once. Each comes from a line of geo and has the people of the record with the
-- line's LOGRECNO, and no line of geo for a county of the state is left out.
pub record AreCounties (geo segment1 : List ℕ) (state : ℕ) (counties : List County) : Type 0 where
  pub by_code : IsStrictlyIncreasing (map (λ c. c.code) counties)
  pub from_lines : All (λ c. IsJoined areas.County (cut geo).lines (cut segment1).lines state c.code c.people) counties
  pub each_line : All (IsListedArea county_of areas.County (cut segment1).lines state counties) (cut geo).lines

-- The census blocks of the state by code, each once, in the same way.
pub record AreBlocks (geo segment1 : List ℕ) (state : ℕ) (blocks : List Block) : Type 0 where
  pub by_code : IsStrictlyIncreasing (map (λ b. b.code) blocks)
  pub from_lines : All (λ b. IsJoined areas.Block (cut geo).lines (cut segment1).lines state b.code b.people) blocks
  pub each_line : All (IsListedArea block_of areas.Block (cut segment1).lines state blocks) (cut geo).lines
