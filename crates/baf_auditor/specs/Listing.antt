-- The places of sets, and the listed blocks.
use Rattle.std.specs.Prelude.{ℕ, ◌==◌, Bool, true, false, List, [], ◌∷◌, Option, Some, None, is_some, if◌then◌else◌}
use Rattle.std.specs.List.{position_from}
use Rattle.std.specs.Option.{option_or}
use Rattle.grouping_laws.specs.Sets.{contains}
use Rattle.pl94_counties.specs.declared.blocks.Block.{Block}
use Rattle.baf_auditor.specs.Findings.{DrawnSet, county_of_block}

-- a code, where it is kept
abbrev pub kept : Bool → ℕ → Option ℕ
kept true code = Some code
kept false code = None

-- the place of the set that has a county, counted from 0
abbrev pub place_of : List DrawnSet → ℕ → Option ℕ
place_of drawn county = position_from (λ set. contains set.codes county) 0 drawn

-- the people of a listed block, if its county is in a set
abbrev pub people_in_set : List DrawnSet → Block → Option ℕ
people_in_set drawn block = if is_some (place_of drawn (county_of_block block.code)) then Some block.people else None

-- the code of a listed block and its people, if its county is in a set
abbrev pub entry_in : List DrawnSet → Block → Option (ℕ × ℕ)
entry_in drawn block =
    if is_some (place_of drawn (county_of_block block.code)) then Some (block.code, block.people) else None

-- the people of the block of a code after a further block
abbrev pub after_block : List DrawnSet → ℕ → Option ℕ → Block → Option ℕ
after_block drawn code before block =
    if block.code == code then option_or (people_in_set drawn block) before else before

-- the people of the block of a code after further blocks
abbrev pub after_blocks : List DrawnSet → ℕ → Option ℕ → List Block → Option ℕ
after_blocks drawn code before [] = before
after_blocks drawn code before (b ∷ bs) = after_blocks drawn code (after_block drawn code before b) bs

-- the people of the listed block of a code, if there is one
abbrev pub listing : List DrawnSet → List Block → ℕ → Option ℕ
listing drawn blocks code = after_blocks drawn code None blocks
