-- How deep the stack of what is wanted can get.
use Rattle.std.specs.Prelude.{ℕ, ◌+◌, ◌-◌, ◌≤◌, max, List, [], ◌∷◌, length, reverse}
use Rattle.certificate_lines.specs.Lines.{most}
use Rattle.certificate_lines.specs.declared.item.Wanted.{Wanted}
use Rattle.certificate_lines.specs.declared.item.Wanted.TheVariants as want

-- How many things may yet lie above the place where this is wanted. A tree fills a place for each of its levels. The
-- groups of a branch put one tree above their own place, even where no level is left.
abbrev pub room_of : Wanted → ℕ
room_of want.Head = most + 1
room_of (want.Tolerance format) = most + 1
room_of (want.Order format) = most + 1
room_of (want.Tree format levels) = levels
room_of (want.Takes format levels) = 1 + (levels - 1)
room_of (want.Part format levels) = levels
room_of (want.PartTakes format levels) = 1 + (levels - 1)
room_of wanted = 0

-- above `below` things there is room for what is wanted, and for all that may lie above its place
abbrev pub HasRoom : ℕ → Wanted → Type 0
HasRoom below wanted = below + room_of wanted ≤ most + 1

-- the greatest place, from 0, that may be filled where these things are wanted in turn, the last of them in place 0
abbrev pub greatest_place : List Wanted → ℕ
greatest_place [] = 0
greatest_place (wanted ∷ more) = max (length more + room_of wanted) (greatest_place more)

-- A stack, whose top is its last, never holds more than most + 2 things, whatever lines come.
abbrev pub IsBounded : List Wanted → Type 0
IsBounded stack = greatest_place (reverse stack) ≤ most + 1
