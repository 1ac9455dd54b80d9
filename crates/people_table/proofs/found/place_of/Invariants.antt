use Rattle.std.proofs.Common.{◌≡◌, ℕ, ◌<◌, nat_lt, false, get_or}
use Rattle.pl94_counties.specs.CountyNames.{CountyName}
use Rattle.people_table.proofs.found.place_of.Given as goal

abbrev pub invariant-loop-i : goal.invariant-loop-i
invariant-loop-i l = (j : ℕ) (d : CountyName) → j < l.i → nat_lt l.code (get_or l.found j d).county.code ≡ false
