-- The words of a grouping's fault.
use Rattle.std.specs.Prelude.{ℕ, List, ◌++◌, codes, decimal}
use Rattle.county_problem.specs.declared.grouping_fault.GroupingFault.{GroupingFault}
use Rattle.county_problem.specs.declared.grouping_fault.GroupingFault.TheVariants.{EmptyGroup, UnknownCounty, Twice}
use Rattle.county_problem.specs.declared.grouping_fault.GroupingFault.TheVariants.{Missing, NotConnected, OutOfWindow}
use Rattle.county_problem.specs.declared.grouping_fault.GroupingFault.TheVariants.{SeatsTotal, Memory}
use Rattle.county_codes.specs.Digits.{five_digits}

-- words and a number
unfoldable pub with_number : List ℕ → ℕ → List ℕ
with_number words number = words ++ decimal number

-- words and a code
unfoldable pub with_code : List ℕ → ℕ → List ℕ
with_code words code = words ++ five_digits code

-- the fault's kind with its group, its county or its seats
abbrev pub grouping_fault_words : GroupingFault → List ℕ
grouping_fault_words (EmptyGroup i) = with_number (codes "EmptyGroup group ") i
grouping_fault_words (UnknownCounty i code) =
    with_number (codes "UnknownCounty group ") i ++ with_code (codes " county ") code
grouping_fault_words (Twice code) = with_code (codes "Twice county ") code
grouping_fault_words (Missing code) = with_code (codes "Missing county ") code
grouping_fault_words (NotConnected i) = with_number (codes "NotConnected group ") i
grouping_fault_words (OutOfWindow i) = with_number (codes "OutOfWindow group ") i
grouping_fault_words (SeatsTotal seats left) =
    with_number (codes "SeatsTotal seats ") seats ++ with_number (codes " left ") left
grouping_fault_words Memory = codes "Memory"
