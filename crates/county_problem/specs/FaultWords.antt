-- The word of each fault of a grouping.
use Rattle.std.specs.Prelude.{ℕ, List, codes}
use Rattle.county_problem.specs.declared.grouping_fault.GroupingFault.{GroupingFault}
use Rattle.county_problem.specs.declared.grouping_fault.GroupingFault.TheVariants.{EmptyGroup, UnknownCounty, Twice}
use Rattle.county_problem.specs.declared.grouping_fault.GroupingFault.TheVariants.{Missing, NotConnected, OutOfWindow}
use Rattle.county_problem.specs.declared.grouping_fault.GroupingFault.TheVariants.{SeatsTotal, Memory}

-- the word of a fault, without its numbers
abbrev pub grouping_fault_word : GroupingFault → List ℕ
grouping_fault_word (EmptyGroup i) = codes "EmptyGroup"
grouping_fault_word (UnknownCounty i code) = codes "UnknownCounty"
grouping_fault_word (Twice code) = codes "Twice"
grouping_fault_word (Missing code) = codes "Missing"
grouping_fault_word (NotConnected i) = codes "NotConnected"
grouping_fault_word (OutOfWindow i) = codes "OutOfWindow"
grouping_fault_word (SeatsTotal seats left) = codes "SeatsTotal"
grouping_fault_word Memory = codes "Memory"
