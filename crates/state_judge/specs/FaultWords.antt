-- The words of each fault of a certificate.
use Rattle.std.specs.Prelude.{ℕ, List, ◌++◌, codes}
use Rattle.county_problem.specs.FaultWords.{grouping_fault_word}
use Rattle.certificate_lines.specs.KindWords.{text_kind_word}
use Rattle.state_judge.specs.declared.fault.CheckFault.{CheckFault}
use Rattle.state_judge.specs.declared.fault.CheckFault.TheVariants.{Text, WrongWindow, WrongOrder, LimitTooSmall}
use Rattle.state_judge.specs.declared.fault.CheckFault.TheVariants.{TargetFault, WrongCounty, MissingGroup, StrayGroup}
use Rattle.state_judge.specs.declared.fault.CheckFault.TheVariants.{LightGroup, BoundOver, BoundLength, NotStuck}
use Rattle.state_judge.specs.declared.fault.CheckFault.TheVariants.{SeatsOpen, BoundWithoutTarget, NoLeaf}

-- the words of a fault; if it is one of the text or of the target, the word of the latter stands behind
abbrev pub check_words : CheckFault → List ℕ
check_words (Text fault) = codes "Text " ++ text_kind_word fault.kind
check_words WrongWindow = codes "WrongWindow"
check_words WrongOrder = codes "WrongOrder"
check_words LimitTooSmall = codes "LimitTooSmall"
check_words (TargetFault fault) = codes "TargetFault " ++ grouping_fault_word fault
check_words WrongCounty = codes "WrongCounty"
check_words MissingGroup = codes "MissingGroup"
check_words StrayGroup = codes "StrayGroup"
check_words LightGroup = codes "LightGroup"
check_words BoundOver = codes "BoundOver"
check_words BoundLength = codes "BoundLength"
check_words NotStuck = codes "NotStuck"
check_words SeatsOpen = codes "SeatsOpen"
check_words BoundWithoutTarget = codes "BoundWithoutTarget"
check_words NoLeaf = codes "NoLeaf"
