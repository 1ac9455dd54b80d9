-- What may be wrong with a certificate whose text can be read.
use Rattle.county_problem.specs.declared.grouping_fault.GroupingFault.{GroupingFault}

pub data Fault : Type 0 where
  WrongWindow : Fault
  WrongOrder : Fault
  LimitTooSmall : Fault
  TargetFault : GroupingFault → Fault
  WrongCounty : Fault
  MissingGroup : Fault
  StrayGroup : Fault
  LightGroup : Fault
  BoundOver : Fault
  BoundLength : Fault
  NotStuck : Fault
  SeatsOpen : Fault
  BoundWithoutTarget : Fault
  NoLeaf : Fault
