-- What the faults of a certificate name.
use Rattle.std.specs.Prelude.{◌≡◌, Option, Some, None}
use Rattle.checker_laws.specs.Fault.{Fault}
use Rattle.checker_laws.specs.Fault as fault
use Rattle.state_judge.specs.declared.fault.CheckFault.{CheckFault}
use Rattle.state_judge.specs.declared.fault.CheckFault.TheVariants.{Text, WrongWindow, WrongOrder, LimitTooSmall}
use Rattle.state_judge.specs.declared.fault.CheckFault.TheVariants.{TargetFault, WrongCounty, MissingGroup, StrayGroup}
use Rattle.state_judge.specs.declared.fault.CheckFault.TheVariants.{LightGroup, BoundOver, BoundLength, NotStuck}
use Rattle.state_judge.specs.declared.fault.CheckFault.TheVariants.{SeatsOpen, BoundWithoutTarget, NoLeaf}

-- the fault of a certificate whose text can be read; a fault of the text is none
abbrev pub fault_of : CheckFault → Option Fault
fault_of (Text f) = None
fault_of WrongWindow = Some fault.WrongWindow
fault_of WrongOrder = Some fault.WrongOrder
fault_of LimitTooSmall = Some fault.LimitTooSmall
fault_of (TargetFault kind) = Some (fault.TargetFault kind)
fault_of WrongCounty = Some fault.WrongCounty
fault_of MissingGroup = Some fault.MissingGroup
fault_of StrayGroup = Some fault.StrayGroup
fault_of LightGroup = Some fault.LightGroup
fault_of BoundOver = Some fault.BoundOver
fault_of BoundLength = Some fault.BoundLength
fault_of NotStuck = Some fault.NotStuck
fault_of SeatsOpen = Some fault.SeatsOpen
fault_of BoundWithoutTarget = Some fault.BoundWithoutTarget
fault_of NoLeaf = Some fault.NoLeaf

-- the property holds of the fault of a certificate that the value names
abbrev pub NamesFault : CheckFault → (Fault → Type 0) → Type 0
NamesFault fault IsFault = (named : Fault) × (fault_of fault ≡ Some named) × IsFault named
