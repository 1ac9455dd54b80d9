-- What the answers of the calls that judge a line say.
use Rattle.std.specs.Prelude.{⊤}
use Rattle.checker_laws.specs.Fault.{Fault}
use Rattle.connected_sets.specs.declared.stop.Stop.{Stop}
use Rattle.connected_sets.specs.declared.stop.Stop.TheVariants as search
use Rattle.state_judge.specs.CheckFaults.{NamesFault}
use Rattle.state_judge.specs.declared.fault.LineStop.{LineStop}
use Rattle.state_judge.specs.declared.fault.LineStop.TheVariants as stop

-- If a call stopped at a fault, the first property holds of the fault. If it stopped because no text spells the line,
-- the second holds.
abbrev pub StopsAt : LineStop → (Fault → Type 0) → Type 0 → Type 0
StopsAt (stop.Fault f) IsLineFault HasNone = NamesFault f IsLineFault
StopsAt stop.Unspelled IsLineFault HasNone = HasNone
StopsAt stop.StepLimit IsLineFault HasNone = ⊤
StopsAt stop.Memory IsLineFault HasNone = ⊤

-- a search's stop, as one of a line
abbrev pub line_stop : Stop → LineStop
line_stop search.StepLimit = stop.StepLimit
line_stop search.Memory = stop.Memory
