-- What is known where a step failed.
use Rattle.std.proofs.Common.{◌≡◌, Result, Ok, Err}
use Rattle.std.specs.Result.{IsErrAnd, IsErrOf}
use Rattle.connected_sets.specs.declared.stop.Stop.{Stop}
use Rattle.connected_sets.specs.declared.stop.Stop.TheVariants.{StepLimit, Memory}

-- memory was refused: the limit of steps was not what ended it
pub refused_not_stopped : {A P : Type 0} (r : Result A Stop) → IsErrAnd r (λ e. e ≡ Memory) → IsErrOf r StepLimit → P
refused_not_stopped (Ok x) h k = absurd h
refused_not_stopped (Err e) h k = cc

-- an error that is handed on
pub handed_on : {A : Type 0} (r : Result A Stop) (d x : Stop) → IsErrAnd r (λ e. e ≡ d) → IsErrOf r x → d ≡ x
handed_on (Ok y) d x h k = absurd h
handed_on (Err e) d x h k = cc
