-- Why a round isn't opened, as values of the Rust types.
use Rattle.connected_sets.specs.declared.stop.Stop.{Stop}
use Rattle.connected_sets.specs.declared.stop.Stop.TheVariants as search
use Rattle.share_board.specs.declared.fault.BoardFault.{BoardFault}
use Rattle.share_board.specs.declared.fault.BoardFault.TheVariants as fault
use Rattle.share_board.specs.declared.stop.OpeningStop.{OpeningStop}
use Rattle.share_board.specs.declared.stop.OpeningStop.TheVariants as stop

-- a search's stop, as one of an opening
abbrev pub opening_stop : Stop → OpeningStop
opening_stop search.StepLimit = stop.Budget
opening_stop search.Memory = stop.Memory

-- an opening's stop, as why there is no board
abbrev pub board_fault : OpeningStop → BoardFault
board_fault stop.TooManyPieces = fault.TooManyPieces
board_fault stop.Budget = fault.Budget
board_fault stop.Memory = fault.Memory
