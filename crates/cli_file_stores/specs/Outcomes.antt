-- The events of a file store by how its calls ended.
use Rattle.std.specs.Prelude.{ℕ, true, false, List, Ok, Err}
use Rattle.cli_file_stores.specs.declared.outcome.Outcome.{Outcome}
use Rattle.cli_file_stores.specs.declared.outcome.Outcome.TheVariants as outcomes
use Rattle.cli_file_stores.specs.History.{FileStoreEvent}
use Rattle.cli_file_stores.specs.History.FileStoreEvent.{Loaded, Read, Stored}

-- the event of a call, by the name of the file, the bytes that were given or handed over, and how the call ended
abbrev pub event_of : List ℕ → List ℕ → Outcome → FileStoreEvent
event_of name bytes outcomes.Loaded = Loaded name (Ok bytes)
event_of name bytes (outcomes.NotLoaded fault) = Loaded name (Err fault)
event_of name bytes (outcomes.Read answer) = Read name bytes answer
event_of name bytes outcomes.Stored = Stored name bytes true
event_of name bytes outcomes.NotStored = Stored name bytes false
