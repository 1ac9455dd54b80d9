-- The sums of what a file store gave and took.
use Rattle.std.specs.Prelude.{◌≡◌, ◌++◌, ℕ, true, false, List, [], Ok, Err, map}
use Rattle.std.specs.String.{string_bytes}
use Rattle.cli_file_stores.specs.ByteSums.{SumValue, sum_of}
use Rattle.cli_file_stores.specs.declared.file_store.ReadEnd.{ReadEnd}
use Rattle.cli_file_stores.specs.declared.file_store.ReadEnd.TheVariants as ends
use Rattle.cli_file_stores.specs.declared.sums.EventKind.{EventKind}
use Rattle.cli_file_stores.specs.declared.sums.EventKind.TheVariants.{Whole, Part, Taken, Failed}
use Rattle.cli_file_stores.specs.declared.sums.EventSum.{EventSum}
use Rattle.cli_file_stores.specs.History.{FileStoreEvent}
use Rattle.cli_file_stores.specs.History.FileStoreEvent.{Loaded, Read, Stored}

-- what is kept of an event: how it went, the name of the file, and the sum of the bytes that the file store gave or was
-- given
pub record SumOfEvent : Type 0 where
  pub kind : EventKind
  pub name : List ℕ
  pub sum : SumValue

-- how a reader stood
abbrev pub kind_of_end : ReadEnd → EventKind
kind_of_end ends.Whole = Whole
kind_of_end ends.Part = Part

-- what is kept of each event
abbrev pub sum_of_event : FileStoreEvent → SumOfEvent
sum_of_event (Loaded name (Ok bytes)) = record { kind = Whole; name = name; sum = sum_of bytes }
sum_of_event (Loaded name (Err fault)) = record { kind = Failed; name = name; sum = sum_of [] }
sum_of_event (Read name bytes (Ok end)) = record { kind = kind_of_end end; name = name; sum = sum_of bytes }
sum_of_event (Read name bytes (Err fault)) = record { kind = Failed; name = name; sum = sum_of bytes }
sum_of_event (Stored name bytes true) = record { kind = Taken; name = name; sum = sum_of bytes }
sum_of_event (Stored name bytes false) = record { kind = Failed; name = name; sum = sum_of bytes }

-- the sum of an event as the code keeps it, by the bytes of its name
abbrev pub sum_value : EventSum → SumOfEvent
sum_value s = record { kind = s.kind; name = string_bytes s.name; sum = s.sum }

-- the sums are those of the last events
pub record AreOfLast (events : List FileStoreEvent) (sums : List EventSum) : Type 0 where
  pub earlier : List FileStoreEvent
  pub recent : List FileStoreEvent
  pub all : events ≡ earlier ++ recent
  pub are : map sum_value sums ≡ map sum_of_event recent
