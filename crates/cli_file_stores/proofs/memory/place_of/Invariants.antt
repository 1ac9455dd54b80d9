use Rattle.std.proofs.Common.{◌≡◌, ℕ, List, ◌++◌, take, drop}
use Rattle.cli_file_stores.specs.Files.{with_file}
use Rattle.cli_file_stores.specs.Memory.{files_of}
use Rattle.cli_file_stores.proofs.memory.place_of.Given as goal

abbrev pub invariant-loop-i : goal.invariant-loop-i
invariant-loop-i l = (bytes : List ℕ) → take l.i (files_of l.files) ++ with_file (drop l.i (files_of l.files)) l.name bytes ≡ with_file (files_of l.files) l.name bytes
