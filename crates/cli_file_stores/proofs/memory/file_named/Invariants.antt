use Rattle.std.proofs.Common.{◌≡◌, drop}
use Rattle.cli_file_stores.specs.Files.{held}
use Rattle.cli_file_stores.specs.Memory.{files_of}
use Rattle.cli_file_stores.proofs.memory.file_named.Given as goal

abbrev pub invariant-loop-file : goal.invariant-loop-file
invariant-loop-file l = held (files_of (drop l.file-index l.files)) l.name ≡ held (files_of l.files) l.name
