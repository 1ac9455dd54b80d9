use Rattle.std.proofs.Common.{◌≡◌, ◌++◌, length, option_map}
use Rattle.cli_file_stores.specs.Memory.{files_of}
use Rattle.cli.specs.Case.{are_named, with_open, parts_of}
use Rattle.cli.proofs.case.files_in.Given as goal

abbrev pub invariant-loop-piece : goal.invariant-loop-piece
invariant-loop-piece l = record {
  gathered : files_of l.files.items ++ with_open (option_map (λ s. s.now) l.open) l.bytes.items (parts_of l.pieces) ≡ (parts_of l.fn.pieces).files;
  named : are_named (parts_of l.pieces).files ≡ are_named (parts_of l.fn.pieces).files;
}

abbrev pub decreases-loop-piece : goal.decreases-loop-piece
decreases-loop-piece l = length l.pieces
