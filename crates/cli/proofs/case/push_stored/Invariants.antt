use Rattle.std.proofs.Common.{◌≡◌, ◌++◌, drop}
use Rattle.cli_file_stores.specs.Memory.{files_of}
use Rattle.cli.specs.CaseRun.{stored_text}
use Rattle.cli.proofs.case.push_stored.Given as goal

abbrev pub invariant-loop-file : goal.invariant-loop-file
invariant-loop-file l = l.out.items ++ stored_text (files_of (drop l.file-index l.files)) ≡ l.fn.out.items ++ stored_text (files_of l.files)
