use Rattle.std.proofs.Common.{◌∷◌, [], map}
use Rattle.cli_file_stores.specs.Sums.{sum_value}
use Rattle.cli_record.specs.declared.run.ReadFile.TheVariants as files
use Rattle.cli_record.specs.RunRecord.{read_line_of}
use Rattle.cli_record.specs.RecordFiles.{board_files, file_named}
use Rattle.cli_record.proofs.LineLemmas.{on_ok, read_on}
use Rattle.cli_record.proofs.reads.push_board_and_events.Goals as goal

pub returns : goal.returns
returns c =
    on_ok c.push_read.result c.push_read.ensures
    (read_on (map read_line_of c.args.reads.now.items) (board_files c.args.words.now) (file_named files.Events c.args.events.now ∷ []) (map sum_value c.args.sums.now) c.in_ok-push_board.ensures)
