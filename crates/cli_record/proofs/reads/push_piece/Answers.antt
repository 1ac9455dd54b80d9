use Rattle.std.proofs.Common.{map}
use Rattle.cli_file_stores.specs.Sums.{sum_value}
use Rattle.cli_record.specs.declared.run.ReadFile.TheVariants as files
use Rattle.cli_record.specs.RunRecord.{read_line_of}
use Rattle.cli_record.specs.RecordFiles.{board_files, if_named}
use Rattle.cli_record.proofs.LineLemmas.{on_ok, read_on}
use Rattle.cli_record.proofs.reads.push_piece.Goals as goal

pub returns : goal.returns
returns c =
    on_ok c.push_if_named.result c.push_if_named.ensures
    (read_on (map read_line_of c.args.reads.now.items) (board_files c.args.words.now.board) (if_named files.Events c.args.words.now.events) (map sum_value c.args.sums.now) c.in_ok-push_board.ensures)
