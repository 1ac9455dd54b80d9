use Rattle.std.proofs.Common.{drop}
use Rattle.clap.specs.Words.{found_of, rows_of}
use Rattle.cli_words.specs.Command.{grouping_options, piece_options}
use Rattle.cli_words.proofs.ReadLemmas.{front_values}
use Rattle.cli_words.proofs.words.piece_words.Goals as goal

pub board_words-requires-clause-values : goal.board_words-requires-clause-values
board_words-requires-clause-values c = front_values grouping_options (drop 9 piece_options) (rows_of (found_of c.args.found.now)) c.requires.values
