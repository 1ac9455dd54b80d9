use Rattle.std.proofs.Common.{drop}
use Rattle.clap.specs.Words.{found_of, rows_of}
use Rattle.cli_words.specs.Command.{common_options, size_options}
use Rattle.cli_words.proofs.ReadLemmas.{front_values}
use Rattle.cli_words.proofs.words.size_words.Goals as goal

pub common_words-requires-clause-values : goal.common_words-requires-clause-values
common_words-requires-clause-values c = front_values common_options (drop 5 size_options) (rows_of (found_of c.args.found.now)) c.requires.values
