use Rattle.std.proofs.Common.{drop}
use Rattle.clap.specs.Words.{found_of, rows_of}
use Rattle.cli_words.specs.Command.{grouping_options, judge_options}
use Rattle.cli_words.proofs.ReadLemmas.{front_values}
use Rattle.cli_words.proofs.words.judge_words.Goals as goal

pub grouping_words-requires-clause-values : goal.grouping_words-requires-clause-values
grouping_words-requires-clause-values c = front_values grouping_options (drop 9 judge_options) (rows_of (found_of c.args.found.now)) c.requires.values
