use Rattle.std.proofs.Common.{drop}
use Rattle.clap.specs.Words.{found_of, rows_of}
use Rattle.cli_words.specs.Command.{certificate_options, check_options}
use Rattle.cli_words.proofs.ReadLemmas.{front_values}
use Rattle.cli_words.proofs.words.check_words.Goals as goal

pub certificate_words-requires-clause-values : goal.certificate_words-requires-clause-values
certificate_words-requires-clause-values c = front_values certificate_options (drop 9 check_options) (rows_of (found_of c.args.found.now)) c.requires.values
