use Rattle.std.proofs.Common.{drop}
use Rattle.clap.specs.Words.{found_of, rows_of}
use Rattle.cli_words.specs.Command.{certificate_options, problem_options}
use Rattle.cli_words.proofs.ReadLemmas.{front_values}
use Rattle.cli_words.proofs.words.certificate_words.Goals as goal

pub problem_words-requires-clause-values : goal.problem_words-requires-clause-values
problem_words-requires-clause-values c = front_values problem_options (drop 8 certificate_options) (rows_of (found_of c.args.found.now)) c.requires.values
