use Rattle.clap.specs.Words.{found_of, rows_of}
use Rattle.cli_words.proofs.TogetherLemmas.{command_said, common_values, county_values, record_value}
use Rattle.cli_words.proofs.words.command_words.Goals as goal

pub county_words-requires : goal.county_words-requires
county_words-requires c = county_values (c.args.name.now, rows_of (found_of c.args.found.now)) c.requires c.in_default.not-audit

pub path_or_none-record_file-requires : goal.path_or_none-record_file-requires
path_or_none-record_file-requires c = record_value (c.args.name.now, rows_of (found_of c.args.found.now)) c.requires

pub tolerance_words-requires-in_default : goal.tolerance_words-requires-in_default
tolerance_words-requires-in_default c = common_values (c.args.name.now, rows_of (found_of c.args.found.now)) c.requires

pub returns-in_ok-tolerance-in_default : goal.returns-in_ok-tolerance-in_default
returns-in_ok-tolerance-in_default c =
    command_said (c.args.name.now, rows_of (found_of c.args.found.now)) _ c.in_ok-counties-in_default.ensures _ c.in_ok-tolerance-in_default.ensures
    c.command_words_with.result c.command_words_with.ensures
