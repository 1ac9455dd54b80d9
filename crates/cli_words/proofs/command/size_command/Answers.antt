use Rattle.std.proofs.Common.{codes}
use Rattle.cli_words.specs.Command.{county_options, json_option, size_options, text_option}
use Rattle.cli_words.proofs.CommandLemmas.{shape_behind}
use Rattle.cli_words.proofs.command.size_command.Goals as goal

pub returns : goal.returns
returns c =
    let mid = c.in_ok-counties.counties in
    let recorded = c.with_option-made.ensures mid _ (text_option (codes "record")) c.with_common_options-made.ensures c.record_option-run_record.ensures.rule c.record_option-run_record.ensures.local in
    let json = c.with_option.ensures mid _ json_option recorded c.json_option-json.ensures.rule c.json_option-json.ensures.local in
    shape_behind c.bare_command-bare.result mid c.with_option.result (codes "size") county_options size_options c.bare_command-bare.ensures.app c.bare_command-bare.ensures.local c.in_ok-counties.ensures json
