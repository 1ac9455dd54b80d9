use Rattle.std.proofs.Common.{codes}
use Rattle.cli_words.specs.Command.{county_options, json_option, judge_options, names_option, of_steps, text_option}
use Rattle.cli_words.proofs.CommandLemmas.{shape_behind}
use Rattle.cli_words.proofs.command.judge_command.Goals as goal

pub returns : goal.returns
returns c =
    let mid = c.in_ok-counties.counties in
    let certificate = c.with_option-made.ensures mid _ (text_option (codes "certificate")) c.with_grouping_options-made.ensures c.text_option-certificate.ensures.rule c.text_option-certificate.ensures.local in
    let table = c.with_option-made-2.ensures mid _ (text_option (codes "table")) certificate c.table_option-table.ensures.rule c.table_option-table.ensures.local in
    let recorded = c.with_option-made-3.ensures mid _ (text_option (codes "record")) table c.record_option-run_record.ensures.rule c.record_option-run_record.ensures.local in
    let json = c.with_option-made-4.ensures mid _ json_option recorded c.json_option-json.ensures.rule c.json_option-json.ensures.local in
    let names = c.with_option-made-5.ensures mid _ names_option json c.names_option-names.ensures.rule c.names_option-names.ensures.local in
    let budget = c.with_option.ensures mid _ (of_steps (text_option (codes "budget"))) names c.steps_option-budget.ensures.rule c.steps_option-budget.ensures.local in
    shape_behind c.bare_command-bare.result mid c.with_option.result (codes "judge") county_options judge_options c.bare_command-bare.ensures.app c.bare_command-bare.ensures.local c.in_ok-counties.ensures budget
