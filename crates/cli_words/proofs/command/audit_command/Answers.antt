use Rattle.std.proofs.Common.{codes}
use Rattle.cli_words.specs.Command.{audit_options, census_options, json_option, required, text_option}
use Rattle.cli_words.proofs.CommandLemmas.{shape_behind}
use Rattle.cli_words.proofs.command.audit_command.Goals as goal

pub returns : goal.returns
returns c =
    let mid = c.in_ok-counties.counties in
    let assignments = c.with_option-made.ensures mid _ (required (text_option (codes "assignments"))) c.with_grouping_options-made.ensures c.required_option-assignments.ensures.rule c.required_option-assignments.ensures.local in
    let districts = c.with_option-made-2.ensures mid _ (text_option (codes "districts")) assignments c.text_option-districts.ensures.rule c.text_option-districts.ensures.local in
    let recorded = c.with_option-made-3.ensures mid _ (text_option (codes "record")) districts c.record_option-run_record.ensures.rule c.record_option-run_record.ensures.local in
    let json = c.with_option.ensures mid _ json_option recorded c.json_option-json.ensures.rule c.json_option-json.ensures.local in
    shape_behind c.bare_command-bare.result mid c.with_option.result (codes "audit") census_options audit_options c.bare_command-bare.ensures.app c.bare_command-bare.ensures.local c.in_ok-counties.ensures json
