use Rattle.std.proofs.Common.{codes}
use Rattle.cli_words.specs.Command.{county_options, depth_option, limit_option, number_option, of_steps, piece_options, required, text_option}
use Rattle.cli_words.proofs.CommandLemmas.{shape_behind}
use Rattle.cli_words.proofs.command.piece_command.Goals as goal

pub returns : goal.returns
returns c =
    let mid = c.in_ok-counties.counties in
    let events = c.with_option-made.ensures mid _ (text_option (codes "events")) c.with_grouping_options-made.ensures c.text_option-events.ensures.rule c.text_option-events.ensures.local in
    let recorded = c.with_option-made-2.ensures mid _ (text_option (codes "record")) events c.record_option-run_record.ensures.rule c.record_option-run_record.ensures.local in
    let limit = c.with_option-made-3.ensures mid _ limit_option recorded c.limit_option-limit.ensures.rule c.limit_option-limit.ensures.local in
    let depth = c.with_option-made-4.ensures mid _ depth_option limit c.depth_option-depth.ensures.rule c.depth_option-depth.ensures.local in
    let round = c.with_option-made-5.ensures mid _ (required (number_option (codes "round"))) depth c.required_number_option-round.ensures.rule c.required_number_option-round.ensures.local in
    let number = c.with_option-made-6.ensures mid _ (required (number_option (codes "number"))) round c.required_number_option-number.ensures.rule c.required_number_option-number.ensures.local in
    let steps = c.with_option.ensures mid _ (of_steps (text_option (codes "steps"))) number c.steps_option-steps.ensures.rule c.steps_option-steps.ensures.local in
    shape_behind c.bare_command-bare.result mid c.with_option.result (codes "piece") county_options piece_options c.bare_command-bare.ensures.app c.bare_command-bare.ensures.local c.in_ok-counties.ensures steps
