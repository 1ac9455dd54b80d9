use Rattle.std.proofs.Common.{codes}
use Rattle.cli_words.specs.Command.{county_options, depth_option, limit_option, of_steps, required, share_options, text_option}
use Rattle.cli_words.proofs.CommandLemmas.{shape_behind}
use Rattle.cli_words.proofs.command.share_command.Goals as goal

pub returns : goal.returns
returns c =
    let mid = c.in_ok-counties.counties in
    let events = c.with_option-made.ensures mid _ (required (text_option (codes "events"))) c.with_grouping_options-made.ensures c.required_option-events.ensures.rule c.required_option-events.ensures.local in
    let certificate = c.with_option-made-2.ensures mid _ (text_option (codes "certificate")) events c.text_option-certificate.ensures.rule c.text_option-certificate.ensures.local in
    let recorded = c.with_option-made-3.ensures mid _ (text_option (codes "record")) certificate c.record_option-run_record.ensures.rule c.record_option-run_record.ensures.local in
    let limit = c.with_option-made-4.ensures mid _ limit_option recorded c.limit_option-limit.ensures.rule c.limit_option-limit.ensures.local in
    let depth = c.with_option-made-5.ensures mid _ depth_option limit c.depth_option-depth.ensures.rule c.depth_option-depth.ensures.local in
    let budget = c.with_option.ensures mid _ (of_steps (text_option (codes "budget"))) depth c.steps_option-budget.ensures.rule c.steps_option-budget.ensures.local in
    shape_behind c.bare_command-bare.result mid c.with_option.result (codes "share") county_options share_options c.bare_command-bare.ensures.app c.bare_command-bare.ensures.local c.in_ok-counties.ensures budget
