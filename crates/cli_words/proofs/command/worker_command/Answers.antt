use Rattle.std.proofs.Common.{codes}
use Rattle.cli_words.specs.Command.{county_options, of_steps, text_option, worker_options}
use Rattle.cli_words.proofs.CommandLemmas.{shape_behind}
use Rattle.cli_words.proofs.command.worker_command.Goals as goal

pub returns : goal.returns
returns c =
    let mid = c.in_ok-counties.counties in
    let recorded = c.with_option-made.ensures mid _ (text_option (codes "record")) c.with_problem_options-made.ensures c.record_option-run_record.ensures.rule c.record_option-run_record.ensures.local in
    let steps = c.with_option.ensures mid _ (of_steps (text_option (codes "steps"))) recorded c.steps_option-steps.ensures.rule c.steps_option-steps.ensures.local in
    shape_behind c.bare_command-bare.result mid c.with_option.result (codes "worker") county_options worker_options c.bare_command-bare.ensures.app c.bare_command-bare.ensures.local c.in_ok-counties.ensures steps
