use Rattle.cli_words.specs.Command.{chamber_option, part_option, state_option, tolerance_option, whole_option}
use Rattle.cli_words.proofs.CommandLemmas.{has_none_more}
use Rattle.cli_words.proofs.command.with_common_options.Goals as goal

pub returns : goal.returns
returns c =
    let old = c.args.command in
    let chamber = c.with_option-made.ensures old _ chamber_option (has_none_more old) c.chamber_option.ensures.rule c.chamber_option.ensures.local in
    let state = c.with_option-made-2.ensures old _ state_option chamber c.state_option.ensures.rule c.state_option.ensures.local in
    let tolerance = c.with_option-made-3.ensures old _ tolerance_option state c.tolerance_option.ensures.rule c.tolerance_option.ensures.local in
    let part = c.with_option-made-4.ensures old _ part_option tolerance c.part_option.ensures.rule c.part_option.ensures.local in
    c.with_option.ensures old _ whole_option part c.whole_option.ensures.rule c.whole_option.ensures.local
