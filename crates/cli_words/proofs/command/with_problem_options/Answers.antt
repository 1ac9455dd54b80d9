use Rattle.std.proofs.Common.{codes}
use Rattle.cli_words.specs.Command.{required, text_option}
use Rattle.cli_words.proofs.command.with_problem_options.Goals as goal

pub returns : goal.returns
returns c =
    let old = c.args.command in
    let adjacency = c.with_option-made.ensures old _ (required (text_option (codes "adjacency"))) c.with_common_options-made.ensures c.required_option-adjacency.ensures.rule c.required_option-adjacency.ensures.local in
    let links = c.with_option-made-2.ensures old _ (text_option (codes "links")) adjacency c.text_option-links.ensures.rule c.text_option-links.ensures.local in
    c.with_option.ensures old _ (text_option (codes "withdrawn")) links c.text_option-withdrawn.ensures.rule c.text_option-withdrawn.ensures.local
