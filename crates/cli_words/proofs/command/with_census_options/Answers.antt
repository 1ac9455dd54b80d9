use Rattle.std.proofs.Common.{codes}
use Rattle.cli_words.specs.Command.{required, text_option}
use Rattle.cli_words.proofs.CommandLemmas.{has_none_more}
use Rattle.cli_words.proofs.command.with_census_options.Goals as goal

pub returns : goal.returns
returns c =
    let old = c.args.command in
    let geo = c.with_option-made.ensures old _ (required (text_option (codes "geo"))) (has_none_more old) c.required_option-geo.ensures.rule c.required_option-geo.ensures.local in
    let segment = c.with_option-made-2.ensures old _ (required (text_option (codes "segment"))) geo c.required_option-segment.ensures.rule c.required_option-segment.ensures.local in
    c.with_option.ensures old _ (text_option (codes "people")) segment c.text_option-people.ensures.rule c.text_option-people.ensures.local
