use Rattle.std.proofs.Common.{codes}
use Rattle.cli_words.specs.Command.{required, text_option}
use Rattle.cli_words.proofs.command.with_certificate_options.Goals as goal

pub returns : goal.returns
returns c =
    let old = c.args.command in
    c.with_option.ensures old _ (required (text_option (codes "certificate"))) c.with_problem_options-made.ensures c.required_option-certificate.ensures.rule c.required_option-certificate.ensures.local
