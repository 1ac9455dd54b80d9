use Rattle.std.proofs.Common.{subst}
use Rattle.std.specs.Prelude.{IfOk}
use Rattle.cli_words.specs.Command.{HasMore}
use Rattle.cli_words.proofs.CommandLemmas.{one_more_if_ok}
use Rattle.cli_words.proofs.command.with_option.Goals as goal

pub returns : goal.returns
returns c = λ old options r more is local.
    one_more_if_ok old c.in_ok-command.command c.arg.result c.args.option options r (subst (λ m. IfOk m (HasMore old options)) c.in_ok-command.was more) c.arg.ensures is local
