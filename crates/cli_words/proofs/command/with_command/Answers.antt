use Rattle.std.proofs.Common.{subst}
use Rattle.std.proofs.lemmas.Result.{IfOk-weaker}
use Rattle.std.specs.Prelude.{◌≡◌, IfOk}
use Rattle.clap.specs.Words.{app_of}
use Rattle.cli_words.specs.Command.{HasShape}
use Rattle.cli_words.proofs.CommandLemmas.{has_one_subcommand_more}
use Rattle.cli_words.proofs.command.with_command.Goals as goal

pub returns : goal.returns
returns c = λ a s before like.
    IfOk-weaker c.subcommand.result _ _
    (λ new adds. has_one_subcommand_more c.in_ok-program.field-0 c.in_ok-command.command new a s (subst (λ r. IfOk r (λ p. app_of p ≡ a)) c.in_ok-program.was before)
    (subst (λ r. IfOk r (λ x. HasShape x s)) c.in_ok-command.was like) adds) c.subcommand.ensures
