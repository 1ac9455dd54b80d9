use Rattle.std.proofs.Common.{inl, sym, subst}
use Rattle.std.specs.Option.{IsSomeAnd}
use Rattle.clap.specs.Walk.{texts}
use Rattle.cli_words.specs.Options.{HasCommand}
use Rattle.cli_words.proofs.CountygroupsLemmas.{ends_by, has_command}
use Rattle.cli_words.proofs.words.parse.Goals as goal

pub command_in-requires : goal.command_in-requires
command_in-requires c = subst (λ o. IsSomeAnd o HasCommand) (sym c.in-Ok.ensures.found) (has_command (texts c.args.words.now) c.in-Ok.ensures.faults)

pub returns-clause-ends : goal.returns-clause-ends
returns-clause-ends c = inl (ends_by (texts c.args.words.now) _ c.of_error.result c.in-Err.ensures.faults c.of_error.ensures)
