use Rattle.std.proofs.Common.{MatchResult, rules, subst, sym}
use Rattle.clap.specs.Words.{found_of, rows_of}
use Rattle.cli_words.specs.Command.{subcommands}
use Rattle.cli_words.specs.Words.{IsOptionsFault, SaysOptions}
use Rattle.cli_words.proofs.KeyLemmas.{no_key}
use Rattle.cli_words.proofs.words.command_words_with.Goals as goal

pub unreachable-requires : goal.unreachable-requires
unreachable-requires c =
    let e = c.in_default in
    no_key (λ s. s.name) _ subcommands c.args.name.now
    (e.not-solve, (e.not-check, (e.not-judge, (e.not-list, (e.not-size, (c.requires.other, (e.not-share, (e.not-piece, (e.not-worker, tt))))))))) c.requires.values

pub returns-in_err-list_words-in-list : goal.returns-in_err-list_words-in-list
returns-in_err-list_words-in-list c =
    let rows = rows_of (found_of c.args.found.now) in
    subst (λ t. MatchResult c.from_residual.result (SaysOptions (t, rows)) (IsOptionsFault (t, rows))) (sym c.in-list.is) (search rules)
