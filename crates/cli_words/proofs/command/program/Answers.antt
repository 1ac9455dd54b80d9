use Rattle.std.proofs.Common.{◌++◌, codes}
use Rattle.cli_words.specs.Command.{audit_options, census_options, check_options, countygroups, judge_options, list_options, piece_options, share_options, size_options, solve_options, subcommand, with_counties, worker_options}
use Rattle.cli_words.proofs.command.program.Goals as goal

pub returns : goal.returns
unfolding countygroups
returns c =
    let solve = c.with_command-program.ensures _ (with_counties (codes "solve") solve_options) c.program_alone.ensures c.solve_command.ensures in
    let check = c.with_command-program-2.ensures _ (with_counties (codes "check") check_options) solve c.check_command.ensures in
    let judge = c.with_command-program-3.ensures _ (with_counties (codes "judge") judge_options) check c.judge_command.ensures in
    let list = c.with_command-program-4.ensures _ (with_counties (codes "list") list_options) judge c.list_command.ensures in
    let size = c.with_command-program-5.ensures _ (with_counties (codes "size") size_options) list c.size_command.ensures in
    let audit = c.with_command-program-6.ensures _ (subcommand (codes "audit") (census_options ++ audit_options)) size c.audit_command.ensures in
    let share = c.with_command-program-7.ensures _ (with_counties (codes "share") share_options) audit c.share_command.ensures in
    let piece = c.with_command-program-8.ensures _ (with_counties (codes "piece") piece_options) share c.piece_command.ensures in
    c.with_command.ensures _ (with_counties (codes "worker") worker_options) piece c.worker_command.ensures
