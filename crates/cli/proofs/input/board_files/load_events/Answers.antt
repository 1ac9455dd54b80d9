use Rattle.std.proofs.Common.{refl, length, map}
use Rattle.share_board.specs.Events.{event_of}
use Rattle.run_laws.specs.BoardSteps.{format_of, events_in}
use Rattle.run_laws.proofs.RunLemmas.{read_file}
use Rattle.cli.proofs.input.board_files.load_events.Goals as goal

pub returns-clause-steps : goal.returns-clause-steps
returns-clause-steps g c =
    let files = g.H.FileStore.contents c.args.file_store.now in
    let before = g.H.FileStore.history c.args.file_store.now in
    let after = g.H.FileStore.history c.load.new.file_store in
    read_file (λ v. map event_of v.items) c.events_from.result files c.args.name.now c.in_ok-text.text.items c.in_ok-text.text.items
    (events_in (format_of c.args.words) (length c.args.problem.now.counties)) before after c.in_ok-text.ensures.steps refl (c.events_from.ensures after)
