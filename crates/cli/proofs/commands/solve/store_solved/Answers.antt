use Rattle.std.proofs.Common.{◌++◌, List}
use Rattle.std.specs.Prelude.{Err, None, option_map}
use Rattle.cli_words.specs.declared.words.SolveWords.{SolveWords}
use Rattle.cli_file_stores.specs.Files.{NamedFile}
use Rattle.cli_reports.specs.declared.solver_report.Solved.{Solved}
use Rattle.run_laws.specs.Storing.{named_file}
use Rattle.cli.specs.Ends.{refusal_by}
use Rattle.cli.proofs.StoringLemmas.{lent_stored, stores_both, stores_stopped}
use Rattle.cli.proofs.commands.solve.store_solved.Goals as goal

-- the files in turn
abbrev certificates : SolveWords → Solved → List NamedFile
certificates words solved = named_file words.certificate (option_map (λ t. t.items) solved.certificate)

abbrev groupings : SolveWords → Solved → List NamedFile
groupings words solved = named_file words.out (option_map (λ t. t.items) solved.grouping)

abbrev others : SolveWords → Solved → List NamedFile
others words solved = named_file words.table (option_map (λ t. t.items) solved.table) ++ named_file words.events (option_map (λ t. t.items) solved.events)

pub returns : goal.returns
returns g c =
    let files = groupings c.args.words c.args.solved.now in
    let tables = others c.args.words c.args.solved.now in
    stores_both g.H.FileStore.contents g.H.FileStore.history g.H.FileStore.stored (certificates c.args.words c.args.solved.now) (files ++ tables) _ _ _ (refusal_by c.store_table_and_events.result)
    (lent_stored g.H.FileStore.contents g.H.FileStore.history g.H.FileStore.stored (λ t. t.items) c.args.words.certificate c.as_ref.result _ _ _ None c.as_ref.ensures.value c.in_ok-store_named.ensures)
    (stores_both g.H.FileStore.contents g.H.FileStore.history g.H.FileStore.stored files tables _ _ _ (refusal_by c.store_table_and_events.result)
    (lent_stored g.H.FileStore.contents g.H.FileStore.history g.H.FileStore.stored (λ t. t.items) c.args.words.out c.as_ref-2.result _ _ _ None c.as_ref-2.ensures.value c.in_ok-store_named-2.ensures) c.store_table_and_events.ensures)

pub returns-in_err-store_named : goal.returns-in_err-store_named
returns-in_err-store_named g c =
    stores_stopped g.H.FileStore.contents g.H.FileStore.history g.H.FileStore.stored (certificates c.args.words c.args.solved.now) (groupings c.args.words c.args.solved.now ++ others c.args.words c.args.solved.now) _ _ c.in_err-store_named.field-0.0 c.from_residual.result c.from_residual.ensures.1
    (lent_stored g.H.FileStore.contents g.H.FileStore.history g.H.FileStore.stored (λ t. t.items) c.args.words.certificate c.as_ref.result _ _ _ (refusal_by (Err c.in_err-store_named.field-0.0)) c.as_ref.ensures.value c.in_err-store_named.ensures)

pub returns-in_err-store_named-2 : goal.returns-in_err-store_named-2
returns-in_err-store_named-2 g c =
    let end = c.from_residual-in_err-store_named-2 in
    stores_both g.H.FileStore.contents g.H.FileStore.history g.H.FileStore.stored (certificates c.args.words c.args.solved.now) (groupings c.args.words c.args.solved.now ++ others c.args.words c.args.solved.now) _ _ _ (refusal_by end.result)
    (lent_stored g.H.FileStore.contents g.H.FileStore.history g.H.FileStore.stored (λ t. t.items) c.args.words.certificate c.as_ref.result _ _ _ None c.as_ref.ensures.value c.in_ok-store_named.ensures)
    (stores_stopped g.H.FileStore.contents g.H.FileStore.history g.H.FileStore.stored (groupings c.args.words c.args.solved.now) (others c.args.words c.args.solved.now) _ _ c.in_err-store_named-2.field-0.0 end.result end.ensures.1
    (lent_stored g.H.FileStore.contents g.H.FileStore.history g.H.FileStore.stored (λ t. t.items) c.args.words.out c.as_ref-2.result _ _ _ (refusal_by (Err c.in_err-store_named-2.field-0.0)) c.as_ref-2.ensures.value c.in_err-store_named-2.ensures))
