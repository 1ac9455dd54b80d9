use Rattle.std.specs.Prelude.{Err, None, option_map}
use Rattle.run_laws.specs.Storing.{named_file}
use Rattle.cli.specs.Ends.{refusal_by}
use Rattle.cli.proofs.StoringLemmas.{lent_stored, stores_both, stores_stopped}
use Rattle.cli.proofs.commands.solve.store_table_and_events.Goals as goal

pub returns : goal.returns
returns g c =
    stores_both g.H.FileStore.contents g.H.FileStore.history g.H.FileStore.stored (named_file c.args.words.table (option_map (λ t. t.items) c.args.solved.now.table)) (named_file c.args.words.events (option_map (λ t. t.items) c.args.solved.now.events)) _ _ _ (refusal_by c.store_named-2.result)
    (lent_stored g.H.FileStore.contents g.H.FileStore.history g.H.FileStore.stored (λ t. t.items) c.args.words.table c.as_ref.result _ _ _ None c.as_ref.ensures.value c.in_ok-store_named.ensures)
    (lent_stored g.H.FileStore.contents g.H.FileStore.history g.H.FileStore.stored (λ t. t.items) c.args.words.events c.as_ref-2.result _ _ _ (refusal_by c.store_named-2.result) c.as_ref-2.ensures.value c.store_named-2.ensures)

pub returns-in_err-store_named : goal.returns-in_err-store_named
returns-in_err-store_named g c =
    stores_stopped g.H.FileStore.contents g.H.FileStore.history g.H.FileStore.stored (named_file c.args.words.table (option_map (λ t. t.items) c.args.solved.now.table)) (named_file c.args.words.events (option_map (λ t. t.items) c.args.solved.now.events)) _ _ c.in_err-store_named.field-0.0 c.from_residual.result c.from_residual.ensures.1
    (lent_stored g.H.FileStore.contents g.H.FileStore.history g.H.FileStore.stored (λ t. t.items) c.args.words.table c.as_ref.result _ _ _ (refusal_by (Err c.in_err-store_named.field-0.0)) c.as_ref.ensures.value c.in_err-store_named.ensures)
