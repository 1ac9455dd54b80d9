use Rattle.std.proofs.Common.{ℕ, List, Option, subst}
use Rattle.std.specs.Borrow.{Bor}
use Rattle.std.specs.Prelude.{Err, None, option_map}
use Rattle.run_laws.specs.Storing.{named_file}
use Rattle.cli.specs.Ends.{refusal_by}
use Rattle.cli.proofs.StoringLemmas.{Stores, lent_stored, stores_both, stores_stopped}
use Rattle.cli.proofs.commands.list.store_listed.Goals as goal

pub returns : goal.returns
returns g c =
    let text = option_map (λ t. t.items) c.args.listed.now.grouping in
    let first = lent_stored g.H.FileStore.contents g.H.FileStore.history g.H.FileStore.stored (λ t. t.items) c.out_in-out.result c.as_ref.result _ _ _ None c.as_ref.ensures.value c.in_ok-store_named.ensures in
    stores_both g.H.FileStore.contents g.H.FileStore.history g.H.FileStore.stored (named_file (option_map (λ w. w.out) c.args.words.stored) text) (named_file c.args.words.groupings (option_map (λ t. t.items) c.args.listed.now.table)) _ _ _ (refusal_by c.store_named-2.result)
    (subst (λ (name : Option (Bor (List ℕ))). Stores g.H.FileStore.contents g.H.FileStore.history g.H.FileStore.stored (named_file name text) c.args.file_store.now c.store_named.new.file_store None) c.out_in-out.ensures first)
    (lent_stored g.H.FileStore.contents g.H.FileStore.history g.H.FileStore.stored (λ t. t.items) c.args.words.groupings c.as_ref-2.result _ _ _ (refusal_by c.store_named-2.result) c.as_ref-2.ensures.value c.store_named-2.ensures)

pub returns-in_err-store_named : goal.returns-in_err-store_named
returns-in_err-store_named g c =
    let text = option_map (λ t. t.items) c.args.listed.now.grouping in
    let refusal = c.in_err-store_named.field-0.0 in
    let first = lent_stored g.H.FileStore.contents g.H.FileStore.history g.H.FileStore.stored (λ t. t.items) c.out_in-out.result c.as_ref.result _ _ _ (refusal_by (Err refusal)) c.as_ref.ensures.value c.in_err-store_named.ensures in
    stores_stopped g.H.FileStore.contents g.H.FileStore.history g.H.FileStore.stored (named_file (option_map (λ w. w.out) c.args.words.stored) text) (named_file c.args.words.groupings (option_map (λ t. t.items) c.args.listed.now.table)) _ _ refusal c.from_residual.result c.from_residual.ensures.1
    (subst (λ (name : Option (Bor (List ℕ))). Stores g.H.FileStore.contents g.H.FileStore.history g.H.FileStore.stored (named_file name text) c.args.file_store.now c.store_named.new.file_store (refusal_by (Err refusal))) c.out_in-out.ensures first)
