use Rattle.std.proofs.Common.{◌≡◌, List, ap, sym, ◌∙◌, subst}
use Rattle.std.specs.Prelude.{OnOk}
use Rattle.cli_file_stores.specs.Files.{NamedFile, with_file}
use Rattle.cli_file_stores.specs.Memory.{MemoryValue, files_of}
use Rattle.cli_file_stores.proofs.MemoryLemmas.{told_put}
use Rattle.cli_file_stores.proofs.memory.MemoryFileStoreFileStore.store.Goals as goal

pub returns-clause-put : goal.returns-clause-put
returns-clause-put c =
    let stored : files_of c.self.inside.stored.items ≡ c.put-answer.new.self.stored = ap (λ (v : MemoryValue). v.stored) c.self.view_is in
    let files : files_of c.self.inside.files.items ≡ c.put-answer.new.self.files = ap (λ (v : MemoryValue). v.files) c.self.view_is in
    let put = subst (λ (list : List NamedFile). OnOk c.put-answer.result (list ≡ with_file c.args.self.now.stored c.args.name.now c.args.bytes.now)) (sym stored) c.put-answer.ensures.put in
    told_put c.put-answer.result c.args.self.now.stored c.args.self.now.files (files_of c.self.inside.stored.items) (files_of c.self.inside.files.items) c.args.name.now c.args.bytes.now
    (files ∙ c.put-answer.ensures.files) put
