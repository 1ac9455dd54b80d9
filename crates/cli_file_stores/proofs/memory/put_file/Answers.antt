use Rattle.std.proofs.Common.{refl, rules}
use Rattle.cli_file_stores.proofs.MemoryLemmas.{put_at}
use Rattle.cli_file_stores.proofs.memory.put_file.Goals as goal

pub returns-in-Some-clause-put : goal.returns-in-Some-clause-put
returns-in-Some-clause-put c =
    put_at c.args.files.now.items c.in-Some.place (record { name = c.in_ok-name_copy.name_copy; bytes = c.args.bytes }) c.args.name.now c.args.bytes.items (search rules) refl (search rules)
