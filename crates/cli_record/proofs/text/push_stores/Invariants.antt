use Rattle.std.proofs.Common.{◌≡◌, ◌++◌, drop}
use Rattle.std.specs.List.{flat_map}
use Rattle.cli_record.specs.Record.{stored_line}
use Rattle.cli_record.proofs.text.push_stores.Given as goal

abbrev pub invariant-loop-stored : goal.invariant-loop-stored
invariant-loop-stored l = l.out.items ++ flat_map stored_line (drop l.stored-index l.stores) ≡ l.fn.out.items ++ flat_map stored_line l.stores
