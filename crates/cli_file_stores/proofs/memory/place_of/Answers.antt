use Rattle.std.proofs.Common.{◌≡◌, ◌∙◌, sym, arith, rules, true, false, string_bytes}
use Rattle.std.specs.Str.{bytes_eq}
use Rattle.cli_file_stores.proofs.MemoryLemmas.{place_passed, place_found}
use Rattle.cli_file_stores.proofs.memory.place_of.Goals as goal

pub returns-then-eq : goal.returns-then-eq
returns-then-eq c =
    let same : bytes_eq (string_bytes c.index-files-i.result.name) c.args.name.now ≡ true = search rules in
    place_found c.args.files.now c.loop-i.i c.index-files-i.result c.args.name.now (omega arith) c.index-files-i.is same c.loop-i.invariant

pub loop-i-preserved : goal.loop-i-preserved
loop-i-preserved c bytes =
    let other : bytes_eq (string_bytes c.index-files-i.result.name) c.args.name.now ≡ false = search rules in
    sym (place_passed c.args.files.now c.loop-i.i c.index-files-i.result c.args.name.now (omega arith) c.index-files-i.is other bytes) ∙ c.loop-i.invariant bytes
