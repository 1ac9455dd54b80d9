use Rattle.std.proofs.Common.{◌≡◌, ◌++◌, drop}
use Rattle.named_text.specs.NamedText.{shown}
use Rattle.named_text.proofs.names.push_shown.Given as goal

abbrev pub invariant-loop-byte : goal.invariant-loop-byte
invariant-loop-byte l = l.out.items ++ shown (drop l.byte-index l.name) ≡ l.fn.out.items ++ shown l.name
