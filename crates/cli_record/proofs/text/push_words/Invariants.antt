use Rattle.std.proofs.Common.{◌≡◌, ◌++◌, drop}
use Rattle.std.specs.List.{flat_map}
use Rattle.std.specs.String.{string_bytes}
use Rattle.cli_record.specs.Record.{word_line}
use Rattle.cli_record.proofs.text.push_words.Given as goal

abbrev pub invariant-loop-word : goal.invariant-loop-word
invariant-loop-word l = l.out.items ++ flat_map (λ w. word_line (string_bytes w)) (drop l.word-index l.words) ≡ l.fn.out.items ++ flat_map (λ w. word_line (string_bytes w)) l.words
