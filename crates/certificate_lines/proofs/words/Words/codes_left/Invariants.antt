use Rattle.std.proofs.Common.{◌≡◌, length}
use Rattle.certificate_lines.specs.Words.{code}
use Rattle.certificate_lines.specs.Lines.{each}
use Rattle.certificate_lines.proofs.EachLaws.{collect}
use Rattle.certificate_lines.proofs.words.Words.codes_left.Given as goal

abbrev pub invariant-loop-word : goal.invariant-loop-word
invariant-loop-word l = collect code l.codes.items l.self ≡ each code l.fn.self

abbrev pub decreases-loop-word : goal.decreases-loop-word
decreases-loop-word l = length l.self
