use Rattle.certificate_lines.specs.Words.{code}
use Rattle.certificate_lines.proofs.EachLaws.{collected}
use Rattle.certificate_lines.proofs.words.Words.codes_left.Goals as goal

pub loop-word-init : goal.loop-word-init
loop-word-init c = rw c.new-codes.ensures.items (collected code _)
