use Rattle.certificate_lines.specs.Words.{pair}
use Rattle.certificate_lines.proofs.EachLaws.{collected}
use Rattle.certificate_lines.proofs.words.Words.weights.Goals as goal

pub loop-word-init : goal.loop-word-init
loop-word-init c = rw c.new-weights.ensures.items (collected pair _)
