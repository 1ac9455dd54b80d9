use Rattle.certificate_lines.proofs.WordLaws.{counted_right, counted_wrong}
use Rattle.certificate_lines.proofs.words.Words.counted.Goals as goal

pub returns-then-count-greatest : goal.returns-then-count-greatest
returns-then-count-greatest c = counted_right c.args.least c.args.greatest c.count-count.result c.args.self.now c.count-count.ensures c.if-least-count.true c.if-count-greatest.true

pub returns-else-least-count : goal.returns-else-least-count
returns-else-least-count c = counted_wrong c.args.least c.args.greatest c.count-count.result c.args.self.now c.count-count.ensures c.else-least-count.either
