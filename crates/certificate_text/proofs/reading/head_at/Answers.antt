use Rattle.certificate_text.proofs.HeadLaws.{bare_read, tolerance_read}
use Rattle.certificate_text.proofs.reading.head_at.Goals as goal

pub returns-in-One-clause-read : goal.returns-in-One-clause-read
returns-in-One-clause-read c = bare_read c.args.cursor.now c.head.new.self c.in_ok-format.format c.in_ok-format.version c.in_ok-format.ensures c.in-One.is

pub returns-in_ok-tolerance-in-Two-clause-read : goal.returns-in_ok-tolerance-in-Two-clause-read
returns-in_ok-tolerance-in-Two-clause-read c =
    tolerance_read c.args.cursor.now c.head.new.self c.in_ok-format.format c.in_ok-format.version c.in_ok-format.ensures c.in-Two.is c.in_ok-tolerance-in-Two.tolerance c.tolerance.new.self c.in_ok-tolerance-in-Two.ensures
