use Rattle.certificate_text.proofs.PartsTested.{plain_head, head_tested}
use Rattle.certificate_text.proofs.fitting.head_fits.Goals as goal

pub returns-in-None : goal.returns-in-None
returns-in-None c format = rw c.in-None.is (plain_head format)

pub returns-in-Some : goal.returns-in-Some
returns-in-Some c format = rw c.in-Some.is (head_tested format c.in-Some.tolerance c.is_in_range.result c.is_in_range.ensures)
