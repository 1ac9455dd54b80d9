use Rattle.std.proofs.lemmas.Result.{IfOk-weaker}
use Rattle.cli_record.proofs.report.record_of_run.Goals as goal

pub returns : goal.returns
returns c = IfOk-weaker c.record_text.result _ _ (λ v is. (c.in_ok-said.said, c.in_ok-said.ensures, is)) c.record_text.ensures
