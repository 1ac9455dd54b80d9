use Rattle.std.proofs.lemmas.Result.{IfOk-weaker}
use Rattle.json_report.proofs.Adding.{within}
use Rattle.json_report.proofs.report.greater_json.Goals as goal

pub returns : goal.returns
returns c =
    IfOk-weaker c.finish.result _ _
    (λ v told. told _ (within c.in_ok-out.ensures.1 c.in_ok-push_greater.ensures.1)) c.finish.ensures
