use Rattle.std.proofs.Common.{◌≡◌, Some, None, rules}
use Rattle.grouping_report.specs.declared.outcome.Outcome.TheVariants.{Open}
use Rattle.json_report.proofs.Adding.{part, last}
use Rattle.json_report.proofs.report.push_outcome.Goals as goal

pub returns-in-Best : goal.returns-in-Best
returns-in-Best c = rw c.in-Best.is c.push_report-in-Best.ensures

pub returns-in_ok-push_answer-in-Impossible : goal.returns-in_ok-push_answer-in-Impossible
returns-in_ok-push_answer-in-Impossible c =
    rw c.in-Impossible.is
    (part _ c.in_ok-push_answer-in-Impossible.ensures (last _ _ c.push_head.ensures)).adds

pub returns-in-Open-None-default : goal.returns-in-Open-None-default
returns-in-Open-None-default c =
    let is : c.args.outcome.now ≡ Open None c.in-Open-None-default.steps = search rules in
    rw is c.push_open.ensures

pub returns-in-Open-Some-default : goal.returns-in-Open-Some-default
returns-in-Open-Some-default c =
    let is : c.args.outcome.now ≡ Open (Some c.in-Open-Some-default.grouping) c.in-Open-Some-default.steps = search rules in
    rw is c.push_found.ensures
