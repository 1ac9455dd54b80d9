use Rattle.std.proofs.Common.{Some, None, Ok, Err, refl, sym, ◌∙◌, ap, subst}
use Rattle.county_problem.specs.ProblemValue.{problem_of}
use Rattle.certificate_lines.specs.ItemsLeft.{reading_by}
use Rattle.certificate_checker.specs.Feeding.{FeedValue, stream_of, fed_by, IsFed}
use Rattle.state_judge.specs.declared.fault.CheckFault.TheVariants.{Text}
use Rattle.certificate_checker.specs.declared.feed.Halt.TheVariants as stop
use Rattle.certificate_checker.specs.declared.verdict.Verdict.TheVariants.{Best, Impossible, No, Budget}
use Rattle.certificate_checker.proofs.Answering.{best_found, impossible_found, fault_found, budget_found, unspelled_found, text_found, fault_within, begun, found_answer}
use Rattle.certificate_checker.proofs.checking.check_source.Goals as goal

pub returns-in-Ok-Some : goal.returns-in-Ok-Some
returns-in-Ok-Some g c =
    found_answer (problem_of c.args.problem.now) (begun (g.S.ItemSource.left c.args.source) (g.S.ItemSource.given c.args.from.now) c.new.result.limit c.new.result.used) (stream_of g.S.ItemSource.left g.S.ItemSource.given c.judge_certificate.new.feed c.judge_certificate.new.from) (g.S.ItemSource.given c.verdict_after.new.from) c.args.budget (Ok c.in-Ok-Some.field-0) (Ok (Some c.in-Ok-Some.target)) (Best c.in-Ok-Some.target) c.verdict_after.result refl c.new.ensures.limit (ap Ok c.in-Ok-Some.field-0-is) (λ a b fed. fed) (λ text limit. best_found (problem_of c.args.problem.now) text limit c.in-Ok-Some.target) c.in-Ok-Some.ensures.fed c.in-Ok-Some.ensures.judged c.verdict_after.ensures

pub returns-in-Ok-None : goal.returns-in-Ok-None
returns-in-Ok-None g c =
    found_answer (problem_of c.args.problem.now) (begun (g.S.ItemSource.left c.args.source) (g.S.ItemSource.given c.args.from.now) c.new.result.limit c.new.result.used) (stream_of g.S.ItemSource.left g.S.ItemSource.given c.judge_certificate.new.feed c.judge_certificate.new.from) (g.S.ItemSource.given c.verdict_after-in-Ok-None.new.from) c.args.budget (Ok c.in-Ok-None.field-0) (Ok None) Impossible c.verdict_after-in-Ok-None.result refl c.new.ensures.limit (ap Ok c.in-Ok-None.field-0-is) (λ a b fed. fed) (λ text limit. impossible_found (problem_of c.args.problem.now) text limit) c.in-Ok-None.ensures.fed c.in-Ok-None.ensures.judged c.verdict_after-in-Ok-None.ensures

pub returns-in-Err-Fault : goal.returns-in-Err-Fault
returns-in-Err-Fault g c =
    found_answer (problem_of c.args.problem.now) (begun (g.S.ItemSource.left c.args.source) (g.S.ItemSource.given c.args.from.now) c.new.result.limit c.new.result.used) (stream_of g.S.ItemSource.left g.S.ItemSource.given c.judge_certificate.new.feed c.judge_certificate.new.from) (g.S.ItemSource.given c.verdict_after-in-Err-Fault.new.from) c.args.budget (Err c.in-Err-Fault.field-0) (Err (stop.Fault c.in-Err-Fault.fault c.in-Err-Fault.at)) (No c.in-Err-Fault.fault c.in-Err-Fault.at) c.verdict_after-in-Err-Fault.result refl c.new.ensures.limit (ap Err c.in-Err-Fault.field-0-is) (λ a b fed. fed) (λ text limit. fault_found (problem_of c.args.problem.now) text limit c.in-Err-Fault.fault c.in-Err-Fault.at) c.in-Err-Fault.ensures.fed c.in-Err-Fault.ensures.judged c.verdict_after-in-Err-Fault.ensures

pub returns-in-Err-Budget : goal.returns-in-Err-Budget
returns-in-Err-Budget g c =
    found_answer (problem_of c.args.problem.now) (begun (g.S.ItemSource.left c.args.source) (g.S.ItemSource.given c.args.from.now) c.new.result.limit c.new.result.used) (stream_of g.S.ItemSource.left g.S.ItemSource.given c.judge_certificate.new.feed c.judge_certificate.new.from) (g.S.ItemSource.given c.verdict_after-in-Err-Budget.new.from) c.args.budget (Err c.in-Err-Budget.field-0) (Err stop.Budget) Budget c.verdict_after-in-Err-Budget.result refl c.new.ensures.limit (ap Err c.in-Err-Budget.field-0-is) (λ a b fed. fed) (λ text limit. budget_found (problem_of c.args.problem.now) text limit) c.in-Err-Budget.ensures.fed c.in-Err-Budget.ensures.judged c.verdict_after-in-Err-Budget.ensures

pub returns-in-Err-Unspelled : goal.returns-in-Err-Unspelled
returns-in-Err-Unspelled g c =
    found_answer (problem_of c.args.problem.now) (begun (g.S.ItemSource.left c.args.source) (g.S.ItemSource.given c.args.from.now) c.new.result.limit c.new.result.used) (stream_of g.S.ItemSource.left g.S.ItemSource.given c.judge_certificate.new.feed c.judge_certificate.new.from) (g.S.ItemSource.given c.verdict_after-in-Err-Unspelled.new.from) c.args.budget (Err c.in-Err-Unspelled.field-0) (Err stop.Unspelled) Budget c.verdict_after-in-Err-Unspelled.result refl c.new.ensures.limit (ap Err c.in-Err-Unspelled.field-0-is) (λ a b fed. fed) (λ text limit. unspelled_found (problem_of c.args.problem.now) text limit) c.in-Err-Unspelled.ensures.fed c.in-Err-Unspelled.ensures.judged c.verdict_after-in-Err-Unspelled.ensures

pub returns-in-Err-Text : goal.returns-in-Err-Text
returns-in-Err-Text g c all sees =
    let j = c.in-Err-Text.ensures.fed all sees in (
      j.0,
      λ text reading.
          let start : FeedValue = record { reading = reading_by (g.S.ItemSource.left c.args.source) (g.S.ItemSource.given c.args.from.now) all; line = 0; limit = c.new.result.limit; used = c.new.result.used } in
          let met = subst (λ r. IsFed {X = Unit {0}} start (Err r) (fed_by (stream_of g.S.ItemSource.left g.S.ItemSource.given c.judge_certificate.new.feed c.judge_certificate.new.from) all)) c.in-Err-Text.field-0-is j.1 in (
            text_found (problem_of c.args.problem.now) text c.args.budget c.in-Err-Text.fault (sym (ap (λ z. z.fault) reading) ∙ met.0),
            fault_within (problem_of c.args.problem.now) text c.args.budget start c.in-Err-Text.fault reading c.new.ensures.used met c.new.ensures.limit (No (Text c.in-Err-Text.fault) c.in-Err-Text.fault.line),
          ),
    )

pub returns : goal.returns
returns g c all sees = ((c.in-Err-Refused.ensures.fed all sees).0, λ text reading. tt)
