use Rattle.std.proofs.Common.{Err, refl, sym, ap, ◌∙◌, subst}
use Rattle.certificate_lines.specs.ItemReadings.{Unread}
use Rattle.certificate_checker.specs.Feeding.{stream_of, fed_by, IsRestRead}
use Rattle.state_judge.specs.declared.fault.CheckFault.TheVariants.{Text}
use Rattle.certificate_checker.specs.declared.verdict.Verdict.TheVariants.{No}
use Rattle.certificate_checker.proofs.Answering.{lines_found, text_found, rest_within}
use Rattle.certificate_checker.proofs.checking.verdict_after.Goals as goal

pub returns-in-Err-Budget : goal.returns-in-Err-Budget
returns-in-Err-Budget g c all sees =
    let r = c.in-Err-Budget.ensures all sees in (
      r.0,
      λ p text start reading line fed found.
          let now = fed_by (stream_of g.S.ItemSource.left g.S.ItemSource.given c.args.feed.now c.args.from.now) all in (
            lines_found p text start.limit start now reading line fed (subst (λ s. IsRestRead now (Err s)) c.in-Err-Budget.field-0-is r.1) refl,
            tt,
          ),
    )

pub returns-in-Ok : goal.returns-in-Ok
returns-in-Ok g c all sees =
    let r = c.in-Ok.ensures all sees in (
      r.0,
      λ p text start reading line fed sure.
          let now = fed_by (stream_of g.S.ItemSource.left g.S.ItemSource.given c.args.feed.now c.args.from.now) all in (
            sure (sym (ap (λ (z : Unread). z.fault) reading) ∙ (sym fed.fault ∙ r.1.0)),
            rest_within p text start.limit start now reading line fed r.1.1 refl c.args.found,
          ),
    )

pub returns-in-Err-Text : goal.returns-in-Err-Text
returns-in-Err-Text g c all sees =
    let r = c.in-Err-Text.ensures all sees in (
      r.0,
      λ p text start reading line fed found.
          let now = fed_by (stream_of g.S.ItemSource.left g.S.ItemSource.given c.args.feed.now c.args.from.now) all in
          let met = subst (λ s. IsRestRead now (Err s)) c.in-Err-Text.field-0-is r.1 in (
            text_found p text start.limit c.in-Err-Text.fault (sym (ap (λ (z : Unread). z.fault) reading) ∙ (sym fed.fault ∙ met.0)),
            rest_within p text start.limit start now reading line fed met.1 refl (No (Text c.in-Err-Text.fault) c.in-Err-Text.fault.line),
          ),
    )
