use Rattle.std.proofs.Common.{List, All, ◌≡◌, ◌∙◌, Ok, ap, subst, arith, take_all}
use Rattle.std.proofs.lemmas.Grind.{common_steps}
use Rattle.std.proofs.lemmas.List.Elements.{All-more}
use Rattle.county_codes.specs.declared.group.Group.{Group}
use Rattle.grouping_reader.specs.GroupingLines.{grouping_list}
use Rattle.grouping_report.specs.GroupingText.{grouping_text, IsReadable}
use Rattle.grouping_report.proofs.TextBack.{IsSpelled, text_back}
use Rattle.grouping_report.proofs.grouping.grouping_text.Goals as goal

pub loop-group-preserved : goal.loop-group-preserved
loop-group-preserved c =
    let groups = c.deref-group-items.result.now in
    record {
      text = grind (arith, common_steps);
      spelled = All-more IsSpelled groups c.loop-group.group-index c.group-item.result c.loop-group-test.true c.loop-group.invariant.spelled
          (subst IsSpelled c.group-item.is (record { seats = c.in_ok-push_group.ensures.seats; codes = c.in_ok-push_group.ensures.codes }));
    }

pub returns-clause-back : goal.returns-clause-back
returns-clause-back c =
    let groups = c.deref-group-items.result.now in
    let spelled : All IsSpelled groups = subst (λ (g : List Group). All IsSpelled g) (take_all c.loop-group.group-index groups (omega arith)) c.loop-group.invariant.spelled in
    let text : c.loop-group.out.items ≡ grouping_text groups = grind (arith, common_steps, c.loop-group.invariant.text) in
    subst (λ (g : List Group). IsReadable g → grouping_list c.loop-group.out.items ≡ Ok g) c.deref-group-items.ensures.value
    (λ readable. ap grouping_list text ∙ text_back groups spelled readable)
