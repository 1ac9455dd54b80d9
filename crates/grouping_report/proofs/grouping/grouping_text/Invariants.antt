use Rattle.std.proofs.Common.{◌≡◌, ◌++◌, All, take, drop}
use Rattle.grouping_report.specs.GroupingText.{grouping_text}
use Rattle.grouping_report.proofs.TextBack.{IsSpelled}
use Rattle.grouping_report.proofs.grouping.grouping_text.Given as goal

abbrev pub invariant-loop-group : goal.invariant-loop-group
invariant-loop-group l = record {
  text : l.out.items ++ grouping_text (drop l.group-index l.group-items) ≡ grouping_text l.group-items;
  spelled : All IsSpelled (take l.group-index l.group-items);
}
