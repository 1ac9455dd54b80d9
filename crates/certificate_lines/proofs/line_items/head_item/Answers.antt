use Rattle.std.proofs.Common.{◌∙◌, ◌++◌, List, reverse, ap}
use Rattle.certificate_lines.specs.declared.item.Wanted.{Wanted}
use Rattle.certificate_lines.proofs.ReadLaws.{stacked_one}
use Rattle.certificate_lines.proofs.line_items.head_item.Goals as goal

pub returns-clause-stacked : goal.returns-clause-stacked
returns-clause-stacked c =
    stacked_one c.args.stack.now.items c.push.new.self.items c.after_head.result c.push.ensures.items
    ∙ ap (λ (l : List Wanted). l ++ reverse c.args.stack.now.items) c.after_head.ensures
