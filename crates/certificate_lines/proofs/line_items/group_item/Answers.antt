use Rattle.std.proofs.Common.{◌≡◌, ◌∙◌, ◌-◌, ◌<◌, ◌++◌, List, ℕ, reverse, ap, sym, arith}
use Rattle.certificate_lines.specs.Items.{groups_wanted}
use Rattle.certificate_lines.specs.declared.item.Wanted.{Wanted}
use Rattle.certificate_lines.specs.declared.item.Wanted.TheVariants as want
use Rattle.certificate_lines.proofs.ReadLaws.{stacked_one, groups_more}
use Rattle.certificate_lines.proofs.line_items.group_item.Goals.{then-left-gt1, else-left-gt1}
use Rattle.certificate_lines.proofs.line_items.group_item.Goals as goal

pub returns-clause-stacked : goal.returns-clause-stacked
returns-clause-stacked c =
    let left = c.args.left in
    let below = c.args.stack.now.items in
    elim c.if-left-gt1.branch [
      | then-left-gt1 w ↦
          let some : 0 < left - 1 = omega arith in
          rw w.stack-is
          (stacked_one below w.push.new.self.items (want.Groups (left - 1)) w.push.ensures.items
          ∙ ap (λ (l : List Wanted). l ++ reverse below) (sym (groups_more (left - 1) some)))
      | else-left-gt1 w ↦
          let none : left - 1 ≡ 0 = omega arith in
          rw w.stack-is (ap (λ (n : ℕ). groups_wanted n ++ reverse below) (sym none))
    ]
