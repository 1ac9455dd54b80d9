use Rattle.std.proofs.Common.{◌≡◌, ◌∙◌, ◌+◌, ◌++◌, ◌∷◌, [], List, map, take, ap, sym, append-nil, arith, take_all}
use Rattle.std.proofs.lemmas.List.{map-append}
use Rattle.county_codes.specs.declared.group.Group.{Group}
use Rattle.certificate_lines.specs.Spelling.{text_of_items}
use Rattle.certificate_lines.specs.declared.item.Item.{Item}
use Rattle.certificate_lines.specs.declared.item.Item.TheVariants as item
use Rattle.certificate_data.proofs.ListLaws.{taken_more}
use Rattle.certificate_text.proofs.WriteLaws.{text_more}
use Rattle.certificate_text.proofs.lines.push_groups.Goals as goal

pub loop-group-init : goal.loop-group-init
loop-group-init c = sym (append-nil c.args.out.now.items)

pub loop-group-preserved : goal.loop-group-preserved
loop-group-preserved c =
    let xs = c.args.groups.now in
    let i = c.loop-group.group-index in
    let x = c.group-item.result in
    let items : map item.Grouped (take i xs) ++ item.Grouped x ∷ [] ≡ map item.Grouped (take (i + 1) xs) =
    sym (map-append item.Grouped (take i xs) (x ∷ [])) ∙ ap (λ (l : List Group). map item.Grouped l) (sym (taken_more xs i x c.group-item.is c.loop-group-test.true)) in
    text_more (map item.Grouped (take i xs)) (item.Grouped x) c.args.out.now.items c.loop-group.out.items c.push_group_line.new.out.items c.loop-group.invariant c.in_ok-push_group_line.ensures
    ∙ ap (λ (l : List Item). c.args.out.now.items ++ text_of_items l) items

pub returns : goal.returns
returns c =
    c.loop-group.invariant
    ∙ ap (λ (l : List Group). c.args.out.now.items ++ text_of_items (map item.Grouped l)) (take_all c.loop-group.group-index c.args.groups.now (omega arith))
