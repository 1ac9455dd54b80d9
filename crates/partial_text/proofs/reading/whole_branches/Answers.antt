use Rattle.std.proofs.Common.{◌≡◌, List, [], ◌∷◌, ◌++◌, length, ap, sym, ◌∙◌, append_assoc, arith}
use Rattle.std.specs.List.{flat_map}
use Rattle.std.specs.Vec.Iter.{into_iter_items}
use Rattle.std.proofs.lemmas.Grind.{flat_map-append}
use Rattle.certificate_lines.specs.declared.item.Opening.TheVariants as opening
use Rattle.certificate_lines.specs.declared.item.Item.{Item}
use Rattle.certificate_lines.specs.declared.item.Item.TheVariants as item
use Rattle.certificate_data.specs.declared.tree.Branch.{roll-Branch, out-roll-Branch}
use Rattle.certificate_data.specs.TreeValue.{list_of_takes}
use Rattle.certificate_text.specs.Trees.{items_of_takes}
use Rattle.certificate_text.specs.Writing.{branch_items}
use Rattle.partial_trees.specs.declared.tree.PartialBranch.{PartialBranch, out-PartialBranch}
use Rattle.partial_text.specs.Reading.{IsWholeBranch, part_branch_items}
use Rattle.partial_text.proofs.PartLists.{all_at, read_on, all_read}
use Rattle.partial_text.proofs.reading.whole_branches.Goals as goal

pub whole_takes-requires : goal.whole_takes-requires
whole_takes-requires c =
    let at = c.loop-branch in
    let left = into_iter_items c.next.new.self in
    all_at IsWholeBranch c.args.branches.items at.yielded c.in-Some.branch left (read_on at.yielded (into_iter_items at.branch-iterator) c.in-Some.branch left c.args.branches.items c.in-Some.ensures.steps.0 at.invariant.all) c.requires

pub loop-branch-preserved : goal.loop-branch-preserved
loop-branch-preserved c =
    let at = c.loop-branch in
    let x = c.in-Some.branch in
    let left = into_iter_items c.next.new.self in
    let steps : into_iter_items at.branch-iterator ≡ x ∷ left = c.in-Some.ensures.steps.0 in
    let gone = c.in-Some.ensures.steps.1 in
    let b = out-PartialBranch x in
    let takes = c.in_ok-takes.takes in
    let last = roll-Branch (record { county = b.county; limit = b.limit; takes = takes }) in
    let made : branch_items last ≡ item.Opens (opening.Branch b.county b.limit) ∷ (items_of_takes (list_of_takes takes.items) ++ item.Mark ∷ []) =
    ap (λ z. item.Opens (opening.Branch z.county z.limit) ∷ (items_of_takes (list_of_takes z.takes.items) ++ item.Mark ∷ [])) (out-roll-Branch (record { county = b.county; limit = b.limit; takes = takes })) in
    let same : branch_items last ≡ part_branch_items x = made ∙ ap (λ (l : List Item). item.Opens (opening.Branch b.county b.limit) ∷ (l ++ item.Mark ∷ [])) c.in_ok-takes.ensures.items in
    record {
      all = append_assoc at.yielded (x ∷ []) left ∙ read_on at.yielded (into_iter_items at.branch-iterator) x left c.args.branches.items steps at.invariant.all;
      items =
          ap (flat_map branch_items) c.in_ok-push_on.ensures.pushed
          ∙ flat_map-append branch_items at.whole.items (last ∷ [])
          ∙ ap (λ (l : List Item). l ++ (branch_items last ++ [])) at.invariant.items
          ∙ ap (λ (l : List Item). flat_map part_branch_items at.yielded ++ (l ++ [])) same
          ∙ sym (flat_map-append part_branch_items at.yielded (x ∷ []));
      long = omega (arith, at.invariant.long, gone, ap length steps);
    }

pub returns-clause-items : goal.returns-clause-items
returns-clause-items c =
    let at = c.loop-branch in
    at.invariant.items ∙ ap (flat_map part_branch_items) (all_read at.yielded (into_iter_items at.branch-iterator) c.args.branches.items (sym at.invariant.long ∙ c.in-None.ensures.steps.0) at.invariant.all)
