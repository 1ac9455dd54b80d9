use Rattle.std.proofs.Common.{◌≡◌, List, [], ◌∷◌, ◌++◌, length, ap, sym, ◌∙◌, append_assoc, append-nil, arith}
use Rattle.std.specs.List.{flat_map}
use Rattle.std.specs.Vec.Iter.{into_iter_items}
use Rattle.std.proofs.lemmas.Grind.{flat_map-append}
use Rattle.certificate_lines.specs.declared.item.Item.{Item}
use Rattle.certificate_data.specs.declared.tree.Take.{Take, roll-Take}
use Rattle.certificate_data.specs.TreeValue.{list_of_takes}
use Rattle.certificate_text.specs.Trees.{items_of_takes}
use Rattle.certificate_text.proofs.TreeViews.{items_of_take, takes_more, made_take}
use Rattle.partial_trees.specs.declared.tree.PartialTake.{PartialTake, out-PartialTake}
use Rattle.partial_text.specs.Reading.{IsWholeTake, part_take_items}
use Rattle.partial_text.proofs.PartLists.{all_at, read_on, all_read, whole_items, no_rest, takes_items}
use Rattle.partial_text.proofs.reading.whole_takes.Goals as goal

pub loop-take-preserved-in-Some-rest : goal.loop-take-preserved-in-Some-rest
loop-take-preserved-in-Some-rest c =
    let at = c.loop-take in
    let x = c.in-Some.take in
    let steps : into_iter_items at.take-iterator ≡ x ∷ into_iter_items c.next.new.self = c.in-Some.ensures.steps.0 in
    let all = read_on at.yielded (into_iter_items at.take-iterator) x (into_iter_items c.next.new.self) c.args.takes.items steps at.invariant.all in
    let whole = all_at IsWholeTake c.args.takes.items at.yielded x (into_iter_items c.next.new.self) all c.requires in
    let tree = c.in-Some-rest.tree in
    let gone = c.in-Some.ensures.steps.1 in
    let last = roll-Take (record { codes = (out-PartialTake x).codes; tree = tree }) in
    record {
      all = append_assoc at.yielded (x ∷ []) (into_iter_items c.next.new.self) ∙ all;
      items =
          ap (λ (ts : List Take). items_of_takes (list_of_takes ts)) c.in_ok-push_on.ensures.pushed
          ∙ takes_more at.whole.items last
          ∙ ap (λ (l : List Item). l ++ items_of_take last) at.invariant.items
          ∙ ap (λ (l : List Item). flat_map part_take_items at.yielded ++ l) (made_take (out-PartialTake x).codes tree ∙ sym (whole_items x tree whole c.in-Some-rest.is) ∙ sym (append-nil (part_take_items x)))
          ∙ sym (flat_map-append part_take_items at.yielded (x ∷ []));
      long = omega (arith, at.invariant.long, gone, ap length steps);
    }

pub loop-take-preserved : goal.loop-take-preserved
loop-take-preserved c =
    let at = c.loop-take in
    let x = c.in-Some.take in
    let all = read_on at.yielded (into_iter_items at.take-iterator) x (into_iter_items c.next.new.self) c.args.takes.items c.in-Some.ensures.steps.0 at.invariant.all in
    let whole = all_at IsWholeTake c.args.takes.items at.yielded x (into_iter_items c.next.new.self) all c.requires in
    absurd (no_rest x whole c.in_default.is)

pub returns-clause-items : goal.returns-clause-items
returns-clause-items c =
    let at = c.loop-take in
    let all = all_read at.yielded (into_iter_items at.take-iterator) c.args.takes.items (sym at.invariant.long ∙ c.in-None.ensures.steps.0) at.invariant.all in
    at.invariant.items ∙ ap (flat_map part_take_items) all ∙ sym (takes_items c.args.takes.items)
