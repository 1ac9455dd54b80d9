use Rattle.std.proofs.Common.{◌≡◌, ◌+◌, [], ◌∷◌, ◌++◌, map, take, take_all, sym, ap, ◌∙◌, subst, arith, append-nil}
use Rattle.std.specs.List.{AllByRecursion}
use Rattle.std.proofs.lemmas.List.{map-append, take_more}
use Rattle.certificate_data.specs.TreeValue.{list_of_takes}
use Rattle.certificate_lines.specs.Fitting.{AreCodes}
use Rattle.state_groups.specs.PlacedValues.{codes_of_set, codes_of_sets}
use Rattle.board_laws.specs.PartialTrees.{PartialTakes, take_begun, no_begun}
use Rattle.partial_trees.specs.PartialValue.{partial_of, list_of_begun}
use Rattle.branch_bound.specs.Parts.{whole_takes}
use Rattle.branch_bound.proofs.OpenParts.{stopped_one, stopped_more, open_before, open_all, codes_behind}
use Rattle.branch_bound.proofs.parts.stopped_takes.Goals as goal

pub loop-other-init : goal.loop-other-init
loop-other-init g c = record {
  takes =
      let push = c.in_ok-push_part.ensures.pushed in
      stopped_one c.in_ok-parts.parts.items c.push_part.new.takes.items push.0 (list_of_takes c.args.takes.items) (codes_of_set c.args.input.now.graph.now.ordered.now.order g.C.CountySet.test c.args.group.now) (partial_of c.args.part) push.2 push.1 c.in_ok-parts.ensures;
  small = (c.in_ok-push_part.ensures.small, tt);
}

pub loop-other-preserved : goal.loop-other-preserved
loop-other-preserved g c =
    let order = c.args.input.now.graph.now.ordered.now.order in
    let test = g.C.CountySet.test in
    let f = codes_of_set order test in
    let later = c.args.later.now in
    let i = c.loop-other.other-index in
    let item = c.other-item.result in
    let done = codes_of_sets order test (take i later) in
    let more : done ++ f item ∷ [] ≡ codes_of_sets order test (take (i + 1) later) =
    sym (ap (map f) (take_more later i item c.loop-other-test.true ∙ ap (λ z. take i later ++ z ∷ []) (sym c.other-item.is)) ∙ map-append f (take i later) (item ∷ [])) in
    let push = c.in_ok-push_part-2.ensures.pushed in
    let before = λ (z : PartialTakes). whole_takes (list_of_takes c.args.takes.items) (take_begun (f c.args.group.now) (partial_of c.args.part) z) in
    record {
      takes = λ rest.
          stopped_more c.loop-other.parts.items c.push_part-in-loop-other.new.takes.items push.0 before done (f item) (partial_of c.open_part.result) push.2 c.open_part.ensures push.1 c.loop-other.invariant.takes rest
          ∙ ap (λ z. before (open_before z (list_of_begun rest))) more;
      small = (c.loop-other.invariant.small.0, subst (AllByRecursion AreCodes) more (codes_behind done (f item) c.loop-other.invariant.small.1 c.in_ok-push_part-2.ensures.small));
    }

pub returns-clause-takes : goal.returns-clause-takes
returns-clause-takes g c =
    let order = c.args.input.now.graph.now.ordered.now.order in
    let test = g.C.CountySet.test in
    let later = c.args.later.now in
    let before = λ (z : PartialTakes). whole_takes (list_of_takes c.args.takes.items) (take_begun (codes_of_set order test c.args.group.now) (partial_of c.args.part) z) in
    ap list_of_begun (sym (append-nil c.loop-other.parts.items))
    ∙ c.loop-other.invariant.takes []
    ∙ ap (λ z. before (open_before (codes_of_sets order test z) no_begun)) (take_all c.loop-other.other-index later (omega (arith, c.loop-other-test.false)))
    ∙ ap before (open_all (codes_of_sets order test later))

pub returns-clause-small : goal.returns-clause-small
returns-clause-small g c =
    let order = c.args.input.now.graph.now.ordered.now.order in
    let test = g.C.CountySet.test in (
      c.loop-other.invariant.small.0,
      subst (λ z. AllByRecursion AreCodes (codes_of_sets order test z)) (take_all c.loop-other.other-index c.args.later.now (omega (arith, c.loop-other-test.false))) c.loop-other.invariant.small.1,
    )
