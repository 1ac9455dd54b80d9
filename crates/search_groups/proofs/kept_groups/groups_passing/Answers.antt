use Rattle.std.proofs.Common.{◌≡◌, ◌∙◌, true, ap, refl, sym, subst, length, take_all, arith}
use Rattle.std.proofs.lemmas.Fn.{says_at}
use Rattle.std.proofs.lemmas.Result.{IfOk-from_err}
use Rattle.std.specs.Fn.{FnReturnsAt}
use Rattle.connected_laws.specs.Listing.{AreBelow}
use Rattle.std.proofs.lemmas.Bool.{false≢true}
use Rattle.state_groups.specs.PlacedValues.{codes_of_sets}
use Rattle.search_groups.specs.KnownGroups.{AreThose}
use Rattle.search_groups.proofs.KeptSteps.{kept_low, kept_in, kept_out, item_below}
use Rattle.search_groups.proofs.kept_groups.groups_passing.Goals as goal
use Rattle.search_groups.proofs.kept_groups.groups_passing.Goals.{then-passes+in_ok-copy+in_ok-push, else-passes}

pub loop-group-preserved : goal.loop-group-preserved
loop-group-preserved g c =
    let C = g.row.C.Denot in
    let test = g.C.CountySet.test in
    let order = c.args.ordered.now.order in
    let groups = c.args.groups.now in
    let i = c.loop-group.group-index in
    let item = c.group-item.result in
    let olds = c.loop-group.kept.items in
    let news = c.if-passes.kept.items in
    let inv = c.loop-group.invariant in
    let low = item_below C test order groups i item c.requires.below c.loop-group-test.true c.group-item.is in
    let says : FnReturnsAt g.F.Fn c.args.passes item c.passes.result = says_at g.F.Fn c.passes.ensures refl in
    elim c.if-passes.branch [
      | then-passes+in_ok-copy+in_ok-push w ↦ record {
        those = λ keeps tells. (kept_in C test order (λ s. keeps s ≡ true) groups c.requires.below i item w.in_ok-copy.field-0 olds w.push.new.self.items news c.loop-group-test.true c.group-item.is w.in_ok-push.ensures.items (ap (λ z. z.items) w.kept-is) w.in_ok-copy.ensures.places (sym (tells item c.passes.result low says) ∙ w.if-passes.true) (inv.those keeps tells) inv.below).0;
        below = kept_low C test order groups c.requires.below i item w.in_ok-copy.field-0 olds w.push.new.self.items news c.loop-group-test.true c.group-item.is w.in_ok-push.ensures.items (ap (λ z. z.items) w.kept-is) w.in_ok-copy.ensures.places inv.below;
      }
      | else-passes w ↦ record {
        those = λ keeps tells. (kept_out C test order (λ s. keeps s ≡ true) groups i item olds news c.loop-group-test.true c.group-item.is (ap (λ z. z.items) w.kept-is) (λ h. false≢true (sym w.if-passes.false ∙ (tells item c.passes.result low says ∙ h))) (inv.those keeps tells) inv.below).0;
        below = subst (λ z. AreBelow (length order) test z) (sym (ap (λ z. z.items) w.kept-is)) inv.below;
      }
    ]

pub returns-in_err-copy-clause-those : goal.returns-in_err-copy-clause-those
returns-in_err-copy-clause-those g c keeps tells = IfOk-from_err c.from_residual.result _ c.from_residual.ensures.0

pub returns-in_err-copy-clause-below : goal.returns-in_err-copy-clause-below
returns-in_err-copy-clause-below g c = IfOk-from_err c.from_residual.result _ c.from_residual.ensures.0

pub returns-in_err-push-clause-those : goal.returns-in_err-push-clause-those
returns-in_err-push-clause-those g c keeps tells = IfOk-from_err c.from_residual-in_err-push.result _ c.from_residual-in_err-push.ensures.0

pub returns-in_err-push-clause-below : goal.returns-in_err-push-clause-below
returns-in_err-push-clause-below g c = IfOk-from_err c.from_residual-in_err-push.result _ c.from_residual-in_err-push.ensures.0

pub returns-clause-those : goal.returns-clause-those
returns-clause-those g c keeps tells =
    let test = g.C.CountySet.test in
    let order = c.args.ordered.now.order in
    subst (λ z. AreThose order (λ s. keeps s ≡ true) (codes_of_sets order test z) (codes_of_sets order test c.loop-group.kept.items)) (take_all c.loop-group.group-index c.args.groups.now (omega (arith, c.loop-group-test.false))) (c.loop-group.invariant.those keeps tells)

pub returns-clause-below : goal.returns-clause-below
returns-clause-below g c = c.loop-group.invariant.below
