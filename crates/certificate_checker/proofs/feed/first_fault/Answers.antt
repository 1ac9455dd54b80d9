use Rattle.std.proofs.Common.{Ok, Result, Bool, sym, ap, ◌∙◌, subst, arith, ⊎_elim}
use Rattle.certificate_lines.specs.ItemReadings.{Unread}
use Rattle.certificate_lines.specs.declared.fault.TextFault.{TextFault}
use Rattle.certificate_checker.specs.Feeding.{Passes}
use Rattle.certificate_checker.proofs.Streams.{at_once}
use Rattle.certificate_checker.proofs.feed.first_fault.Goals as goal

pub loop-fault-smaller : goal.loop-fault-smaller
loop-fault-smaller c =
    let h = at_once c.loop-fault.items c.pass_item.new.source (λ a b. Passes a c.pass_item.result b) c.pass_item.ensures in
    let k = subst (λ (r : Result Bool TextFault). Passes c.loop-fault.items r c.pass_item.new.source) (c.in-Ok-true.is ∙ ap (λ (t : Bool). Ok t) c.in-Ok-true.field-0-test) h in
    omega (arith, k.0)

pub loop-fault-preserved : goal.loop-fault-preserved
loop-fault-preserved c =
    let h = at_once c.loop-fault.items c.pass_item.new.source (λ a b. Passes a c.pass_item.result b) c.pass_item.ensures in
    let k = subst (λ (r : Result Bool TextFault). Passes c.loop-fault.items r c.pass_item.new.source) (c.in-Ok-true.is ∙ ap (λ (t : Bool). Ok t) c.in-Ok-true.field-0-test) h in
    k.1 ∙ c.loop-fault.invariant

pub returns-in-Ok-false : goal.returns-in-Ok-false
returns-in-Ok-false c =
    let h = at_once c.loop-fault.items c.pass_item.new.source (λ a b. Passes a c.pass_item.result b) c.pass_item.ensures in
    let k = subst (λ (r : Result Bool TextFault). Passes c.loop-fault.items r c.pass_item.new.source) (c.in-Ok-false.is ∙ ap (λ (t : Bool). Ok t) c.in-Ok-false.field-0-test) h in
    sym (ap (λ (z : Unread). z.fault) k) ∙ c.loop-fault.invariant

pub returns-in_default : goal.returns-in_default
returns-in_default c =
    let h = at_once c.loop-fault.items c.pass_item.new.source (λ a b. Passes a c.pass_item.result b) c.pass_item.ensures in
    let k = subst (λ (r : Result Bool TextFault). Passes c.loop-fault.items r c.pass_item.new.source) c.in-Err.is h in
    sym (ap (λ (z : Unread). z.fault) (k (λ unread. ⊎_elim c.in_default.not-Memory c.in_default.not-ReadFault unread))) ∙ c.loop-fault.invariant
