use Rattle.std.proofs.Common.{◌≡◌, List, map, ap, sym, ◌∙◌, subst}
use Rattle.certificate_data.specs.TreeValue.{allowance_of, leaf_of}
use Rattle.certificate_data.specs.declared.allowance.Allowance.{Allowance}
use Rattle.certificate_data.specs.Tree.{leaf, bound}
use Rattle.list_groupings.specs.Walking.{IsTreeAt, WalksTree}
use Rattle.list_groupings.proofs.walk.put_leaf.Goals as goal

pub returns-in-Bound : goal.returns-in-Bound
returns-in-Bound c = record {
  walked = λ s h.
      let e : leaf_of c.args.leaf.now ≡ bound (map allowance_of c.deref.result.now) = ap leaf_of c.in-Bound.is ∙ ap (λ (l : List Allowance). bound (map allowance_of l)) (sym c.deref.ensures.value) in
      subst (λ z. WalksTree c.args.input.now s (leaf z) c.args.found.now c.add_end.result c.add_end.new.found) (sym e)
      (c.add_end.ensures.walked s (subst (λ z. IsTreeAt c.args.input.now s c.args.position.now (leaf z)) e h));
}
