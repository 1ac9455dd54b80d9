use Rattle.std.proofs.Common.{length, nat_eq, sym, ap, ◌∙◌}
use Rattle.std.proofs.lemmas.Bool.{false≢true}
use Rattle.partial_trees.specs.declared.tree.PartialTree.{out-PartialTree}
use Rattle.branch_bound.proofs.OpenParts.{begun_part}
use Rattle.branch_bound.proofs.parts.begun_part.Goals as goal

pub returns : goal.returns
returns c = λ p round s is.
    let v = (out-PartialTree c.args.part).branches in
    begun_part p round s c.args.part (λ none. false≢true (sym c.if-is_empty.false ∙ c.is_empty.ensures ∙ ap (λ n. nat_eq n 0) (v.ok.0 ∙ ap length none))) is
