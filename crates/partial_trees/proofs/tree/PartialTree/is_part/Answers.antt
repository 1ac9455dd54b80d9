use Rattle.std.proofs.Common.{◌≡◌, length, vec_len, sym, ap, ◌∙◌, arith}
use Rattle.std.proofs.lemmas.Bool.{false≢true, eq-eqb, eqb-true}
use mathlib.Core.Bool.{not}
use Rattle.partial_trees.specs.PartialValue.{rest_of, partial_of}
use Rattle.partial_trees.specs.declared.tree.PartialTree.{out-PartialTree}
use Rattle.partial_trees.proofs.PartialLists.{tree_made}
use Rattle.partial_trees.proofs.OpenLeaves.{part_with, no_part_with}
use Rattle.partial_trees.proofs.tree.PartialTree.is_part.Goals as goal

pub returns-then-not-is_empty : goal.returns-then-not-is_empty
returns-then-not-is_empty c =
    let tree = out-PartialTree c.args.self.now in
    let some : length tree.branches.items ≡ 0 → ⊥ = (λ none.
    let zero : vec_len tree.branches ≡ 0 = omega (arith, none, tree.branches.ok) in
    false≢true (sym (sym c.is_empty.ensures ∙ c.if-not-is_empty.true) ∙ eq-eqb (vec_len tree.branches) 0 zero)) in
    let p = part_with tree.branches.items (rest_of tree.rest) (partial_of c.args.self.now) some (tree_made c.args.self.now) in
    (λ h. p.0 (c.has_open_leaf.ensures.0 h), λ h. c.has_open_leaf.ensures.1 (p.1 h))

pub returns-else-not-is_empty : goal.returns-else-not-is_empty
returns-else-not-is_empty c =
    let tree = out-PartialTree c.args.self.now in
    let zero : vec_len tree.branches ≡ 0 = eqb-true (vec_len tree.branches) 0 (sym c.is_empty.ensures ∙ c.if-not-is_empty.false) in
    let none = no_part_with tree.branches.items tree.rest (partial_of c.args.self.now) (omega (arith, zero, tree.branches.ok)) (tree_made c.args.self.now) in
    (λ h. absurd (false≢true (sym (ap not c.if-not-is_empty.false) ∙ h)), λ h. absurd (none h))
