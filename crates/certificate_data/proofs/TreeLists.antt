-- Trees as lists of branches, takes as lists, and lines of a bound leaf as plain values and back.
use Rattle.std.proofs.Common.{◌≡◌, ℕ, List, [], ◌∷◌, map, Vec, Global, Option, refl, ap, ◌∙◌}
use Rattle.certificate_data.specs.declared.tree.Leaf.{Leaf as DeclaredLeaf}
use Rattle.certificate_data.specs.declared.weights.Weight.{Weight as DeclaredWeight}
use Rattle.certificate_data.specs.declared.allowance.Allowance.{Allowance as DeclaredAllowance}
use Rattle.certificate_data.specs.declared.allowance.Allowance.TheVariants.{Room, Weigh}
use mathlib.Core.Former.{Count}
use Rattle.certificate_data.specs.declared.tree.Tree.{Tree as DeclaredTree, Tree', Row_of-Branch, end_of-Branch, more_of-Branch, items-the_row-Branch, items_hidden-the_row-Branch-1, roll-Tree}
use Rattle.certificate_data.specs.declared.tree.Branch.{Branch, Branch', Row_of-Take, end_of-Take, more_of-Take, items-the_row-Take, items_hidden-the_row-Take-0, roll-Branch}
use Rattle.certificate_data.specs.declared.tree.Take.{Take}
use Rattle.certificate_data.specs.Tree.{Tree, leaf, branch, Takes}
use Rattle.certificate_data.specs.TreeValue.{leaf_of, tree_of, branches_onto, branch_onto, takes_of, take_onto, list_of_takes, weight_of, declared_weight, allowance_of, declared_allowance}

-- branches in front of a tree
abbrev pub list_onto : List Branch → Tree → Tree
list_onto [] tree = tree
list_onto (b ∷ bs) tree = branch_onto b (list_onto bs tree)

pub branch_row : (n : _) (row : Row_of-Branch n) (tree : Tree) → branches_onto row tree ≡ list_onto (items-the_row-Branch n row) tree
branch_row n end_of-Branch tree = refl
branch_row n (more_of-Branch b rest) tree = ap (branch_onto b) (branch_row _ rest tree)

pub take_row : (n : _) (row : Row_of-Take n) → takes_of row ≡ list_of_takes (items-the_row-Take n row)
take_row n end_of-Take = refl
take_row n (more_of-Take t rest) = ap (take_onto t) (take_row _ rest)

abbrev pub branches_row : DeclaredTree → (n : Count) × Row_of-Branch n
branches_row (Tree' shape branches last) = (_, branches)

abbrev pub takes_row : Branch → (n : Count) × Row_of-Take n
takes_row (Branch' county limit shape takes) = (_, takes)

-- a tree that is made of a list of branches and a leaf
pub made_tree : (branches : Vec Branch Global) (last : DeclaredLeaf) → tree_of (roll-Tree (record { branches = branches; leaf = last })) ≡ list_onto branches.items (leaf (leaf_of last))
unfolding Rattle.certificate_data.specs.declared.tree.Branch.TheBlock.hidden-the_row-Branch-1 roll-Tree denote.Hole.Carrier.roll
made_tree branches last =
    let row = branches_row (roll-Tree (record { branches = branches; leaf = last })) in
    branch_row row.0 row.1 (leaf (leaf_of last)) ∙ ap (λ (bs : List Branch). list_onto bs (leaf (leaf_of last))) (items_hidden-the_row-Branch-1 branches)

-- a branch that is made of a list of takes
pub made_takes : (county : ℕ) (limit : Option ℕ) (takes : Vec Take Global) (raised : Tree) → branch_onto (roll-Branch (record { county = county; limit = limit; takes = takes })) raised ≡ branch county limit (list_of_takes takes.items) raised
unfolding Rattle.certificate_data.specs.declared.tree.Branch.TheBlock.hidden-the_row-Take-0 roll-Branch denote.Hole.Carrier.roll
made_takes county limit takes raised =
    let row = takes_row (roll-Branch (record { county = county; limit = limit; takes = takes })) in
    ap (λ (ts : Takes). branch county limit ts raised) (take_row row.0 row.1 ∙ ap list_of_takes (items_hidden-the_row-Take-0 takes))

weights_again : (ws : List DeclaredWeight) → map declared_weight (map weight_of ws) ≡ ws
weights_again [] = refl
weights_again (w ∷ ws) = ap (λ (l : List DeclaredWeight). w ∷ l) (weights_again ws)

-- a line of a bound leaf, seen as a plain value and back
pub allowance_again : (a : DeclaredAllowance) → declared_allowance (allowance_of a) ≡ a
allowance_again Room = refl
allowance_again (Weigh quota ws) = ap (Weigh quota) (weights_again ws)
