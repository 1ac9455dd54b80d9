-- The items of trees, of branches and of takes as lists.
use Rattle.std.proofs.Common.{◌≡◌, ℕ, List, [], ◌∷◌, ◌++◌, map, length, arith, Vec, Global, Option, refl, ap, sym, ◌∙◌, append_assoc, append-nil}
use Rattle.certificate_lines.specs.declared.item.Opening.TheVariants as opening
use Rattle.certificate_lines.specs.declared.item.Item.{Item}
use Rattle.certificate_lines.specs.declared.item.Item.TheVariants as item
use Rattle.certificate_data.specs.declared.tree.Leaf.{Leaf as DeclaredLeaf}
use Rattle.certificate_data.specs.declared.allowance.Allowance.{Allowance as DeclaredAllowance}
use Rattle.certificate_data.specs.declared.tree.Tree.{Tree as DeclaredTree, roll-Tree}
use Rattle.certificate_data.specs.declared.tree.Branch.{Branch, Branch', items_hidden-the_row-Take-0, roll-Branch}
use Rattle.certificate_data.specs.declared.tree.Take.{Take, Take', roll-Take}
use Rattle.certificate_data.specs.Tree.{Tree, leaf, Takes, no_take}
use Rattle.certificate_data.specs.TreeValue.{leaf_of, tree_of, branch_onto, takes_of, take_onto, list_of_takes, allowance_of, declared_allowance}
use Rattle.certificate_text.specs.Trees.{leaf_items, items_of_tree, items_of_takes}
use Rattle.certificate_data.proofs.TreeLists.{list_onto, take_row, takes_row, made_tree, allowance_again}

-- the items of a branch, up to its mark
abbrev pub items_of_branch : Branch → List Item
items_of_branch (Branch' county limit shape takes) = item.Opens (opening.Branch county limit) ∷ (items_of_takes (takes_of takes) ++ item.Mark ∷ [])

abbrev pub items_of_branches : List Branch → List Item
items_of_branches [] = []
items_of_branches (b ∷ bs) = items_of_branch b ++ items_of_branches bs

branch_items : (b : Branch) (tree : Tree) → items_of_tree (branch_onto b tree) ≡ items_of_branch b ++ items_of_tree tree
branch_items (Branch' county limit shape takes) tree =
    ap (λ (l : List Item). item.Opens (opening.Branch county limit) ∷ l) (sym (append_assoc (items_of_takes (takes_of takes)) (item.Mark ∷ []) (items_of_tree tree)))

pub list_items : (bs : List Branch) (tree : Tree) → items_of_tree (list_onto bs tree) ≡ items_of_branches bs ++ items_of_tree tree
list_items [] tree = refl
list_items (b ∷ bs) tree =
    branch_items b (list_onto bs tree) ∙ ap (λ (l : List Item). items_of_branch b ++ l) (list_items bs tree) ∙ sym (append_assoc (items_of_branch b) (items_of_branches bs) (items_of_tree tree))

pub branches_more : (bs : List Branch) (b : Branch) → items_of_branches (bs ++ b ∷ []) ≡ items_of_branches bs ++ items_of_branch b
branches_more [] b = append-nil (items_of_branch b)
branches_more (a ∷ bs) b = ap (λ (l : List Item). items_of_branch a ++ l) (branches_more bs b) ∙ sym (append_assoc (items_of_branch a) (items_of_branches bs) (items_of_branch b))

-- the items of a take
abbrev pub items_of_take : Take → List Item
items_of_take (Take' codes tree) = item.Takes codes ∷ items_of_tree (tree_of tree)

take_items : (t : Take) (others : Takes) → items_of_takes (take_onto t others) ≡ items_of_take t ++ items_of_takes others
take_items (Take' codes tree) others = refl

pub takes_more : (ts : List Take) (t : Take) → items_of_takes (list_of_takes (ts ++ t ∷ [])) ≡ items_of_takes (list_of_takes ts) ++ items_of_take t
takes_more [] t = take_items t no_take ∙ append-nil (items_of_take t)
takes_more (a ∷ ts) t =
    take_items a (list_of_takes (ts ++ t ∷ [])) ∙ ap (λ (l : List Item). items_of_take a ++ l) (takes_more ts t)
    ∙ sym (append_assoc (items_of_take a) (items_of_takes (list_of_takes ts)) (items_of_take t))
    ∙ ap (λ (l : List Item). l ++ items_of_take t) (sym (take_items a (list_of_takes ts)))

-- the items of a tree that is made of a list of branches and a leaf
pub tree_items : (branches : Vec Branch Global) (last : DeclaredLeaf)
    → items_of_tree (tree_of (roll-Tree (record { branches = branches; leaf = last }))) ≡ items_of_branches branches.items ++ leaf_items (leaf_of last)
tree_items branches last = ap items_of_tree (made_tree branches last) ∙ list_items branches.items (leaf (leaf_of last))

-- the items of a branch that is made of a list of takes
pub made_branch : (county : ℕ) (limit : Option ℕ) (takes : Vec Take Global)
    → items_of_branch (roll-Branch (record { county = county; limit = limit; takes = takes })) ≡ item.Opens (opening.Branch county limit) ∷ (items_of_takes (list_of_takes takes.items) ++ item.Mark ∷ [])
unfolding Rattle.certificate_data.specs.declared.tree.Branch.TheBlock.hidden-the_row-Take-0 roll-Branch denote.Hole.Carrier.roll
made_branch county limit takes =
    let row = takes_row (roll-Branch (record { county = county; limit = limit; takes = takes })) in
    ap (λ (ts : Takes). item.Opens (opening.Branch county limit) ∷ (items_of_takes ts ++ item.Mark ∷ [])) (take_row row.0 row.1 ∙ ap list_of_takes (items_hidden-the_row-Take-0 takes))

-- the items of a take that is made of codes and a tree
pub made_take : (codes : List ℕ) (tree : DeclaredTree) → items_of_take (roll-Take (record { codes = codes; tree = tree })) ≡ item.Takes codes ∷ items_of_tree (tree_of tree)
unfolding roll-Take denote.Hole.Carrier.roll
made_take codes tree = refl

pub lines_again : (ks : List DeclaredAllowance) → map (λ a. item.Allows (declared_allowance a)) (map allowance_of ks) ≡ map item.Allows ks
lines_again [] = refl
lines_again (a ∷ ks) = ap (λ (b : DeclaredAllowance). item.Allows b ∷ map (λ a. item.Allows (declared_allowance a)) (map allowance_of ks)) (allowance_again a) ∙ ap (λ (l : List Item). item.Allows a ∷ l) (lines_again ks)

length_lines : (ks : List DeclaredAllowance) → length (map allowance_of ks) ≡ length ks
length_lines [] = refl
length_lines (a ∷ ks) = omega (arith, length_lines ks)

-- the items of a bound leaf of these lines
pub bound_items : (ks : List DeclaredAllowance) → item.Opens (opening.Bound (length (map allowance_of ks))) ∷ map (λ a. item.Allows (declared_allowance a)) (map allowance_of ks) ≡ item.Opens (opening.Bound (length ks)) ∷ map item.Allows ks
bound_items ks = ap (λ (n : ℕ). item.Opens (opening.Bound n) ∷ map (λ a. item.Allows (declared_allowance a)) (map allowance_of ks)) (length_lines ks) ∙ ap (λ (l : List Item). item.Opens (opening.Bound (length ks)) ∷ l) (lines_again ks)
