-- Copies of branches and takes, one after the other.
use Rattle.std.proofs.Common.{◌≡◌, ℕ, ◌+◌, ◌<◌, List, [], ◌∷◌, ◌++◌, Vec, Global, length, take, get_or, refl, ap, sym, ◌∙◌}
use Rattle.certificate_data.specs.Tree.{Tree, leaf, branch, Takes, no_take}
use Rattle.certificate_data.specs.TreeValue.{leaf_of, tree_of, branch_onto, take_onto, list_of_takes}
use Rattle.certificate_data.specs.declared.tree.Tree.{Tree as DeclaredTree, out-Tree, roll-Tree, roll-out-Tree}
use Rattle.certificate_data.specs.declared.tree.Branch.{Branch, out-Branch, roll-Branch, roll-out-Branch}
use Rattle.certificate_data.specs.declared.tree.Take.{Take}
use Rattle.certificate_data.specs.declared.tree.Leaf.{Leaf as DeclaredLeaf}
use Rattle.certificate_data.proofs.TreeLists.{list_onto, made_tree, made_takes}
use Rattle.certificate_data.proofs.ListLaws.{taken_more}

-- takes in front of others
abbrev pub takes_onto : List Take → Takes → Takes
takes_onto [] others = others
takes_onto (t ∷ ts) others = take_onto t (takes_onto ts others)

takes_list : (ts : List Take) → takes_onto ts no_take ≡ list_of_takes ts
takes_list [] = refl
takes_list (t ∷ ts) = ap (take_onto t) (takes_list ts)

takes_onto-more : (ts : List Take) (t : Take) (others : Takes) → takes_onto (ts ++ t ∷ []) others ≡ takes_onto ts (take_onto t others)
takes_onto-more [] t others = refl
takes_onto-more (a ∷ ts) t others = ap (take_onto a) (takes_onto-more ts t others)

list_onto-more : (bs : List Branch) (b : Branch) (tree : Tree) → list_onto (bs ++ b ∷ []) tree ≡ list_onto bs (branch_onto b tree)
list_onto-more [] b tree = refl
list_onto-more (a ∷ bs) b tree = ap (branch_onto a) (list_onto-more bs b tree)

-- one more is copied
pub take_copied : (copies takes : List Take) (i : ℕ) (x y : Take) → x ≡ get_or takes i x → i < length takes → ((others : Takes) → takes_onto copies others ≡ takes_onto (take i takes) others)
    → ((others : Takes) → take_onto y others ≡ take_onto x others) → (others : Takes) → takes_onto (copies ++ y ∷ []) others ≡ takes_onto (take (i + 1) takes) others
take_copied copies takes i x y is lt before same others =
    takes_onto-more copies y others ∙ before (take_onto y others) ∙ ap (takes_onto (take i takes)) (same others) ∙ sym (takes_onto-more (take i takes) x others)
    ∙ ap (λ (l : List Take). takes_onto l others) (sym (taken_more takes i x is lt))

pub branch_copied : (copies branches : List Branch) (i : ℕ) (x y : Branch) → x ≡ get_or branches i x → i < length branches → ((tree : Tree) → list_onto copies tree ≡ list_onto (take i branches) tree)
    → ((tree : Tree) → branch_onto y tree ≡ branch_onto x tree) → (tree : Tree) → list_onto (copies ++ y ∷ []) tree ≡ list_onto (take (i + 1) branches) tree
branch_copied copies branches i x y is lt before same tree =
    list_onto-more copies y tree ∙ before (branch_onto y tree) ∙ ap (list_onto (take i branches)) (same tree) ∙ sym (list_onto-more (take i branches) x tree)
    ∙ ap (λ (l : List Branch). list_onto l tree) (sym (taken_more branches i x is lt))

-- a branch and a tree, told by their lists
pub branch_like : (b : Branch) (takes : Vec Take Global) → ((others : Takes) → takes_onto takes.items others ≡ takes_onto (out-Branch b).takes.items others) → (raised : Tree)
    → branch_onto (roll-Branch (record { county = (out-Branch b).county; limit = (out-Branch b).limit; takes = takes })) raised ≡ branch_onto b raised
branch_like b takes same raised =
    let lists : list_of_takes takes.items ≡ list_of_takes (out-Branch b).takes.items = sym (takes_list takes.items) ∙ same no_take ∙ takes_list (out-Branch b).takes.items in
    made_takes (out-Branch b).county (out-Branch b).limit takes raised
    ∙ ap (λ (ts : Takes). branch (out-Branch b).county (out-Branch b).limit ts raised) lists
    ∙ sym (made_takes (out-Branch b).county (out-Branch b).limit (out-Branch b).takes raised)
    ∙ ap (λ (x : Branch). branch_onto x raised) (roll-out-Branch b)

pub tree_like : (t : DeclaredTree) (branches : Vec Branch Global) (last : DeclaredLeaf) → ((tree : Tree) → list_onto branches.items tree ≡ list_onto (out-Tree t).branches.items tree) → leaf_of last ≡ leaf_of (out-Tree t).leaf
    → tree_of (roll-Tree (record { branches = branches; leaf = last })) ≡ tree_of t
tree_like t branches last same leaves =
    made_tree branches last ∙ same (leaf (leaf_of last)) ∙ ap (λ l. list_onto (out-Tree t).branches.items (leaf l)) leaves
    ∙ sym (made_tree (out-Tree t).branches (out-Tree t).leaf)
    ∙ ap tree_of (roll-out-Tree t)
