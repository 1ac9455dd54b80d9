-- Partial trees as lists of branches, and takes as lists.
use Rattle.std.proofs.Common.{◌≡◌, ℕ, zero, suc, ◌+◌, ◌<◌, ◌≤◌, List, ◌∷◌, [], length, drop, get_or, Vec, Global, Option, refl, sym, ap, ◌∙◌, arith}
use Rattle.std.proofs.lemmas.List.{drop_more}
use mathlib.Core.Former.{Count}
use Rattle.certificate_data.specs.declared.tree.Tree.{Tree as DeclaredTree}
use Rattle.board_laws.specs.PartialTrees.{PartialTree, open_leaf, whole, begun, PartialTakes, no_begun, take_begun, open_leaves, open_in}
use Rattle.partial_trees.specs.declared.tree.PartialTree.{PartialTree as Declared, PartialTree', Row_of-PartialBranch, end_of-PartialBranch, more_of-PartialBranch, items-the_row-PartialBranch, items_hidden-the_row-PartialBranch-1, roll-PartialTree, out-PartialTree, roll-out-PartialTree}
use Rattle.partial_trees.specs.declared.tree.PartialBranch.{PartialBranch, PartialBranch', Row_of-PartialTake, end_of-PartialTake, more_of-PartialTake, items-the_row-PartialTake, items_hidden-the_row-PartialTake-0, roll-PartialBranch, out-PartialBranch, roll-out-PartialBranch}
use Rattle.partial_trees.specs.declared.tree.PartialTake.{PartialTake, roll-PartialTake, out-PartialTake, roll-out-PartialTake}
use Rattle.partial_trees.specs.PartialValue.{rest_of, partial_of, begun_row, begun_onto, begun_takes, take_onto, list_of_begun, list_onto}

branch_row : (n : _) (row : Row_of-PartialBranch n) (tree : PartialTree) → begun_row row tree ≡ list_onto (items-the_row-PartialBranch n row) tree
branch_row n end_of-PartialBranch tree = refl
branch_row n (more_of-PartialBranch b rest) tree = ap (begun_onto b) (branch_row _ rest tree)

take_row : (n : _) (row : Row_of-PartialTake n) → begun_takes row ≡ list_of_begun (items-the_row-PartialTake n row)
take_row n end_of-PartialTake = refl
take_row n (more_of-PartialTake t rest) = ap (take_onto t) (take_row _ rest)

abbrev branches_row : Declared → (n : Count) × Row_of-PartialBranch n
branches_row (PartialTree' shape branches rest) = (_, branches)

abbrev takes_row : PartialBranch → (n : Count) × Row_of-PartialTake n
takes_row (PartialBranch' county limit shape takes) = (_, takes)

-- a partial tree that is made of a list of branches and what stands behind them
pub made_tree : (branches : Vec PartialBranch Global) (rest : Option DeclaredTree) → partial_of (roll-PartialTree (record { branches = branches; rest = rest })) ≡ list_onto branches.items (rest_of rest)
unfolding Rattle.partial_trees.specs.declared.tree.PartialBranch.TheBlock.hidden-the_row-PartialBranch-1 roll-PartialTree denote.Hole.Carrier.roll
made_tree branches rest =
    let row = branches_row (roll-PartialTree (record { branches = branches; rest = rest })) in
    branch_row row.0 row.1 (rest_of rest) ∙ ap (λ (bs : List PartialBranch). list_onto bs (rest_of rest)) (items_hidden-the_row-PartialBranch-1 branches)

-- a branch that is made of a list of takes
pub made_takes : (county : ℕ) (limit : Option ℕ) (takes : Vec PartialTake Global) (raised : PartialTree) → begun_onto (roll-PartialBranch (record { county = county; limit = limit; takes = takes })) raised ≡ begun county limit (list_of_begun takes.items) raised
unfolding Rattle.partial_trees.specs.declared.tree.PartialBranch.TheBlock.hidden-the_row-PartialTake-0 roll-PartialBranch denote.Hole.Carrier.roll
made_takes county limit takes raised =
    let row = takes_row (roll-PartialBranch (record { county = county; limit = limit; takes = takes })) in
    ap (λ (ts : PartialTakes). begun county limit ts raised) (take_row row.0 row.1 ∙ ap list_of_begun (items_hidden-the_row-PartialTake-0 takes))

pub made_take : (codes : List ℕ) (tree : Declared) (others : PartialTakes) → take_onto (roll-PartialTake (record { codes = codes; tree = tree })) others ≡ take_begun codes (partial_of tree) others
unfolding roll-PartialTake denote.Hole.Carrier.roll
made_take codes tree others = refl

-- values by their fields
pub tree_made : (t : Declared) → partial_of t ≡ list_onto (out-PartialTree t).branches.items (rest_of (out-PartialTree t).rest)
tree_made t = ap partial_of (sym (roll-out-PartialTree t)) ∙ made_tree (out-PartialTree t).branches (out-PartialTree t).rest

pub branch_made : (b : PartialBranch) (raised : PartialTree) → begun_onto b raised ≡ begun (out-PartialBranch b).county (out-PartialBranch b).limit (list_of_begun (out-PartialBranch b).takes.items) raised
branch_made b raised = ap (λ z. begun_onto z raised) (sym (roll-out-PartialBranch b)) ∙ made_takes (out-PartialBranch b).county (out-PartialBranch b).limit (out-PartialBranch b).takes raised

pub take_made : (t : PartialTake) (others : PartialTakes) → take_onto t others ≡ take_begun (out-PartialTake t).codes (partial_of (out-PartialTake t).tree) others
take_made t others = ap (λ z. take_onto z others) (sym (roll-out-PartialTake t)) ∙ made_take (out-PartialTake t).codes (out-PartialTake t).tree others

-- the branches and takes that are left when one is read
pub left_branches : (branches : List PartialBranch) (i : ℕ) (b : PartialBranch) (rest : PartialTree) → b ≡ get_or branches i b → i < length branches
    → list_onto (drop i branches) rest ≡ begun (out-PartialBranch b).county (out-PartialBranch b).limit (list_of_begun (out-PartialBranch b).takes.items) (list_onto (drop (i + 1) branches) rest)
left_branches branches i b rest is lt = ap (λ z. list_onto z rest) (drop_more branches i b lt ∙ ap (λ z. z ∷ drop (i + 1) branches) (sym is)) ∙ branch_made b (list_onto (drop (i + 1) branches) rest)

pub left_takes : (takes : List PartialTake) (i : ℕ) (t : PartialTake) → t ≡ get_or takes i t → i < length takes → list_of_begun (drop i takes) ≡ take_begun (out-PartialTake t).codes (partial_of (out-PartialTake t).tree) (list_of_begun (drop (i + 1) takes))
left_takes takes i t is lt = ap list_of_begun (drop_more takes i t lt ∙ ap (λ z. z ∷ drop (i + 1) takes) (sym is)) ∙ take_made t (list_of_begun (drop (i + 1) takes))

-- how many branches and takes there are: they fall from a tree to its branches, and from a branch to its takes' trees
abbrev mutual
  pub deep : PartialTree → ℕ
  deep open_leaf = 0
  deep (whole tree) = 0
  deep (begun county limit takes raised) = deep_in takes + deep raised + 1

  pub deep_in : PartialTakes → ℕ
  deep_in no_begun = 0
  deep_in (take_begun codes tree others) = deep tree + deep_in others + 1

deep_later : (branches : List PartialBranch) (i : ℕ) (rest : PartialTree) → deep (list_onto (drop i branches) rest) ≤ deep (list_onto branches rest)
deep_later branches zero rest = omega arith
deep_later [] (suc i) rest = omega arith
deep_later (b ∷ branches) (suc i) rest = omega (arith, deep_later branches i rest, ap deep (branch_made b (list_onto branches rest)))

deep_others : (takes : List PartialTake) (i : ℕ) → deep_in (list_of_begun (drop i takes)) ≤ deep_in (list_of_begun takes)
deep_others takes zero = omega arith
deep_others [] (suc i) = omega arith
deep_others (t ∷ takes) (suc i) = omega (arith, deep_others takes i, ap deep_in (take_made t (list_of_begun takes)))

pub branch_falls : (part : Declared) (branches : List PartialBranch) (i : ℕ) (b : PartialBranch) → branches ≡ (out-PartialTree part).branches.items → b ≡ get_or branches i b → i < length branches → deep_in (list_of_begun (out-PartialBranch b).takes.items) < deep (partial_of part)
branch_falls part branches i b are is lt =
    let rest = rest_of (out-PartialTree part).rest in
    omega (
      arith,
      ap deep (left_branches branches i b rest is lt),
      deep_later branches i rest,
      ap deep (tree_made part),
      ap (λ z. deep (list_onto z rest)) are,
    )

pub take_falls : (takes : List PartialTake) (i : ℕ) (t : PartialTake) → t ≡ get_or takes i t → i < length takes → deep (partial_of (out-PartialTake t).tree) < deep_in (list_of_begun takes)
take_falls takes i t is lt = omega (arith, ap deep_in (left_takes takes i t is lt), deep_others takes i)

-- how many open leaves are left when a branch or a take is read
pub leaves_left : (branches : List PartialBranch) (i : ℕ) (b : PartialBranch) (rest : PartialTree) → b ≡ get_or branches i b → i < length branches
    → open_leaves (list_onto (drop i branches) rest) ≡ open_in (list_of_begun (out-PartialBranch b).takes.items) + open_leaves (list_onto (drop (i + 1) branches) rest)
leaves_left branches i b rest is lt = ap open_leaves (left_branches branches i b rest is lt)

pub takes_left : (takes : List PartialTake) (i : ℕ) (t : PartialTake) → t ≡ get_or takes i t → i < length takes
    → open_in (list_of_begun (drop i takes)) ≡ open_leaves (partial_of (out-PartialTake t).tree) + open_in (list_of_begun (drop (i + 1) takes))
takes_left takes i t is lt = ap open_in (left_takes takes i t is lt)
