-- One branch of which all leaves are open, made take by take.
use Rattle.std.proofs.Common.{◌≡◌, ℕ, List, [], ◌∷◌, ◌++◌, Vec, Global, Option, refl, sym, ap, ◌∙◌}
use Rattle.certificate_data.specs.declared.tree.Tree.{Tree}
use Rattle.board_laws.specs.PartialTrees.{PartialTree, open_leaf, PartialTakes, no_begun, take_begun, open_takes}
use Rattle.partial_trees.specs.PartialValue.{partial_of, rest_of, take_onto, begun_onto, list_onto}
use Rattle.partial_trees.specs.declared.tree.PartialTree.{PartialTree as PartHeld, out-PartialTree, roll-PartialTree, roll-out-PartialTree}
use Rattle.partial_trees.specs.declared.tree.PartialBranch.{PartialBranch}
use Rattle.partial_trees.specs.declared.tree.PartialTake.{PartialTake}
use Rattle.partial_trees.proofs.PartialLists.{made_tree}
use Rattle.share_board.proofs.Onto.{begun_onto_all, begun_more, front_append, front_more, front_all}

-- takes of these groups, each with an open leaf, in front of others
abbrev pub open_onto : List (List ℕ) → PartialTakes → PartialTakes
open_onto [] others = others
open_onto (g ∷ groups) others = take_begun g open_leaf (open_onto groups others)

pub open_all : (groups : List (List ℕ)) → open_onto groups no_begun ≡ open_takes groups
open_all = front_all (λ g others. take_begun g open_leaf others) open_onto (λ b. refl) (λ a rest b. refl) open_takes no_begun refl (λ a rest. refl)

open_more : (groups : List (List ℕ)) (g : List ℕ) (others : PartialTakes) → open_onto (groups ++ g ∷ []) others ≡ open_onto groups (take_begun g open_leaf others)
open_more = front_more (λ g others. take_begun g open_leaf others) open_onto (λ b. refl) (λ a rest b. refl)

pub taken_more : (takes news : List PartialTake) (t : PartialTake) (groups : List (List ℕ)) (g : List ℕ) → news ≡ takes ++ t ∷ [] → ((others : PartialTakes) → take_onto t others ≡ take_begun g open_leaf others)
    → ((others : PartialTakes) → begun_onto_all takes others ≡ open_onto groups others) → (others : PartialTakes) → begun_onto_all news others ≡ open_onto (groups ++ g ∷ []) others
taken_more takes news t groups g pushed made so others =
    ap (λ (l : List PartialTake). begun_onto_all l others) pushed
    ∙ begun_more takes t others
    ∙ ap (begun_onto_all takes) (made others)
    ∙ so (take_begun g open_leaf others)
    ∙ sym (open_more groups g others)

-- a partial tree with branches in front
pub part_behind : (t : PartHeld) (branches : Vec PartialBranch Global) (bs : List PartialBranch) → branches.items ≡ bs ++ (out-PartialTree t).branches.items
    → partial_of (roll-PartialTree (record { branches = branches; rest = (out-PartialTree t).rest })) ≡ list_onto bs (partial_of t)
part_behind t branches bs e =
    made_tree branches (out-PartialTree t).rest
    ∙ ap (λ (l : List PartialBranch). list_onto l (rest_of (out-PartialTree t).rest)) e
    ∙ front_append begun_onto list_onto (λ b. refl) (λ a rest b. refl) bs (out-PartialTree t).branches.items (rest_of (out-PartialTree t).rest)
    ∙ ap (list_onto bs) (sym (made_tree (out-PartialTree t).branches (out-PartialTree t).rest) ∙ ap partial_of (roll-out-PartialTree t))
