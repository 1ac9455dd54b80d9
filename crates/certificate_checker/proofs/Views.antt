-- What trees and takes begin with, by the first item.
use Rattle.std.proofs.Common.{◌≡◌, ℕ, List, [], ◌∷◌, ◌++◌, length, map, Option, None, Some, refl, sym, ◌∙◌, ap, append_assoc}
use Rattle.certificate_data.specs.Tree.{Weight, Allowance, room, weigh, stuck, seats, bound, Tree, leaf, branch, Takes, no_take, take}
use Rattle.certificate_data.specs.TreeValue.{weight_of, declared_weight, allowance_of, declared_allowance}
use Rattle.certificate_text.specs.Trees.{items_of_tree, items_of_takes}
use Rattle.certificate_lines.specs.Items.{taken}
use Rattle.certificate_lines.specs.declared.item.Item.{Item}
use Rattle.certificate_lines.specs.declared.item.Item.TheVariants as item
use Rattle.certificate_lines.specs.declared.item.Opening.{Opening}
use Rattle.certificate_lines.specs.declared.item.Opening.TheVariants as opening
use Rattle.certificate_checker.specs.Feeding.{items_to_mark}
use Rattle.certificate_checker.specs.Judging.{line_items}

pub view_stuck : (t : Tree) (c : ℕ) (rest xs : List Item) → item.Opens (opening.Stuck c) ∷ xs ≡ items_of_tree t ++ rest → (t ≡ leaf (stuck c)) × (xs ≡ rest)
view_stuck (leaf (stuck d)) c rest xs e = (cc, cc)
view_stuck (leaf seats) c rest xs e = cc
view_stuck (leaf (bound lines)) c rest xs e = cc
view_stuck (branch d limit takes raised) c rest xs e = cc

pub view_seats : (t : Tree) (rest xs : List Item) → item.Opens opening.Seats ∷ xs ≡ items_of_tree t ++ rest → (t ≡ leaf seats) × (xs ≡ rest)
view_seats (leaf (stuck d)) rest xs e = cc
view_seats (leaf seats) rest xs e = (refl, cc)
view_seats (leaf (bound lines)) rest xs e = cc
view_seats (branch d limit takes raised) rest xs e = cc

pub view_bound : (t : Tree) (n : ℕ) (rest xs : List Item) → item.Opens (opening.Bound n) ∷ xs ≡ items_of_tree t ++ rest → (lines : List Allowance) × (t ≡ leaf (bound lines)) × (length lines ≡ n) × (xs ≡ line_items lines ++ rest)
view_bound (leaf (stuck d)) n rest xs e = cc
view_bound (leaf seats) n rest xs e = cc
view_bound (leaf (bound lines)) n rest xs e = (lines, refl, cc, cc)
view_bound (branch d limit takes raised) n rest xs e = cc

pub view_branch : (t : Tree) (c : ℕ) (limit : Option ℕ) (rest xs : List Item) → item.Opens (opening.Branch c limit) ∷ xs ≡ items_of_tree t ++ rest
    → (takes : Takes) × (raised : Tree) × (t ≡ branch c limit takes raised) × (xs ≡ items_to_mark takes ++ (items_of_tree raised ++ rest))
view_branch (leaf (stuck d)) c limit rest xs e = cc
view_branch (leaf seats) c limit rest xs e = cc
view_branch (leaf (bound lines)) c limit rest xs e = cc
view_branch (branch d other takes raised) c limit rest xs e =
    let later : xs ≡ (items_of_takes takes ++ item.Mark ∷ items_of_tree raised) ++ rest = cc in
    let county : d ≡ c = cc in
    let same : other ≡ limit = cc in (
      takes,
      raised,
      cc (county, same),
      later ∙ append_assoc (items_of_takes takes) (item.Mark ∷ items_of_tree raised) rest ∙ sym (append_assoc (items_of_takes takes) (item.Mark ∷ []) (items_of_tree raised ++ rest)),
    )

-- a tree opens, whatever comes behind it
pub tree_opens : (P : Type 0) (t : Tree) (rest : List Item) → ((o : Opening) (xs : List Item) → items_of_tree t ++ rest ≡ item.Opens o ∷ xs → P) → P
tree_opens P (leaf (stuck c)) rest k = k (opening.Stuck c) rest refl
tree_opens P (leaf seats) rest k = k opening.Seats rest refl
tree_opens P (leaf (bound lines)) rest k = k (opening.Bound (length lines)) (line_items lines ++ rest) refl
tree_opens P (branch c limit takes raised) rest k = k (opening.Branch c limit) ((items_of_takes takes ++ item.Mark ∷ items_of_tree raised) ++ rest) refl

pub view_take : (takes : Takes) (codes : List ℕ) (rest xs : List Item) → item.Takes codes ∷ xs ≡ items_to_mark takes ++ rest
    → (tree : Tree) × (others : Takes) × (takes ≡ take codes tree others) × (xs ≡ items_of_tree tree ++ (items_to_mark others ++ rest))
view_take no_take codes rest xs e = cc
view_take (take other tree others) codes rest xs e =
    let later : xs ≡ ((items_of_tree tree ++ items_of_takes others) ++ item.Mark ∷ []) ++ rest = cc in
    let same : other ≡ codes = cc in (
      tree,
      others,
      cc same,
      later ∙ ap (λ (l : List Item). l ++ rest) (append_assoc (items_of_tree tree) (items_of_takes others) (item.Mark ∷ [])) ∙ append_assoc (items_of_tree tree) (items_to_mark others) rest,
    )

pub view_mark : (takes : Takes) (rest xs : List Item) → item.Mark ∷ xs ≡ items_to_mark takes ++ rest → (takes ≡ no_take) × (xs ≡ rest)
view_mark no_take rest xs e = (refl, cc)
view_mark (take other tree others) rest xs e = cc

-- takes begin with a take or the mark
pub takes_begin : (P : Type 0) (takes : Takes) (rest : List Item) → ((o : Option (List ℕ)) (xs : List Item) → items_to_mark takes ++ rest ≡ taken o ∷ xs → P) → P
takes_begin P no_take rest k = k None rest refl
takes_begin P (take codes tree others) rest k = k (Some codes) (((items_of_tree tree ++ items_of_takes others) ++ item.Mark ∷ []) ++ rest) refl

weights_same : (ws : List Weight) → map weight_of (map declared_weight ws) ≡ ws
weights_same [] = refl
weights_same (w ∷ ws) = ap (λ (l : List Weight). w ∷ l) (weights_same ws)

-- a line of a bound leaf is what its value of the code's type says
pub allowance_same : (a : Allowance) → allowance_of (declared_allowance a) ≡ a
allowance_same room = refl
allowance_same (weigh quota ws) = ap (weigh quota) (weights_same ws)
