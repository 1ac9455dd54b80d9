-- A list of items begins with the items of one partial tree at most whose branches are open.
use Rattle.std.proofs.Common.{◌≡◌, ◌≤◌, List, [], ◌∷◌, ◌++◌, length, refl, ap, sym, ◌∙◌, append_assoc, append-nil, arith}
use Rattle.certificate_lines.specs.declared.item.Opening.{Opening}
use Rattle.certificate_lines.specs.declared.item.Opening.TheVariants as opening
use Rattle.certificate_lines.specs.declared.item.Item.{Item}
use Rattle.certificate_lines.specs.declared.item.Item.TheVariants as item
use Rattle.certificate_data.specs.Tree.{Tree, leaf, stuck, seats, bound, branch, Takes, no_take, take}
use Rattle.certificate_text.specs.Trees.{items_of_tree, items_of_takes}
use Rattle.certificate_text.proofs.TreeLaws.{heads, tree_back}
use Rattle.board_laws.specs.PartialTrees.{PartialTree, open_leaf, whole, begun, PartialTakes, no_begun, take_begun, open_leaves, open_in}
use Rattle.partial_trees.specs.OpenBranches.{BranchesAreOpen, BranchesOfTakesAreOpen}
use Rattle.partial_text.specs.PartItems.{items_of_part, items_of_begun}

-- the first item of a tree opens it
record Opened (items : List Item) : Type 0 where
  pub first : Opening
  pub later : List Item
  pub is : items ≡ item.Opens first ∷ later

tree_opens : (t : Tree) → Opened (items_of_tree t)
tree_opens (leaf (stuck c)) = record { first = opening.Stuck c; later = []; is = refl }
tree_opens (leaf seats) = record { first = opening.Seats; later = []; is = refl }
tree_opens (leaf (bound lines)) = record { first = opening.Bound (length lines); later = _; is = refl }
tree_opens (branch c j ts t) = record { first = opening.Branch c j; later = _; is = refl }

not_open : (t : Tree) (xs ys : List Item) → item.Open ∷ xs ≡ items_of_tree t ++ ys → ⊥
not_open t xs ys h =
    let o = tree_opens t in
    let e : item.Open ∷ xs ≡ item.Opens o.first ∷ (o.later ++ ys) = h ∙ ap (λ (l : List Item). l ++ ys) o.is in
    cc ((heads _ _ _ _ e).0)

-- where a partial tree has the items of a whole tree, none of its leaves is open
mutual
  mixed : (t : Tree) (u : PartialTree) (xs ys : List Item) → items_of_tree t ++ xs ≡ items_of_part u ++ ys → (open_leaves u ≡ 0) × (xs ≡ ys)
  mixed t open_leaf xs ys h = absurd (not_open t ys xs (sym h))
  mixed t (whole u) xs ys h = (refl, (tree_back t u xs ys h).1)
  mixed (leaf (stuck c)) (begun d k us u) xs ys h = cc ((heads _ _ _ _ h).0)
  mixed (leaf seats) (begun d k us u) xs ys h = cc ((heads _ _ _ _ h).0)
  mixed (leaf (bound lines)) (begun d k us u) xs ys h = cc ((heads _ _ _ _ h).0)
  mixed (branch c j ts t) (begun d k us u) xs ys h =
      let first = heads _ _ _ _ h in
      let split : items_of_takes ts ++ item.Mark ∷ (items_of_tree t ++ xs) ≡ items_of_begun us ++ item.Mark ∷ (items_of_part u ++ ys) =
      sym (append_assoc (items_of_takes ts) (item.Mark ∷ items_of_tree t) xs) ∙ first.1 ∙ append_assoc (items_of_begun us) (item.Mark ∷ items_of_part u) ys in
      let takes = mixed_takes ts us (items_of_tree t ++ xs) (items_of_part u ++ ys) split in
      let behind = mixed t u xs ys takes.1 in
      (omega (arith, takes.0, behind.0), behind.1)

  mixed_takes : (ts : Takes) (us : PartialTakes) (xs ys : List Item) → items_of_takes ts ++ item.Mark ∷ xs ≡ items_of_begun us ++ item.Mark ∷ ys → (open_in us ≡ 0) × (xs ≡ ys)
  mixed_takes no_take no_begun xs ys h = (refl, (heads _ _ _ _ h).1)
  mixed_takes no_take (take_begun ds u us) xs ys h = cc ((heads _ _ _ _ h).0)
  mixed_takes (take cs t ts) no_begun xs ys h = cc ((heads _ _ _ _ h).0)
  mixed_takes (take cs t ts) (take_begun ds u us) xs ys h =
      let first = heads _ _ _ _ h in
      let split : items_of_tree t ++ (items_of_takes ts ++ item.Mark ∷ xs) ≡ items_of_part u ++ (items_of_begun us ++ item.Mark ∷ ys) =
      sym (append_assoc (items_of_tree t) (items_of_takes ts) (item.Mark ∷ xs)) ∙ first.1 ∙ append_assoc (items_of_part u) (items_of_begun us) (item.Mark ∷ ys) in
      let tree = mixed t u (items_of_takes ts ++ item.Mark ∷ xs) (items_of_begun us ++ item.Mark ∷ ys) split in
      let others = mixed_takes ts us xs ys tree.1 in
      (omega (arith, tree.0, others.0), others.1)

-- so a whole tree and a branch with an open leaf have other items
not_both : (t : Tree) (u : PartialTree) (xs ys : List Item) → 1 ≤ open_leaves u → items_of_tree t ++ xs ≡ items_of_part u ++ ys → ⊥
not_both t u xs ys some h = omega (arith, some, (mixed t u xs ys h).0)

mutual
  pub part_back : (t u : PartialTree) (xs ys : List Item) → BranchesAreOpen t → BranchesAreOpen u → items_of_part t ++ xs ≡ items_of_part u ++ ys → (t ≡ u) × (xs ≡ ys)
  part_back open_leaf open_leaf xs ys f g h = (refl, (heads _ _ _ _ h).1)
  part_back open_leaf (whole u) xs ys f g h = absurd (not_open u xs ys h)
  part_back open_leaf (begun d k us u) xs ys f g h = cc ((heads _ _ _ _ h).0)
  part_back (whole t) open_leaf xs ys f g h = absurd (not_open t ys xs (sym h))
  part_back (whole t) (whole u) xs ys f g h =
      let both = tree_back t u xs ys h in
      (ap whole both.0, both.1)
  part_back (whole t) (begun d k us u) xs ys f g h = absurd (not_both t (begun d k us u) xs ys g.0 h)
  part_back (begun c j ts t) open_leaf xs ys f g h = cc ((heads _ _ _ _ h).0)
  part_back (begun c j ts t) (whole u) xs ys f g h = absurd (not_both u (begun c j ts t) ys xs f.0 (sym h))
  part_back (begun c j ts t) (begun d k us u) xs ys f g h =
      let first = heads _ _ _ _ h in
      let county : c ≡ d = cc (first.0) in
      let limit : j ≡ k = cc (first.0) in
      let split : items_of_begun ts ++ item.Mark ∷ (items_of_part t ++ xs) ≡ items_of_begun us ++ item.Mark ∷ (items_of_part u ++ ys) =
      sym (append_assoc (items_of_begun ts) (item.Mark ∷ items_of_part t) xs) ∙ first.1 ∙ append_assoc (items_of_begun us) (item.Mark ∷ items_of_part u) ys in
      let takes = begun_back ts us (items_of_part t ++ xs) (items_of_part u ++ ys) f.1 g.1 split in
      let marked = part_back t u xs ys f.2 g.2 takes.1 in
      (cc (county, limit, takes.0, marked.0), marked.1)

  begun_back : (ts us : PartialTakes) (xs ys : List Item) → BranchesOfTakesAreOpen ts → BranchesOfTakesAreOpen us → items_of_begun ts ++ item.Mark ∷ xs ≡ items_of_begun us ++ item.Mark ∷ ys → (ts ≡ us) × (xs ≡ ys)
  begun_back no_begun no_begun xs ys f g h = (refl, (heads _ _ _ _ h).1)
  begun_back no_begun (take_begun ds u us) xs ys f g h = cc ((heads _ _ _ _ h).0)
  begun_back (take_begun cs t ts) no_begun xs ys f g h = cc ((heads _ _ _ _ h).0)
  begun_back (take_begun cs t ts) (take_begun ds u us) xs ys f g h =
      let first = heads _ _ _ _ h in
      let codes : cs ≡ ds = cc (first.0) in
      let split : items_of_part t ++ (items_of_begun ts ++ item.Mark ∷ xs) ≡ items_of_part u ++ (items_of_begun us ++ item.Mark ∷ ys) =
      sym (append_assoc (items_of_part t) (items_of_begun ts) (item.Mark ∷ xs)) ∙ first.1 ∙ append_assoc (items_of_part u) (items_of_begun us) (item.Mark ∷ ys) in
      let tree = part_back t u (items_of_begun ts ++ item.Mark ∷ xs) (items_of_begun us ++ item.Mark ∷ ys) f.0 g.0 split in
      let others = begun_back ts us xs ys f.1 g.1 tree.1 in
      (cc (codes, tree.0, others.0), others.1)

-- a partial tree is told from its items
pub part_told : (t u : PartialTree) → BranchesAreOpen t → BranchesAreOpen u → items_of_part t ≡ items_of_part u → t ≡ u
part_told t u f g h = (part_back t u [] [] f g (append-nil (items_of_part t) ∙ h ∙ sym (append-nil (items_of_part u)))).0
