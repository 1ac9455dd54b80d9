-- A list of items begins with the items of one tree at most.
use Rattle.std.proofs.Common.{◌≡◌, List, [], ◌∷◌, ◌++◌, length, map, refl, ap, sym, ◌∙◌, append_assoc}
use Rattle.certificate_lines.specs.declared.item.Item.{Item}
use Rattle.certificate_lines.specs.declared.item.Item.TheVariants as item
use Rattle.certificate_data.specs.Tree.{Weight, Allowance, room, weigh, stuck, seats, bound, Tree, leaf, branch, Takes, no_take, take}
use Rattle.certificate_data.specs.TreeValue.{weight_of, declared_weight, allowance_of, declared_allowance}
use Rattle.certificate_text.specs.Trees.{items_of_tree, items_of_takes}

-- the heads and the tails of equal lists
pub heads : (x y : Item) (xs ys : List Item) → x ∷ xs ≡ y ∷ ys → (x ≡ y) × (xs ≡ ys)
heads x y xs ys e = (cc, cc)

weights_back : (ws : List Weight) → map weight_of (map declared_weight ws) ≡ ws
weights_back [] = refl
weights_back (w ∷ ws) = ap (λ (l : List Weight). w ∷ l) (weights_back ws)

allowance_there : (a : Allowance) → allowance_of (declared_allowance a) ≡ a
allowance_there room = refl
allowance_there (weigh quota ws) = ap (weigh quota) (weights_back ws)

allowance_back : (a b : Allowance) → declared_allowance a ≡ declared_allowance b → a ≡ b
allowance_back a b e = sym (allowance_there a) ∙ ap allowance_of e ∙ allowance_there b

-- two lists with the same number of lines of a bound leaf
lines_back : (ks bs : List Allowance) (xs ys : List Item) → length ks ≡ length bs → map (λ a. item.Allows (declared_allowance a)) ks ++ xs ≡ map (λ a. item.Allows (declared_allowance a)) bs ++ ys → (ks ≡ bs) × (xs ≡ ys)
lines_back [] [] xs ys e h = (refl, h)
lines_back [] (b ∷ bs) xs ys e h = cc
lines_back (a ∷ ks) [] xs ys e h = cc
lines_back (a ∷ ks) (b ∷ bs) xs ys e h =
    let first = heads (item.Allows (declared_allowance a)) (item.Allows (declared_allowance b)) (map (λ a. item.Allows (declared_allowance a)) ks ++ xs) (map (λ a. item.Allows (declared_allowance a)) bs ++ ys) h in
    let long : length ks ≡ length bs = cc in
    let later = lines_back ks bs xs ys long first.1 in
    let same : a ≡ b = allowance_back a b (cc (first.0)) in
    (cc (same, later.0), later.1)

mutual
  pub tree_back : (t u : Tree) (xs ys : List Item) → items_of_tree t ++ xs ≡ items_of_tree u ++ ys → (t ≡ u) × (xs ≡ ys)
  tree_back (leaf (stuck c)) (leaf (stuck d)) xs ys h = (cc ((heads _ _ _ _ h).0), (heads _ _ _ _ h).1)
  tree_back (leaf (stuck c)) (leaf seats) xs ys h = cc ((heads _ _ _ _ h).0)
  tree_back (leaf (stuck c)) (leaf (bound bs)) xs ys h = cc ((heads _ _ _ _ h).0)
  tree_back (leaf (stuck c)) (branch d k us v) xs ys h = cc ((heads _ _ _ _ h).0)
  tree_back (leaf seats) (leaf (stuck d)) xs ys h = cc ((heads _ _ _ _ h).0)
  tree_back (leaf seats) (leaf seats) xs ys h = (refl, (heads _ _ _ _ h).1)
  tree_back (leaf seats) (leaf (bound bs)) xs ys h = cc ((heads _ _ _ _ h).0)
  tree_back (leaf seats) (branch d k us v) xs ys h = cc ((heads _ _ _ _ h).0)
  tree_back (leaf (bound ks)) (leaf (stuck d)) xs ys h = cc ((heads _ _ _ _ h).0)
  tree_back (leaf (bound ks)) (leaf seats) xs ys h = cc ((heads _ _ _ _ h).0)
  tree_back (leaf (bound ks)) (leaf (bound bs)) xs ys h =
      let first = heads _ _ _ _ h in
      let long : length ks ≡ length bs = cc (first.0) in
      let lines = lines_back ks bs xs ys long first.1 in
      (ap (λ (l : List Allowance). leaf (bound l)) lines.0, lines.1)
  tree_back (leaf (bound ks)) (branch d k us v) xs ys h = cc ((heads _ _ _ _ h).0)
  tree_back (branch c j ts t) (leaf (stuck d)) xs ys h = cc ((heads _ _ _ _ h).0)
  tree_back (branch c j ts t) (leaf seats) xs ys h = cc ((heads _ _ _ _ h).0)
  tree_back (branch c j ts t) (leaf (bound bs)) xs ys h = cc ((heads _ _ _ _ h).0)
  tree_back (branch c j ts t) (branch d k us u) xs ys h =
      let first = heads _ _ _ _ h in
      let county : c ≡ d = cc (first.0) in
      let limit : j ≡ k = cc (first.0) in
      let split : items_of_takes ts ++ item.Mark ∷ (items_of_tree t ++ xs) ≡ items_of_takes us ++ item.Mark ∷ (items_of_tree u ++ ys) =
      sym (append_assoc (items_of_takes ts) (item.Mark ∷ items_of_tree t) xs) ∙ first.1 ∙ append_assoc (items_of_takes us) (item.Mark ∷ items_of_tree u) ys in
      let takes = takes_back ts us (items_of_tree t ++ xs) (items_of_tree u ++ ys) split in
      let marked = tree_back t u xs ys takes.1 in
      (cc (county, limit, takes.0, marked.0), marked.1)

  pub takes_back : (ts us : Takes) (xs ys : List Item) → items_of_takes ts ++ item.Mark ∷ xs ≡ items_of_takes us ++ item.Mark ∷ ys → (ts ≡ us) × (xs ≡ ys)
  takes_back no_take no_take xs ys h = (refl, (heads _ _ _ _ h).1)
  takes_back no_take (take ds u us) xs ys h = cc ((heads _ _ _ _ h).0)
  takes_back (take cs t ts) no_take xs ys h = cc ((heads _ _ _ _ h).0)
  takes_back (take cs t ts) (take ds u us) xs ys h =
      let first = heads _ _ _ _ h in
      let codes : cs ≡ ds = cc (first.0) in
      let split : items_of_tree t ++ (items_of_takes ts ++ item.Mark ∷ xs) ≡ items_of_tree u ++ (items_of_takes us ++ item.Mark ∷ ys) =
      sym (append_assoc (items_of_tree t) (items_of_takes ts) (item.Mark ∷ xs)) ∙ first.1 ∙ append_assoc (items_of_tree u) (items_of_takes us) (item.Mark ∷ ys) in
      let tree = tree_back t u (items_of_takes ts ++ item.Mark ∷ xs) (items_of_takes us ++ item.Mark ∷ ys) split in
      let others = takes_back ts us xs ys tree.1 in
      (cc (codes, tree.0, others.0), others.1)
