-- What the search keeps and comes to.
use Rattle.std.proofs.Common.{◌≡◌, ℕ, ◌+◌, ◌-◌, ◌≤◌, ◌<◌, Bool, List, [], ◌∷◌, ◌++◌, length, map, take, drop, get_or, Vec, Global, refl, sym, ap, ◌∙◌, subst, arith, Option, Some, IfSome}
use Rattle.grouping_laws.proofs.PlaceCodes.{mapped_has}
use Rattle.std.specs.List.{AllByRecursion}
use Rattle.std.proofs.lemmas.List.{map-append, take_more}
use Rattle.grouping_laws.specs.Problem.{Problem}
use Rattle.grouping_laws.specs.Grouping.{Grouping}
use Rattle.grouping_laws.specs.GroupsFrom.{IsOrder}
use Rattle.county_codes.specs.Limits.{most_counties}
use Rattle.grouping_laws.proofs.Elements.{Has, has_get, contains_from_has}
use Rattle.county_codes.specs.declared.group.Grouping.{Grouping as GroupingHeld}
use Rattle.certificate_lines.specs.Fitting.{AreCodes, IsSet}
use Rattle.certificate_lines.specs.declared.item.Item.{Item}
use Rattle.certificate_lines.specs.declared.item.Item.TheVariants as item
use Rattle.certificate_lines.specs.declared.item.Opening.TheVariants as opening
use Rattle.certificate_data.specs.declared.tree.Leaf.{Leaf as DeclaredLeaf}
use Rattle.certificate_data.specs.declared.tree.Branch.{Branch, roll-Branch}
use Rattle.certificate_data.specs.declared.tree.Take.{Take, roll-Take}
use Rattle.certificate_data.specs.declared.tree.Tree.{Tree as DeclaredTree, roll-Tree}
use Rattle.certificate_data.specs.TreeValue.{tree_of, leaf_of, take_onto, list_of_takes}
use Rattle.certificate_text.specs.Trees.{leaf_items}
use Rattle.certificate_data.proofs.TreeLists.{list_onto, made_tree, made_takes}
use Rattle.certificate_text.proofs.TreeViews.{items_of_branches, tree_items, made_branch}
use Rattle.state_groups.specs.PlacedValues.{codes_of_set, codes_of_sets}
use Rattle.certificate_laws.specs.Agreement.{Agrees}
use Rattle.certificate_laws.specs.Fitting.{Fits}
use Rattle.certificate_laws.specs.Groups.{IsGroupAt, AreGroupsAt}
use Rattle.certificate_laws.specs.Proving.{limit_of, NamesLimit, Proves, CanBranch}
use Rattle.certificate_laws.specs.Certificate.{TargetFits}
use Rattle.list_laws.specs.Completeness.{IsComplete}
use Rattle.certificate_data.specs.Round.{Round}
use Rattle.certificate_laws.specs.State.{State, IsState, close, raise}
use Rattle.certificate_data.specs.Tree.{Tree, leaf, Takes}
use Rattle.certificate_data.specs.Tree as tree
use Rattle.certificate_laws.proofs.Branches.{branch_keeps_state}
use Rattle.certificate_laws.proofs.Completion.{open_least}
use Rattle.certificate_text.specs.TreeItems.{FitsInTree}
use Rattle.branch_bound.specs.Searching.{search_problem, search_round, search_state, IsPositionAt, IsEnd, IsProof, IsBetter, IsTakeOf, IsTakenGroup, AreTakesOf, AreTakesAt, IsChoice}
use Rattle.branch_bound.specs.declared.outcome.Taken.{Taken}
use Rattle.branch_bound.specs.declared.outcome.Takes.{Takes as TakesFound}
use Rattle.state_groups.specs.declared.state.State.{State as StateHeld}
use Rattle.county_problem.specs.OrderedValue.{code_at}
use Rattle.search_groups.specs.declared.input.SearchInput.{SearchInput}
use Rattle.search_groups.specs.declared.position.Position.{Position}
use Rattle.place_sets.proofs.AllLists.{all_append}
use Rattle.board_laws.specs.PartialTrees.{PartialTree, open_leaf, begun, PartialTakes, take_begun, open_takes}
use Rattle.branch_bound.specs.Parts.{whole_takes, whole_branches, IsOpenPart}
use Rattle.branch_bound.proofs.Joining.{take_step, branch_step, complete_step, lines_step}
use Rattle.branch_bound.proofs.OpenParts.{part_step, stopped_step, cut_at}

-- a position is at its own state
pub own : (C : Type 0) (test : C → ℕ → Bool) (g : SearchInput C) (s : State) (at : Position C) → IsPositionAt test g s at → IsPositionAt test g (search_state g test at.state) at
own C test g s at is = subst (λ z. IsPositionAt test g z at) (sym is.is) is

-- a take that is made of codes and a tree
made_take_onto : (codes : List ℕ) (t : DeclaredTree) (others : Takes) → take_onto (roll-Take (record { codes = codes; tree = t })) others ≡ tree.take codes (tree_of t) others
unfolding roll-Take denote.Hole.Carrier.roll
made_take_onto codes t others = refl

-- the take of a group, where its tree proves the state at which it is closed
pub take_made : (p : Problem) (round : Round) (s closed : State) (group codes : List ℕ) (t : DeclaredTree) → closed ≡ close group s → codes ≡ group → IsSet codes → IsProof p round closed t → IsTakeOf p round s group (roll-Take (record { codes = codes; tree = t }))
take_made p round s closed group codes t is same set proof = record {
  tree = tree_of t;
  is = λ others. made_take_onto codes t others ∙ ap (λ z. tree.take z (tree_of t) others) same;
  proves = subst (λ z. Proves (tree_of t) p round z) is proof.0;
  lines = (subst IsSet same set, proof.1);
  complete = λ fits. subst (λ z. IsComplete (tree_of t) p round z) is (proof.2 fits);
}

-- a better grouping where a group is closed is one
pub better_closed : (p : Problem) (round : Round) (s closed : State) (group : List ℕ) (g : GroupingHeld) → closed ≡ close group s → Fits round.format p s group → IsBetter p round closed g → IsBetter p round s g
better_closed p round s closed group g is fits better = record {
  found = (better.found.0, (branch_keeps_state).closed_agrees round.format p s group g.groups.items fits (subst (λ z. Agrees z g.groups.items) is better.found.1), better.found.2);
  sorted = better.sorted;
  lines = better.lines;
}

-- what holds of the state behind the branches so far holds, behind them, of the first one
pub record IsBehind (p : Problem) (round : Round) (first s : State) (bs : List Branch) : Type 0 where
  pub whole : (t : Tree) → Proves t p round s → Proves (list_onto bs t) p round first
  pub parts : (part : PartialTree) → IsOpenPart p round s part → IsOpenPart p round first (whole_branches bs part)
  pub complete : TargetFits p round.limit round.target → (t : Tree) → IsComplete t p round s → IsComplete (list_onto bs t) p round first
  pub agrees : (h : Grouping) → Agrees s h → Agrees first h
  pub lines : AllByRecursion (FitsInTree round.format) (items_of_branches bs)

-- a better grouping at the state behind them is one at the first
pub better_behind : {p : Problem} {round : Round} {first s : State} {bs : List Branch} → IsBehind p round first s bs → (g : GroupingHeld) → IsBetter p round s g → IsBetter p round first g
better_behind behind g better = record {
  found = (better.found.0, behind.agrees g.groups.items better.found.1, better.found.2);
  sorted = better.sorted;
  lines = better.lines;
}

-- an item of a list, by its index
pub listed : {C : Type 0} (groups : List C) (i : ℕ) (item : C) → i < length groups → item ≡ get_or groups i item → Has groups item
listed groups i item l e = subst (Has groups) (sym e) (has_get groups i item l)

-- what holds of the items that were found holds of the slice of them
pub some_items : {X : Type 0} {found : Option (Vec X Global)} {v : Vec X Global} {xs : List X} (P : List X → Type 0) → found ≡ Some v → xs ≡ v.items → IfSome found (λ z. P z.items) → P xs
some_items {X = X} P is same all = subst P (sym same) (subst (λ (z : Option (Vec X Global)). IfSome z (λ y. P y.items)) is all)

module _ {C : Type 0} (test : C → ℕ → Bool) (g : SearchInput C) (held : StateHeld C) where
  abbrev order : List ℕ
  order = g.graph.now.ordered.now.order

  abbrev p : Problem
  p = search_problem g

  abbrev round : Round
  round = search_round g

  abbrev s : State
  s = search_state g test held

  -- these are the groups of the takes of a branch at the county at this place
  abbrev pub GroupsAt : ℕ → ℕ → List C → Type 0
  GroupsAt place limit groups = AreGroupsAt p round s (code_at order place) limit (codes_of_sets order test groups)

  -- all takes of such a branch
  abbrev pub TakesAt : ℕ → ℕ → TakesFound → Type 0
  TakesAt place limit found = AreTakesAt p round s (code_at order place) limit found

  -- the take of a group
  abbrev pub TakenAt : C → Taken → Type 0
  TakenAt group found = IsTakenGroup p round s (codes_of_set order test group) found

  -- each of the groups of a branch is one
  pub group_there : (place limit : ℕ) (groups : List C) (i : ℕ) (item : C) → GroupsAt place limit groups → i < length groups → item ≡ get_or groups i item → IsGroupAt p round s (code_at order place) limit (codes_of_set order test item)
  group_there place limit groups i item are l e =
      ((are.each (codes_of_set order test item)).0 (contains_from_has (codes_of_sets order test groups) (codes_of_set order test item) (mapped_has (codes_of_set order test) groups item (listed groups i item l e))))

  -- a branch at one of whose takes the search stopped
  pub stopped_there : IsOrder p round.order → IsState p round s → round.limit ≤ most_counties → (place : ℕ) (limit : Option ℕ) → limit_of round limit ≤ round.limit → NamesLimit round.format limit → CanBranch round s (code_at order place) (limit_of round limit)
      → FitsInTree round.format (item.Opens (opening.Branch (code_at order place) limit)) → (groups others : List C) → others ≡ groups → GroupsAt place (limit_of round limit) groups → (i : ℕ) (group : C) → i < length groups → group ≡ get_or groups i group
      → (ts : List Take) → AreTakesOf p round s (codes_of_sets order test (take i groups)) ts → (part made : PartialTree) (takes : PartialTakes)
      → takes ≡ whole_takes (list_of_takes ts) (take_begun (codes_of_set order test group) part (open_takes (codes_of_sets order test (take (length others - (i + 1)) (drop (i + 1) others))))) → made ≡ begun (code_at order place) limit takes open_leaf
      → AllByRecursion AreCodes (codes_of_sets order test (group ∷ take (length others - (i + 1)) (drop (i + 1) others))) → IsOpenPart p round (close (codes_of_set order test group) s) part → IsOpenPart p round s made
  stopped_there whole state few place limit small names can fits groups others same are i group l e ts before part made takes all is codes here =
      subst (IsOpenPart p round s) (sym (is ∙ ap (λ z. begun (code_at order place) limit z open_leaf) all))
      (stopped_step p round s whole state (code_at order place) (limit_of round limit) small few (codes_of_sets order test groups) are limit ts (codes_of_sets order test (take i groups)) (codes_of_sets order test (take (length others - (i + 1)) (drop (i + 1) others)))
      (codes_of_set order test group) part refl names can fits (cut_at (codes_of_set order test) groups others i group same l e) before codes here)

  -- one take more
  pub takes_more : (groups : List C) (i : ℕ) (item : C) (ts news : List Take) (t : Take) → i < length groups → item ≡ get_or groups i item → news ≡ ts ++ t ∷ [] → IsTakeOf p round s (codes_of_set order test item) t → AreTakesOf p round s (codes_of_sets order test (take i groups)) ts
      → AreTakesOf p round s (codes_of_sets order test (take (i + 1) groups)) news
  takes_more groups i item ts news t l e push is are =
      let f = codes_of_set order test in
      subst (λ z. AreTakesOf p round s (codes_of_sets order test (take (i + 1) groups)) z) (sym push)
      (subst (λ z. AreTakesOf p round s z (ts ++ t ∷ [])) (sym (ap (map f) (take_more groups i item l ∙ ap (λ z. take i groups ++ z ∷ []) (sym e)) ∙ map-append f (take i groups) (item ∷ [])))
      (take_step p round s (codes_of_sets order test (take i groups)) (codes_of_set order test item) ts t are is))

-- a leaf behind the branches so far
pub leaf_end : {p : Problem} {round : Round} {first s : State} (branches : Vec Branch Global) (last : DeclaredLeaf) → IsBehind p round first s branches.items → IsEnd p round s last → IsProof p round first (roll-Tree (record { branches = branches; leaf = last }))
leaf_end {p = p} {round = round} {first = first} branches last behind end = (
  subst (λ (t : Tree). Proves t p round first) (sym (made_tree branches last)) (behind.whole (leaf (leaf_of last)) end.0.valid),
  subst (λ (l : List Item). AllByRecursion (FitsInTree round.format) l) (sym (tree_items branches last)) (all_append (FitsInTree round.format) (items_of_branches branches.items) (leaf_items (leaf_of last)) behind.lines end.0.lines),
  λ fits. subst (λ (t : Tree). IsComplete t p round first) (sym (made_tree branches last)) (behind.complete fits (leaf (leaf_of last)) (end.1 fits)),
)

module _ (p : Problem) (round : Round) (first s : State) (county : ℕ) (limit : Option ℕ) (bs news : List Branch) (takes : Vec Take Global) (pushed : news ≡ bs ++ roll-Branch (record { county = county; limit = limit; takes = takes }) ∷ []) where
  abbrev size : ℕ
  size = limit_of round limit

  -- a tree where the county is raised, behind one branch more
  branched : (next : State) (groups : List (List ℕ)) → NamesLimit round.format limit → CanBranch round s county size → AreGroupsAt p round s county size groups → AreTakesOf p round s groups takes.items → next ≡ raise county size s → ((t : Tree) → Proves t p round s → Proves (list_onto bs t) p round first)
      → (t : Tree) → Proves t p round next → Proves (list_onto news t) p round first
  branched next groups names can all are raised whole t proves =
      branch_step p round first s county limit bs news (roll-Branch (record { county = county; limit = limit; takes = takes })) (list_of_takes takes.items) names can (subst (AreGroupsAt p round s county size) (sym are.groups_are) all) are.each
      (λ r. made_takes county limit takes r) pushed whole t (subst (λ z. Proves t p round z) raised proves)

  branched_complete : (next : State) (groups : List (List ℕ)) → AreTakesOf p round s groups takes.items → next ≡ raise county size s → TargetFits p round.limit round.target → ((t : Tree) → IsComplete t p round s → IsComplete (list_onto bs t) p round first)
      → (t : Tree) → IsComplete t p round next → IsComplete (list_onto news t) p round first
  branched_complete next groups are raised fits whole t complete =
      complete_step p round first s county limit bs news (roll-Branch (record { county = county; limit = limit; takes = takes })) (list_of_takes takes.items) (are.complete fits) (λ r. made_takes county limit takes r) pushed whole t
      (subst (λ z. IsComplete t p round z) raised complete)

  branched_lines : (groups : List (List ℕ)) → FitsInTree round.format (item.Opens (opening.Branch county limit)) → AreTakesOf p round s groups takes.items → AllByRecursion (FitsInTree round.format) (items_of_branches bs) → AllByRecursion (FitsInTree round.format) (items_of_branches news)
  branched_lines groups fits are lines =
      lines_step round.format county limit bs news (roll-Branch (record { county = county; limit = limit; takes = takes })) (list_of_takes takes.items) fits are.lines (made_branch county limit takes) pushed lines

-- what agrees where a county is raised agreed before
raised_agrees : (round : Round) (s next : State) (county size : ℕ) (h : Grouping) → CanBranch round s county size → next ≡ raise county size s → Agrees next h → Agrees s h
raised_agrees round s next county size h can raised a = (branch_keeps_state).raised_agrees s county size h (omega (arith, open_least s size county can.is_open)) (subst (λ z. Agrees z h) raised a)

-- one branch more, behind which the county is raised
pub behind_more : (p : Problem) (round : Round) (first s next : State) (bs news : List Branch) (county : ℕ) (limit : Option ℕ) (takes : Vec Take Global) → IsBehind p round first s bs → IsOrder p round.order → IsState p round s → limit_of round limit ≤ round.limit → round.limit ≤ most_counties
    → NamesLimit round.format limit → CanBranch round s county (limit_of round limit) → FitsInTree round.format (item.Opens (opening.Branch county limit))
    → (groups : List (List ℕ)) × AreGroupsAt p round s county (limit_of round limit) groups × AreTakesOf p round s groups takes.items
    → news ≡ bs ++ roll-Branch (record { county = county; limit = limit; takes = takes }) ∷ [] → next ≡ raise county (limit_of round limit) s → IsBehind p round first next news
behind_more p round first s next bs news county limit takes behind order state small few names can fits all pushed raised = record {
  whole = branched p round first s county limit bs news takes pushed next all.0 names can all.1 all.2 raised behind.whole;
  parts = λ part open_part.
      part_step p round s order state county (limit_of round limit) small few all.0 all.1 first limit bs news takes refl names can fits all.2 pushed behind.parts part (subst (λ z. IsOpenPart p round z part) raised open_part);
  complete = λ fit. branched_complete p round first s county limit bs news takes pushed next all.0 all.2 raised fit (behind.complete fit);
  agrees = λ h a. behind.agrees h (raised_agrees round s next county (limit_of round limit) h can raised a);
  lines = branched_lines p round first s county limit bs news takes pushed all.0 fits all.2 behind.lines;
}

-- a county to branch at is in a group of a county or more
pub choice_size : (C : Type 0) (test : C → ℕ → Bool) (g : SearchInput C) (s : State) (at : Position C) (place : ℕ) → IsPositionAt test g s at → IsChoice test g.graph.now.ordered.now.order at.groups.items place → 1 ≤ at.size
choice_size C test g s at place is choice = let c = is.known.each choice.group choice.known in omega (arith, c.size, c.lawful.connected.some_county)
