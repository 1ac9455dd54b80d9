-- Partial trees of what a search has proved when its steps run out.
use Rattle.std.proofs.Common.{◌≡◌, ℕ, ◌+◌, ◌-◌, ◌≤◌, ◌<◌, inl, inr, List, [], ◌∷◌, ◌++◌, length, map, drop, get_or, take as firsts, take_all, Vec, Global, Option, None, Result, Ok, Err, IfOk, refl, sym, ap, ◌∙◌, subst, arith, append_assoc, append-nil}
use Rattle.std.specs.List.{AllByRecursion}
use Rattle.std.specs.Iterator.{Yields}
use Rattle.std.specs.Vec.Iter.{into_iter_items, into_iter_len, into_iter_steps}
use Rattle.std.proofs.lemmas.Iterator.Adapters.{YieldsList-from_vec}
use Rattle.std.proofs.lemmas.Iterator.Consumers.{YieldsList-end}
use Rattle.std.proofs.lemmas.List.{map-append, map-id, take-append-drop, drop_more, length-drop}
use Rattle.std.proofs.lemmas.List.Elements.{All-from_recursion}
use Rattle.place_sets.proofs.AllLists.{all_append}
use Rattle.county_codes.specs.Limits.{most_counties}
use Rattle.grouping_laws.specs.Problem.{Problem}
use Rattle.grouping_laws.specs.GroupsFrom.{IsOrder}
use Rattle.grouping_laws.proofs.Elements.{Has, has_left, has_right, contains_from_has}
use Rattle.certificate_data.specs.Round.{Round}
use Rattle.certificate_data.specs.Tree.{Takes, no_take, take, groups_of}
use Rattle.certificate_data.specs.TreeValue.{tree_of, take_onto, list_of_takes}
use Rattle.certificate_data.specs.declared.tree.Branch.{Branch, Branch', items_hidden-the_row-Take-0, roll-Branch, out-Branch, roll-out-Branch}
use Rattle.certificate_data.specs.declared.tree.Take.{Take, Take', out-Take}
use Rattle.certificate_data.specs.declared.tree.Tree.{Tree as TreeHeld}
use Rattle.certificate_data.proofs.TreeLists.{take_row, takes_row}
use Rattle.certificate_lines.specs.Fitting.{AreCodes, IsSet}
use Rattle.certificate_lines.specs.declared.item.Opening.TheVariants as opening
use Rattle.certificate_lines.specs.declared.item.Item.TheVariants as item
use Rattle.certificate_text.specs.Trees.{items_of_tree, items_of_takes}
use Rattle.certificate_text.specs.TreeItems.{FitsInTree}
use Rattle.certificate_text.proofs.Texts.{have_texts}
use Rattle.certificate_laws.specs.State.{State, IsState, close, raise}
use Rattle.certificate_laws.specs.Groups.{IsGroupAt, AreGroupsAt}
use Rattle.certificate_laws.specs.Proving.{limit_of, NamesLimit, CanBranch, EachProves}
use Rattle.certificate_laws.proofs.Branches.{branch_keeps_state}
use Rattle.board_laws.specs.PartialTrees.{PartialTree, open_leaf, whole, begun, PartialTakes, no_begun, take_begun, open_takes, open_leaves, begun_groups, EachProvesPart, IsPart}
use Rattle.partial_trees.specs.declared.tree.PartialTree.{PartialTree as PartialTreeHeld, out-PartialTree, roll-PartialTree}
use Rattle.partial_trees.specs.declared.tree.PartialBranch.{PartialBranch, PartialBranch', roll-PartialBranch}
use Rattle.partial_trees.specs.declared.tree.PartialTake.{PartialTake, roll-PartialTake}
use Rattle.partial_trees.specs.PartialValue.{rest_of, partial_of, begun_onto, take_onto as part_onto, list_of_begun, list_onto}
use Rattle.partial_trees.specs.OpenStates.{AreSets, EachIsSpelled}
use Rattle.partial_trees.specs.OpenBranches.{BranchesAreOpen, BranchesOfTakesAreOpen}
use Rattle.partial_trees.specs.Refusals.{IsPartProof}
use Rattle.partial_trees.proofs.PartialLists.{made_tree, made_takes, made_take, tree_made}
use Rattle.branch_bound.specs.declared.outcome.SearchOutcome.{SearchOutcome}
use Rattle.branch_bound.specs.declared.outcome.SearchOutcome.TheVariants as outcome
use Rattle.branch_bound.specs.Searching.{AreTakesOf, IsOutcome}
use Rattle.branch_bound.specs.Parts.{whole_takes, whole_branch, whole_branches, IsOpenPart}
use Rattle.branch_bound.proofs.Joining.{all_parts}

-- whole takes and branches, and one more behind them
whole_more : (ts : List Take) (t : Take) (others : PartialTakes) → whole_takes (list_of_takes (ts ++ t ∷ [])) others ≡ whole_takes (list_of_takes ts) (whole_takes (take_onto t no_take) others)
whole_more [] t others = refl
whole_more (Take' codes tree ∷ ts) t others = ap (take_begun codes (whole (tree_of tree))) (whole_more ts t others)

whole_take : (t : Take) (others : PartialTakes) → whole_takes (take_onto t no_take) others ≡ take_begun (out-Take t).codes (whole (tree_of (out-Take t).tree)) others
unfolding out-Take denote.Hole.Carrier.out
whole_take (Take' codes tree) others = refl

branches_more : (bs : List Branch) (b : Branch) (part : PartialTree) → whole_branches (bs ++ b ∷ []) part ≡ whole_branches bs (whole_branch b part)
branches_more [] b part = refl
branches_more (a ∷ bs) b part = ap (whole_branch a) (branches_more bs b part)

begun_more : (bs ys : List PartialBranch) (part : PartialTree) → list_onto (bs ++ ys) part ≡ list_onto bs (list_onto ys part)
begun_more [] ys part = refl
begun_more (b ∷ bs) ys part = ap (begun_onto b) (begun_more bs ys part)

-- a whole branch that is made of a list of takes
made_whole : (county : ℕ) (limit : Option ℕ) (takes : Vec Take Global) (part : PartialTree) → whole_branch (roll-Branch (record { county = county; limit = limit; takes = takes })) part ≡ begun county limit (whole_takes (list_of_takes takes.items) no_begun) part
unfolding Rattle.certificate_data.specs.declared.tree.Branch.TheBlock.hidden-the_row-Take-0 roll-Branch denote.Hole.Carrier.roll
made_whole county limit takes part =
    let row = takes_row (roll-Branch (record { county = county; limit = limit; takes = takes })) in
    ap (λ (ts : Takes). begun county limit (whole_takes ts no_begun) part) (take_row row.0 row.1 ∙ ap list_of_takes (items_hidden-the_row-Take-0 takes))

whole_made : (b : Branch) (part : PartialTree) → whole_branch b part ≡ begun (out-Branch b).county (out-Branch b).limit (whole_takes (list_of_takes (out-Branch b).takes.items) no_begun) part
whole_made b part = ap (λ z. whole_branch z part) (sym (roll-out-Branch b)) ∙ made_whole (out-Branch b).county (out-Branch b).limit (out-Branch b).takes part

-- one whole take more among partial ones
pub part_more : (ts : List Take) (t : Take) (parts news : List PartialTake) (tree : PartialTreeHeld) → partial_of tree ≡ whole (tree_of (out-Take t).tree) → news ≡ parts ++ roll-PartialTake (record { codes = (out-Take t).codes; tree = tree }) ∷ []
    → ((more : List PartialTake) → list_of_begun (parts ++ more) ≡ whole_takes (list_of_takes ts) (list_of_begun more))
    → (more : List PartialTake) → list_of_begun (news ++ more) ≡ whole_takes (list_of_takes (ts ++ t ∷ [])) (list_of_begun more)
part_more ts t parts news tree is pushed so more =
    let q = roll-PartialTake (record { codes = (out-Take t).codes; tree = tree }) in
    let one = made_take (out-Take t).codes tree (list_of_begun more) ∙ ap (λ z. take_begun (out-Take t).codes z (list_of_begun more)) is in
    ap (λ z. list_of_begun (z ++ more)) pushed
    ∙ ap list_of_begun (append_assoc parts (q ∷ []) more)
    ∙ so (q ∷ more)
    ∙ ap (whole_takes (list_of_takes ts)) (one ∙ sym (whole_take t (list_of_begun more)))
    ∙ sym (whole_more ts t (list_of_begun more))

-- one whole branch more among partial ones
pub line_more : (bs : List Branch) (b : Branch) (parts news : List PartialBranch) (takes : Vec PartialTake Global) → ((more : List PartialTake) → list_of_begun (takes.items ++ more) ≡ whole_takes (list_of_takes (out-Branch b).takes.items) (list_of_begun more))
    → news ≡ parts ++ roll-PartialBranch (record { county = (out-Branch b).county; limit = (out-Branch b).limit; takes = takes }) ∷ [] → ((part : PartialTree) → list_onto parts part ≡ whole_branches bs part)
    → (part : PartialTree) → list_onto news part ≡ whole_branches (bs ++ b ∷ []) part
line_more bs b parts news takes are pushed so part =
    let q = roll-PartialBranch (record { county = (out-Branch b).county; limit = (out-Branch b).limit; takes = takes }) in
    let all : list_of_begun takes.items ≡ whole_takes (list_of_takes (out-Branch b).takes.items) no_begun = ap list_of_begun (sym (append-nil takes.items)) ∙ are [] in
    ap (λ z. list_onto z part) pushed
    ∙ begun_more parts (q ∷ []) part
    ∙ so (begun_onto q part)
    ∙ ap (whole_branches bs) (made_takes (out-Branch b).county (out-Branch b).limit takes part ∙ ap (λ z. begun (out-Branch b).county (out-Branch b).limit z part) all ∙ sym (whole_made b part))
    ∙ sym (branches_more bs b part)

-- a loop over a `Vec` that has ended had all its items
pub all_yielded : {A Z : Type 0} (s : _) (xs yielded : List A) (t u : _) (r : Option A) → into_iter_items s ≡ xs → into_iter_len s ≡ length xs → Yields (into_iter_steps {X = A} {Z = Z}) s yielded t → r ≡ None → into_iter_steps {X = A} {Z = Z} t r u → yielded ≡ xs
all_yielded s xs yielded t u r items len by none steps = sym (map-id yielded) ∙ (YieldsList-end (YieldsList-from_vec {s = s} xs items len) yielded t by r u none steps).0

-- a partial tree behind whole branches
pub behind_whole : (t : PartialTreeHeld) (branches : Vec PartialBranch Global) (lines : List PartialBranch) (bs : List Branch) → branches.items ≡ lines ++ (out-PartialTree t).branches.items → ((part : PartialTree) → list_onto lines part ≡ whole_branches bs part)
    → partial_of (roll-PartialTree (record { branches = branches; rest = (out-PartialTree t).rest })) ≡ whole_branches bs (partial_of t)
behind_whole t branches lines bs e so =
    made_tree branches (out-PartialTree t).rest
    ∙ ap (λ z. list_onto z (rest_of (out-PartialTree t).rest)) e
    ∙ begun_more lines (out-PartialTree t).branches.items (rest_of (out-PartialTree t).rest)
    ∙ so (list_onto (out-PartialTree t).branches.items (rest_of (out-PartialTree t).rest))
    ∙ ap (whole_branches bs) (sym (tree_made t))

-- no branch
pub alone : (branches : Vec PartialBranch Global) (rest : Option TreeHeld) → branches.items ≡ [] → partial_of (roll-PartialTree (record { branches = branches; rest = rest })) ≡ rest_of rest
alone branches rest e = made_tree branches rest ∙ ap (λ z. list_onto z (rest_of rest)) e

-- one branch alone, where an open leaf stands behind it
pub one_branch : (county : ℕ) (limit : Option ℕ) (takes : Vec PartialTake Global) (branches : Vec PartialBranch Global) → branches.items ≡ roll-PartialBranch (record { county = county; limit = limit; takes = takes }) ∷ []
    → partial_of (roll-PartialTree (record { branches = branches; rest = None })) ≡ begun county limit (list_of_begun takes.items) open_leaf
one_branch county limit takes branches e = made_tree branches None ∙ ap (λ z. list_onto z open_leaf) e ∙ made_takes county limit takes open_leaf

-- takes with open leaves, and others behind them
abbrev pub open_before : List (List ℕ) → PartialTakes → PartialTakes
open_before [] others = others
open_before (codes ∷ groups) others = take_begun codes open_leaf (open_before groups others)

pub open_more : (groups : List (List ℕ)) (codes : List ℕ) (others : PartialTakes) → open_before (groups ++ codes ∷ []) others ≡ open_before groups (take_begun codes open_leaf others)
open_more [] codes others = refl
open_more (g ∷ groups) codes others = ap (take_begun g open_leaf) (open_more groups codes others)

pub open_all : (groups : List (List ℕ)) → open_before groups no_begun ≡ open_takes groups
open_all [] = refl
open_all (g ∷ groups) = ap (take_begun g open_leaf) (open_all groups)

-- one open take more
pub stopped_more : (parts news : List PartialTake) (q : PartialTake) (before : PartialTakes → PartialTakes) (groups : List (List ℕ)) (codes : List ℕ) (tree : PartialTree) → ((others : PartialTakes) → part_onto q others ≡ take_begun codes tree others) → tree ≡ open_leaf → news ≡ parts ++ q ∷ []
    → ((more : List PartialTake) → list_of_begun (parts ++ more) ≡ before (open_before groups (list_of_begun more)))
    → (more : List PartialTake) → list_of_begun (news ++ more) ≡ before (open_before (groups ++ codes ∷ []) (list_of_begun more))
stopped_more parts news q before groups codes tree is none pushed so more =
    ap (λ z. list_of_begun (z ++ more)) pushed
    ∙ ap list_of_begun (append_assoc parts (q ∷ []) more)
    ∙ so (q ∷ more)
    ∙ ap (λ z. before (open_before groups z)) (is (list_of_begun more) ∙ ap (λ z. take_begun codes z (list_of_begun more)) none)
    ∙ ap before (sym (open_more groups codes (list_of_begun more)))

-- the take at which the search stopped
pub stopped_one : (parts news : List PartialTake) (q : PartialTake) (takes : Takes) (codes : List ℕ) (tree : PartialTree) → ((others : PartialTakes) → part_onto q others ≡ take_begun codes tree others) → news ≡ parts ++ q ∷ []
    → ((more : List PartialTake) → list_of_begun (parts ++ more) ≡ whole_takes takes (list_of_begun more))
    → (more : List PartialTake) → list_of_begun (news ++ more) ≡ whole_takes takes (take_begun codes tree (list_of_begun more))
stopped_one parts news q takes codes tree is pushed so more =
    ap (λ z. list_of_begun (z ++ more)) pushed
    ∙ ap list_of_begun (append_assoc parts (q ∷ []) more)
    ∙ so (q ∷ more)
    ∙ ap (whole_takes takes) (is (list_of_begun more))

-- codes of a list more
pub codes_behind : (groups : List (List ℕ)) (codes : List ℕ) → AllByRecursion AreCodes groups → AreCodes codes → AllByRecursion AreCodes (groups ++ codes ∷ [])
codes_behind groups codes all small = all_append AreCodes groups (codes ∷ []) all (small, tt)

-- an open leaf is a part of any state
pub open_leaf_part : (p : Problem) (round : Round) (s : State) → IsOpenPart p round s open_leaf
open_leaf_part p round s = record { proof = (tt, tt); some = omega arith; branches = tt }

module _ (p : Problem) (round : Round) (s : State) where
  -- a branch in front of a part of the raised state
  branch_part : (county : ℕ) (limit : Option ℕ) (takes : PartialTakes) (raised : PartialTree) → NamesLimit round.format limit → CanBranch round s county (limit_of round limit) → FitsInTree round.format (item.Opens (opening.Branch county limit)) → AreGroupsAt p round s county (limit_of round limit) (begun_groups takes)
      → AreSets (begun_groups takes) → EachIsSpelled round takes → EachProvesPart takes p round s → BranchesOfTakesAreOpen takes → IsOpenPart p round (raise county (limit_of round limit) s) raised → IsOpenPart p round s (begun county limit takes raised)
  branch_part county limit takes raised names can fits groups sets spelled proves opens behind = record {
    proof = ((fits, sets, spelled, behind.proof.0), (names, can, groups, proves, behind.proof.1));
    some = omega (arith, behind.some);
    branches = (omega (arith, behind.some), opens, behind.branches);
  }

  -- whole takes in front of others
  whole_groups : (takes : Takes) (others : PartialTakes) → begun_groups (whole_takes takes others) ≡ groups_of takes ++ begun_groups others
  whole_groups no_take others = refl
  whole_groups (take codes tree rest) others = ap (λ z. codes ∷ z) (whole_groups rest others)

  whole_sets : (takes : Takes) → AllByRecursion (FitsInTree round.format) (items_of_takes takes) → AllByRecursion IsSet (groups_of takes)
  whole_sets no_take lines = tt
  whole_sets (take codes tree rest) lines = (lines.0, whole_sets rest (all_parts (FitsInTree round.format) (items_of_tree tree) (items_of_takes rest) lines.1).1)

  whole_spelled : IsOrder p round.order → (takes : Takes) (others : PartialTakes) → ((g : List ℕ) → Has (groups_of takes) g → IsState p round (close g s)) → EachProves takes p round s → AllByRecursion (FitsInTree round.format) (items_of_takes takes) → EachIsSpelled round others
      → EachIsSpelled round (whole_takes takes others)
  whole_spelled order no_take others states each lines spelled = spelled
  whole_spelled order (take codes tree rest) others states each lines spelled =
      let parts = all_parts (FitsInTree round.format) (items_of_tree tree) (items_of_takes rest) lines.1 in (
        record { fits = have_texts.tree p round (close codes s) tree order (states codes (inl refl)) each.0 parts.0; text_is = refl },
        whole_spelled order rest others (λ g h. states g (inr h)) each.1 parts.1 spelled,
      )

  whole_proves : (takes : Takes) (others : PartialTakes) → EachProves takes p round s → EachProvesPart others p round s → EachProvesPart (whole_takes takes others) p round s
  whole_proves no_take others each proves = proves
  whole_proves (take codes tree rest) others each proves = (each.0, whole_proves rest others each.1 proves)

  whole_open : (takes : Takes) (others : PartialTakes) → BranchesOfTakesAreOpen others → BranchesOfTakesAreOpen (whole_takes takes others)
  whole_open no_take others opens = opens
  whole_open (take codes tree rest) others opens = (tt, whole_open rest others opens)

  -- takes with open leaves
  open_groups : (groups : List (List ℕ)) → begun_groups (open_takes groups) ≡ groups
  open_groups [] = refl
  open_groups (g ∷ groups) = ap (λ z. g ∷ z) (open_groups groups)

  open_spelled : (groups : List (List ℕ)) → EachIsSpelled round (open_takes groups)
  open_spelled [] = tt
  open_spelled (g ∷ groups) = (tt, open_spelled groups)

  open_proves : (groups : List (List ℕ)) → EachProvesPart (open_takes groups) p round s
  open_proves [] = tt
  open_proves (g ∷ groups) = (tt, open_proves groups)

  open_open : (groups : List (List ℕ)) → BranchesOfTakesAreOpen (open_takes groups)
  open_open [] = tt
  open_open (g ∷ groups) = (tt, open_open groups)

  module _ (order : IsOrder p round.order) (state : IsState p round s) (county size : ℕ) (small : size ≤ round.limit) (few : round.limit ≤ most_counties) (groups : List (List ℕ)) (are : AreGroupsAt p round s county size groups) where
    is_group : (g : List ℕ) → Has groups g → IsGroupAt p round s county size g
    is_group g h = (are.each g).0 (contains_from_has groups g h)

    closed : (g : List ℕ) → Has groups g → IsState p round (close g s)
    closed g h = let is = is_group g h in (branch_keeps_state).closed_state p round s g state is.fits (omega (arith, is.small, small))

    sets : (gs : List (List ℕ)) → ((g : List ℕ) → Has gs g → Has groups g) → AllByRecursion AreCodes gs → AllByRecursion IsSet gs
    sets [] among codes = tt
    sets (g ∷ gs) among codes =
        let is = is_group g (among g (inl refl)) in
        (record { some = is.fits.lawful.connected.some_county; few = omega (arith, is.small, small, few); small = codes.0 }, sets gs (λ h k. among h (inr k)) codes.1)

    -- a branch with whole takes in front of a part
    pub whole_step : (limit : Option ℕ) (ts : List Take) (raised : PartialTree) → size ≡ limit_of round limit → NamesLimit round.format limit → CanBranch round s county size → FitsInTree round.format (item.Opens (opening.Branch county limit)) → AreTakesOf p round s groups ts → IsOpenPart p round (raise county size s) raised
        → IsOpenPart p round s (begun county limit (whole_takes (list_of_takes ts) no_begun) raised)
    whole_step limit ts raised same names can fits takes behind =
        let list = list_of_takes ts in
        let these : begun_groups (whole_takes list no_begun) ≡ groups = whole_groups list no_begun ∙ append-nil (groups_of list) ∙ takes.groups_are in
        branch_part county limit (whole_takes list no_begun) raised names (subst (CanBranch round s county) same can) fits (subst (AreGroupsAt p round s county (limit_of round limit)) (sym these) (subst (λ z. AreGroupsAt p round s county z groups) same are))
        (subst AreSets (sym (whole_groups list no_begun ∙ append-nil (groups_of list))) (All-from_recursion IsSet (groups_of list) (whole_sets list takes.lines)))
        (whole_spelled order list no_begun (λ g h. closed g (subst (λ z. Has z g) takes.groups_are h)) takes.each takes.lines tt) (whole_proves list no_begun takes.each tt) (whole_open list no_begun tt)
        (subst (λ z. IsOpenPart p round (raise county z s) raised) same behind)

    -- a branch at one of whose takes the search stopped
    pub stopped_step : (limit : Option ℕ) (ts : List Take) (done later : List (List ℕ)) (group : List ℕ) (part : PartialTree) → size ≡ limit_of round limit → NamesLimit round.format limit → CanBranch round s county size → FitsInTree round.format (item.Opens (opening.Branch county limit)) → groups ≡ done ++ group ∷ later
        → AreTakesOf p round s done ts → AllByRecursion AreCodes (group ∷ later) → IsOpenPart p round (close group s) part → IsOpenPart p round s (begun county limit (whole_takes (list_of_takes ts) (take_begun group part (open_takes later))) open_leaf)
    stopped_step limit ts done later group part same names can fits split takes codes here =
        let list = list_of_takes ts in
        let others = take_begun group part (open_takes later) in
        let those : begun_groups (whole_takes list others) ≡ done ++ group ∷ later = whole_groups list others ∙ ap (λ z. z ++ group ∷ begun_groups (open_takes later)) takes.groups_are ∙ ap (λ z. done ++ group ∷ z) (open_groups later) in
        let among : (g : List ℕ) → Has (done ++ group ∷ later) g → Has groups g = λ g h. subst (λ z. Has z g) (sym split) h in
        let before = subst (AllByRecursion IsSet) takes.groups_are (whole_sets list takes.lines) in
        branch_part county limit (whole_takes list others) open_leaf names (subst (CanBranch round s county) same can) fits (subst (AreGroupsAt p round s county (limit_of round limit)) (split ∙ sym those) (subst (λ z. AreGroupsAt p round s county z groups) same are))
        (subst AreSets (sym those) (All-from_recursion IsSet (done ++ group ∷ later) (all_append IsSet done (group ∷ later) before (sets (group ∷ later) (λ g h. among g (has_right done (group ∷ later) g h)) codes))))
        (whole_spelled order list others (λ g h. closed g (among g (has_left done (group ∷ later) g (subst (λ z. Has z g) takes.groups_are h)))) takes.each takes.lines (here.proof.0, open_spelled later))
        (whole_proves list others takes.each (here.proof.1, open_proves later))
        (whole_open list others (here.branches, open_open later))
        (open_leaf_part p round (raise county (limit_of round limit) s))

    -- what is a part behind one whole branch more
    pub part_step : (first : State) (limit : Option ℕ) (bs news : List Branch) (takes : Vec Take Global) → size ≡ limit_of round limit → NamesLimit round.format limit → CanBranch round s county size → FitsInTree round.format (item.Opens (opening.Branch county limit)) → AreTakesOf p round s groups takes.items
        → news ≡ bs ++ roll-Branch (record { county = county; limit = limit; takes = takes }) ∷ [] → ((part : PartialTree) → IsOpenPart p round s part → IsOpenPart p round first (whole_branches bs part))
        → (part : PartialTree) → IsOpenPart p round (raise county size s) part → IsOpenPart p round first (whole_branches news part)
    part_step first limit bs news takes same names can fits are_takes pushed so part here =
        subst (IsOpenPart p round first) (sym (ap (λ z. whole_branches z part) pushed ∙ branches_more bs (roll-Branch (record { county = county; limit = limit; takes = takes })) part ∙ ap (whole_branches bs) (made_whole county limit takes part)))
        (so (begun county limit (whole_takes (list_of_takes takes.items) no_begun) part) (whole_step limit takes.items part same names can fits are_takes here))

-- what a search ends with behind branches, where what it stopped at is a part
pub stopped_outcome : {E : Type 0} (p : Problem) (round : Round) (first : State) (bs : List Branch) (part : PartialTree) (r : Result SearchOutcome E) → IfOk r (λ found. (joined : PartialTreeHeld) × (found ≡ outcome.Open joined) × (partial_of joined ≡ whole_branches bs part)) → IsOpenPart p round first (whole_branches bs part)
    → IfOk r (IsOutcome p round first)
stopped_outcome p round first bs part (Ok found) is open_part = subst (IsOutcome p round first) (sym is.1) (subst (IsOpenPart p round first) (sym is.2) open_part)
stopped_outcome p round first bs part (Err e) is open_part = tt

-- a list, cut at one of its items
pub cut_at : {C : Type 0} (f : C → List ℕ) (xs ys : List C) (i : ℕ) (x : C) → ys ≡ xs → i < length xs → x ≡ get_or xs i x → map f xs ≡ map f (firsts i xs) ++ f x ∷ map f (firsts (length ys - (i + 1)) (drop (i + 1) ys))
cut_at f xs ys i x same l e =
    let cut : xs ≡ firsts i xs ++ x ∷ firsts (length xs - (i + 1)) (drop (i + 1) xs) =
    sym (take-append-drop i xs) ∙ ap (λ z. firsts i xs ++ z) (drop_more xs i x l ∙ ap (λ z. z ∷ drop (i + 1) xs) (sym e) ∙ ap (λ z. x ∷ z) (sym (take_all (length xs - (i + 1)) (drop (i + 1) xs) (omega (arith, length-drop (i + 1) xs))))) in
    subst (λ z. map f xs ≡ map f (firsts i xs) ++ f x ∷ map f (firsts (length z - (i + 1)) (drop (i + 1) z))) (sym same)
    (ap (map f) cut ∙ map-append f (firsts i xs) (x ∷ firsts (length xs - (i + 1)) (drop (i + 1) xs)))

-- a part with a branch
pub begun_part : (p : Problem) (round : Round) (s : State) (t : PartialTreeHeld) → ((out-PartialTree t).branches.items ≡ [] → ⊥) → IsOpenPart p round s (partial_of t) → IsPart (partial_of t) × IsPartProof p round s (partial_of t) × BranchesAreOpen (partial_of t)
begun_part p round s t some is = (go (out-PartialTree t).branches.items (rest_of (out-PartialTree t).rest) (partial_of t) some (tree_made t) is.some, is.proof, is.branches)
  where
    go : (bs : List PartialBranch) (rest part : PartialTree) → (bs ≡ [] → ⊥) → part ≡ list_onto bs rest → 1 ≤ open_leaves part → IsPart part
    go [] rest part none e leaves = absurd (none refl)
    go (PartialBranch' county limit shape takes ∷ bs) rest part none e leaves = subst IsPart (sym e) (subst (λ z. 1 ≤ open_leaves z) e leaves)
