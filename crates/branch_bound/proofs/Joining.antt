-- A branch behind those of a search so far.
use Rattle.std.proofs.Common.{◌≡◌, ℕ, ◌≤◌, List, [], ◌∷◌, ◌++◌, filter, All, AllPairs, Option, Some, None, refl, ap, sym, ◌∙◌, subst, arith}
use Rattle.std.specs.List.{AllByRecursion}
use Rattle.place_sets.proofs.AllLists.{all_append}
use Rattle.grouping_laws.specs.Problem.{Problem}
use Rattle.grouping_laws.specs.Sets.{contains}
use Rattle.grouping_laws.specs.Grouping.{Grouping, sets_of}
use Rattle.grouping_laws.specs.GroupsFrom.{IsBefore}
use Rattle.certificate_data.specs.Round.{Round}
use Rattle.certificate_data.specs.declared.format.Format.{Format}
use Rattle.certificate_data.specs.declared.format.Format.TheVariants.{Plain, Wide}
use Rattle.certificate_laws.specs.State.{State, raise}
use Rattle.certificate_data.specs.Tree.{Tree, branch, Takes, no_take, groups_of}
use Rattle.certificate_laws.specs.Groups.{AreGroupsAt}
use Rattle.certificate_laws.specs.Proving.{limit_of, NamesLimit, CanBranch, Proves, EachProves}
use Rattle.certificate_laws.specs.Certificate.{TargetFits}
use Rattle.list_laws.specs.Completeness.{IsComplete, EachIsComplete}
use Rattle.certificate_lines.specs.Lines.{most}
use Rattle.certificate_lines.specs.Fitting.{IsWanted}
use Rattle.certificate_lines.specs.declared.item.Item.{Item}
use Rattle.certificate_lines.specs.declared.item.Item.TheVariants as item
use Rattle.certificate_lines.specs.declared.item.Opening.TheVariants as opening
use Rattle.certificate_lines.specs.declared.item.Wanted.TheVariants as want
use Rattle.certificate_data.specs.declared.tree.Branch.{Branch}
use Rattle.certificate_data.specs.declared.tree.Take.{Take, Take'}
use Rattle.certificate_data.specs.TreeValue.{tree_of, branch_onto, list_of_takes}
use Rattle.certificate_text.specs.Trees.{items_of_tree, items_of_takes}
use Rattle.certificate_data.proofs.TreeLists.{list_onto}
use Rattle.certificate_text.proofs.TreeViews.{items_of_branch, items_of_branches, branches_more}
use Rattle.certificate_text.specs.TreeItems.{FitsInTree}
use Rattle.branch_bound.specs.Searching.{IsSorted, AreTakesOf, IsTakeOf}

pub joined : (bs : List Branch) (b : Branch) (tree : Tree) → list_onto (bs ++ b ∷ []) tree ≡ list_onto bs (branch_onto b tree)
joined [] b tree = refl
joined (a ∷ bs) b tree = ap (branch_onto a) (joined bs b tree)

pub wide_names : (format : Format) (size : ℕ) → format ≡ Wide → NamesLimit format (Some size)
wide_names format size e = subst (λ l. NamesLimit l (Some size)) (sym e) tt

pub plain_names : (format : Format) → format ≡ Plain → NamesLimit format None
plain_names format e = subst (λ l. NamesLimit l None) (sym e) tt

-- what holds of a tree with one branch before it holds behind one branch more
behind_one : (Here First : Tree → Type 0) (bs news : List Branch) (b : Branch) (put tree : Tree) → branch_onto b tree ≡ put → news ≡ bs ++ b ∷ [] → ((t : Tree) → Here t → First (list_onto bs t)) → Here put → First (list_onto news tree)
behind_one Here First bs news b put tree made pushed whole here =
    subst (λ (l : List Branch). First (list_onto l tree)) (sym pushed) (subst First (sym (joined bs b tree)) (whole (branch_onto b tree) (subst Here (sym made) here)))

-- what proves the raised state proves, behind one branch more, the first one
pub branch_step : (p : Problem) (round : Round) (first s : State) (county : ℕ) (limit : Option ℕ) (bs news : List Branch) (b : Branch) (takes : Takes) → NamesLimit round.format limit → CanBranch round s county (limit_of round limit) → AreGroupsAt p round s county (limit_of round limit) (groups_of takes) → EachProves takes p round s
    → ((raised : Tree) → branch_onto b raised ≡ branch county limit takes raised) → news ≡ bs ++ b ∷ [] → ((tree : Tree) → Proves tree p round s → Proves (list_onto bs tree) p round first)
    → (tree : Tree) → Proves tree p round (raise county (limit_of round limit) s) → Proves (list_onto news tree) p round first
branch_step p round first s county limit bs news b takes names can groups each made pushed whole tree proves =
    behind_one (λ t. Proves t p round s) (λ t. Proves t p round first) bs news b (branch county limit takes tree) tree (made tree) pushed whole (names, can, groups, each, proves)

-- what is complete at the raised state is, behind one branch more, complete at the first one
pub complete_step : (p : Problem) (round : Round) (first s : State) (county : ℕ) (limit : Option ℕ) (bs news : List Branch) (b : Branch) (takes : Takes) → EachIsComplete takes p round s → ((raised : Tree) → branch_onto b raised ≡ branch county limit takes raised) → news ≡ bs ++ b ∷ []
    → ((tree : Tree) → IsComplete tree p round s → IsComplete (list_onto bs tree) p round first) → (tree : Tree) → IsComplete tree p round (raise county (limit_of round limit) s) → IsComplete (list_onto news tree) p round first
complete_step p round first s county limit bs news b takes each made pushed whole tree complete =
    behind_one (λ t. IsComplete t p round s) (λ t. IsComplete t p round first) bs news b (branch county limit takes tree) tree (made tree) pushed whole (each, complete)

pub all_parts : {X : Type 0} (P : X → Type 0) (xs ys : List X) → AllByRecursion P (xs ++ ys) → AllByRecursion P xs × AllByRecursion P ys
all_parts P [] ys a = (tt, a)
all_parts P (x ∷ xs) ys a = let rest = all_parts P xs ys a.1 in ((a.0, rest.0), rest.1)

pub wide_fits : (format : Format) (county size : ℕ) → format ≡ Wide → county ≤ 99999 → 1 ≤ size → size ≤ most → FitsInTree format (item.Opens (opening.Branch county (Some size)))
wide_fits format county size e c from to = subst (λ l. IsWanted (want.Tree l 1) (item.Opens (opening.Branch county (Some size)))) (sym e) (c, from, to, omega arith)

pub plain_fits : (format : Format) (county : ℕ) → format ≡ Plain → county ≤ 99999 → FitsInTree format (item.Opens (opening.Branch county None))
plain_fits format county e c = subst (λ l. IsWanted (want.Tree l 1) (item.Opens (opening.Branch county None))) (sym e) (c, omega arith)

pub lines_step : (format : Format) (county : ℕ) (limit : Option ℕ) (bs news : List Branch) (b : Branch) (takes : Takes) → FitsInTree format (item.Opens (opening.Branch county limit)) → AllByRecursion (FitsInTree format) (items_of_takes takes)
    → items_of_branch b ≡ item.Opens (opening.Branch county limit) ∷ (items_of_takes takes ++ item.Mark ∷ []) → news ≡ bs ++ b ∷ [] → AllByRecursion (FitsInTree format) (items_of_branches bs) → AllByRecursion (FitsInTree format) (items_of_branches news)
lines_step format county limit bs news b takes fits lines made pushed before =
    let here : AllByRecursion (FitsInTree format) (items_of_branch b) =
    subst (λ (l : List Item). AllByRecursion (FitsInTree format) l) (sym made) (fits, all_append (FitsInTree format) (items_of_takes takes) (item.Mark ∷ []) lines (tt, tt)) in
    subst (λ (l : List Branch). AllByRecursion (FitsInTree format) (items_of_branches l)) (sym pushed)
    (subst (λ (l : List Item). AllByRecursion (FitsInTree format) l) (sym (branches_more bs b)) (all_append (FitsInTree format) (items_of_branches bs) (items_of_branch b) before here))

-- one take more
pub take_step : (p : Problem) (round : Round) (s : State) (groups : List (List ℕ)) (group : List ℕ) (ts : List Take) (t : Take) → AreTakesOf p round s groups ts → IsTakeOf p round s group t → AreTakesOf p round s (groups ++ group ∷ []) (ts ++ t ∷ [])
take_step p round s groups group ts t are is = record {
  groups_are = groups_behind ts ∙ ap (λ l. l ++ group ∷ []) are.groups_are;
  each = each_behind ts are.each;
  lines = lines_behind ts are.lines;
  complete = λ fits. complete_behind ts fits (are.complete fits);
}
  where
    groups_behind : (us : List Take) → groups_of (list_of_takes (us ++ t ∷ [])) ≡ groups_of (list_of_takes us) ++ group ∷ []
    groups_behind [] = ap groups_of (is.is no_take)
    groups_behind (Take' codes tree ∷ us) = ap (λ l. codes ∷ l) (groups_behind us)

    each_behind : (us : List Take) → EachProves (list_of_takes us) p round s → EachProves (list_of_takes (us ++ t ∷ [])) p round s
    each_behind [] e = subst (λ (x : Takes). EachProves x p round s) (sym (is.is no_take)) (is.proves, tt)
    each_behind (Take' codes tree ∷ us) e = (e.0, each_behind us e.1)

    complete_behind : (us : List Take) → TargetFits p round.limit round.target → EachIsComplete (list_of_takes us) p round s → EachIsComplete (list_of_takes (us ++ t ∷ [])) p round s
    complete_behind [] fits e = subst (λ (x : Takes). EachIsComplete x p round s) (sym (is.is no_take)) (is.complete fits, tt)
    complete_behind (Take' codes tree ∷ us) fits e = (e.0, complete_behind us fits e.1)

    lines_behind : (us : List Take) → AllByRecursion (FitsInTree round.format) (items_of_takes (list_of_takes us)) → AllByRecursion (FitsInTree round.format) (items_of_takes (list_of_takes (us ++ t ∷ [])))
    lines_behind [] e = subst (λ (x : Takes). AllByRecursion (FitsInTree round.format) (items_of_takes x)) (sym (is.is no_take)) (is.lines.0, all_append (FitsInTree round.format) (items_of_tree is.tree) [] is.lines.1 tt)
    lines_behind (Take' codes tree ∷ us) e =
        let parts = all_parts (FitsInTree round.format) (items_of_tree (tree_of tree)) (items_of_takes (list_of_takes us)) e.1 in
        (e.0, all_append (FitsInTree round.format) (items_of_tree (tree_of tree)) (items_of_takes (list_of_takes (us ++ t ∷ []))) parts.0 (lines_behind us parts.1))

-- groups that stand in one order stand in an equal one
pub sorted_as : (order other : List ℕ) (groups : Grouping) → order ≡ other → AllPairs (IsBefore order) (sets_of groups) → All (λ m. filter (contains m.codes) order ≡ m.codes) groups → IsSorted other groups
sorted_as order other groups same turn codes = subst (λ o. IsSorted o groups) same (record { in_turn = turn; in_order = codes })
