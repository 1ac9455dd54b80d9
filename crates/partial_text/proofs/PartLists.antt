-- The items of partial trees as lists of branches and takes, and where an open leaf stands.
use Rattle.std.proofs.Common.{◌≡◌, ℕ, zero, suc, ◌+◌, ◌<◌, ◌≤◌, List, [], ◌∷◌, ◌++◌, length, get_or, ◌==◌, Bool, true, false, Option, Some, None, All, refl, ap, sym, subst, ◌∙◌, append_assoc, append-nil, arith}
use Rattle.std.specs.List.{AllByRecursion, flat_map}
use Rattle.std.specs.Option.{is_some}
use Rattle.std.proofs.lemmas.Bool.{false≢true, ne_eqb}
use Rattle.std.proofs.lemmas.List.Elements.{All-from_recursion, recursion_from_All}
use Rattle.certificate_lines.specs.declared.item.Opening.TheVariants as opening
use Rattle.certificate_lines.specs.declared.item.Item.{Item}
use Rattle.certificate_lines.specs.declared.item.Item.TheVariants as item
use Rattle.certificate_data.specs.Tree.{Tree}
use Rattle.certificate_data.specs.TreeValue.{tree_of}
use Rattle.certificate_data.specs.declared.tree.Tree.{Tree as DeclaredTree}
use Rattle.certificate_text.specs.Trees.{items_of_tree}
use Rattle.board_laws.specs.PartialTrees.{PartialTree, open_leaf, whole, begun, no_begun, open_leaves, open_in}
use Rattle.partial_trees.specs.declared.tree.PartialTree.{PartialTree as Declared, out-PartialTree}
use Rattle.partial_trees.specs.declared.tree.PartialBranch.{PartialBranch, out-PartialBranch}
use Rattle.partial_trees.specs.declared.tree.PartialTake.{PartialTake, out-PartialTake}
use Rattle.partial_trees.specs.PartialValue.{rest_of, partial_of, begun_onto, list_of_begun, list_onto}
use Rattle.partial_trees.specs.OpenBranches.{BranchesAreOpen, BranchesOfTakesAreOpen}
use Rattle.partial_trees.proofs.PartialLists.{tree_made, branch_made, take_made}
use Rattle.partial_text.specs.PartItems.{items_of_part, items_of_begun}
use Rattle.partial_text.specs.Reading.{part_branch_items, part_take_items, takes_in, IsWholeTake, StayOpen, StayOpenBefore}

pub list_items : (bs : List PartialBranch) (t : PartialTree) → items_of_part (list_onto bs t) ≡ flat_map part_branch_items bs ++ items_of_part t
list_items [] t = refl
list_items (b ∷ bs) t =
    let first = item.Opens (opening.Branch (out-PartialBranch b).county (out-PartialBranch b).limit) in
    let inside = items_of_begun (takes_in b) in
    let later = flat_map part_branch_items bs ++ items_of_part t in
    ap items_of_part (branch_made b (list_onto bs t))
    ∙ ap (λ (l : List Item). first ∷ (inside ++ item.Mark ∷ l)) (list_items bs t)
    ∙ ap (λ (l : List Item). first ∷ l) (sym (append_assoc inside (item.Mark ∷ []) later))
    ∙ sym (append_assoc (part_branch_items b) (flat_map part_branch_items bs) (items_of_part t))

pub takes_items : (ts : List PartialTake) → items_of_begun (list_of_begun ts) ≡ flat_map part_take_items ts
takes_items [] = refl
takes_items (t ∷ ts) = ap items_of_begun (take_made t (list_of_begun ts)) ∙ ap (λ (l : List Item). part_take_items t ++ l) (takes_items ts)

pub part_items : (t : Declared) → items_of_part (partial_of t) ≡ flat_map part_branch_items (out-PartialTree t).branches.items ++ items_of_part (rest_of (out-PartialTree t).rest)
part_items t = ap items_of_part (tree_made t) ∙ list_items (out-PartialTree t).branches.items (rest_of (out-PartialTree t).rest)

-- and by a list that is that of its branches
pub part_listed : (t : Declared) (bs : List PartialBranch) → bs ≡ (out-PartialTree t).branches.items → flat_map part_branch_items bs ++ items_of_part (rest_of (out-PartialTree t).rest) ≡ items_of_part (partial_of t)
part_listed t bs are = ap (λ (l : List PartialBranch). flat_map part_branch_items l ++ items_of_part (rest_of (out-PartialTree t).rest)) are ∙ sym (part_items t)

pub branch_listed : (b : PartialBranch) (ts : List PartialTake) → ts ≡ (out-PartialBranch b).takes.items
    → (item.Opens (opening.Branch (out-PartialBranch b).county (out-PartialBranch b).limit) ∷ flat_map part_take_items ts) ++ item.Mark ∷ [] ≡ part_branch_items b
branch_listed b ts are =
    ap (λ (l : List Item). item.Opens (opening.Branch (out-PartialBranch b).county (out-PartialBranch b).limit) ∷ (l ++ item.Mark ∷ []))
    (ap (λ (l : List PartialTake). flat_map part_take_items l) are ∙ sym (takes_items (out-PartialBranch b).takes.items))

-- branches behind branches, and takes behind takes
pub onto_more : (xs ys : List PartialBranch) (t : PartialTree) → list_onto (xs ++ ys) t ≡ list_onto xs (list_onto ys t)
onto_more [] ys t = refl
onto_more (b ∷ xs) ys t = ap (begun_onto b) (onto_more xs ys t)

-- a branch that has an open leaf in its takes or behind it
branch_open : (b : PartialBranch) (t : PartialTree) → BranchesOfTakesAreOpen (takes_in b) → BranchesAreOpen t → 1 ≤ open_in (takes_in b) + open_leaves t
    → BranchesAreOpen (begun_onto b t) × (1 ≤ open_leaves (begun_onto b t))
branch_open b t takes tree some =
    let is = sym (branch_made b t) in
    (subst BranchesAreOpen is (some, takes, tree), subst (λ (z : PartialTree). 1 ≤ open_leaves z) is some)

pub stay_none : StayOpen []
stay_none t h = h

pub before_none : StayOpenBefore []
before_none t h some = (h, some)

pub before_more : (later : List PartialBranch) (b : PartialBranch) → StayOpenBefore later → BranchesOfTakesAreOpen (takes_in b) → StayOpenBefore (later ++ b ∷ [])
before_more later b h takes t opened some =
    let one = branch_open b t takes opened (omega (arith, some)) in
    let both = h (begun_onto b t) one.0 one.1 in
    let is = sym (onto_more later (b ∷ []) t) in
    (subst BranchesAreOpen is both.0, subst (λ (z : PartialTree). 1 ≤ open_leaves z) is both.1)

pub stay_more : (branches later : List PartialBranch) (b : PartialBranch) → StayOpen branches → StayOpenBefore later → BranchesOfTakesAreOpen (takes_in b) → 1 ≤ open_in (takes_in b)
    → StayOpen (branches ++ (later ++ b ∷ []))
stay_more branches later b h k takes some t opened =
    let one = branch_open b t takes opened (omega (arith, some)) in
    let both = k (begun_onto b t) one.0 one.1 in
    let is = onto_more branches (later ++ b ∷ []) t ∙ ap (list_onto branches) (onto_more later (b ∷ []) t) in
    subst BranchesAreOpen (sym is) (h (list_onto later (begun_onto b t)) both.0)

-- with an open leaf behind all branches
pub open_behind : (branches later : List PartialBranch) → StayOpen branches → StayOpenBefore later → BranchesAreOpen (list_onto (branches ++ later) open_leaf)
open_behind branches later h k =
    let both = k open_leaf tt (omega arith) in
    subst BranchesAreOpen (sym (onto_more branches later open_leaf)) (h (list_onto later open_leaf) both.0)

-- takes behind takes
pub begun_more : (ts : List PartialTake) (t : PartialTake) → BranchesOfTakesAreOpen (list_of_begun ts) → BranchesAreOpen (partial_of (out-PartialTake t).tree) → BranchesOfTakesAreOpen (list_of_begun (ts ++ t ∷ []))
begun_more [] t h opened = subst BranchesOfTakesAreOpen (sym (take_made t no_begun)) (opened, tt)
begun_more (s ∷ ts) t h opened =
    let was = subst BranchesOfTakesAreOpen (take_made s (list_of_begun ts)) h in
    subst BranchesOfTakesAreOpen (sym (take_made s (list_of_begun (ts ++ t ∷ [])))) (was.0, begun_more ts t was.1 opened)

-- which trees are whole
is_whole : (r : Option DeclaredTree) (bs : List PartialBranch) (tree : Tree) → list_onto bs (rest_of r) ≡ whole tree → (bs ≡ []) × (rest_of r ≡ whole tree)
is_whole r [] tree h = (refl, h)
is_whole r (b ∷ bs) tree h =
    let never : begun (out-PartialBranch b).county (out-PartialBranch b).limit (takes_in b) (list_onto bs (rest_of r)) ≡ whole tree = sym (branch_made b (list_onto bs (rest_of r))) ∙ h in
    cc (never)

rest_whole : (r : Option DeclaredTree) (d : DeclaredTree) (tree : Tree) → rest_of r ≡ whole tree → r ≡ Some d → tree_of d ≡ tree
rest_whole r d tree h is =
    let both : whole (tree_of d) ≡ whole tree = ap rest_of (sym is) ∙ h in
    cc (both)

-- the items of a whole tree are those of the tree behind no branch
pub whole_items : (t : PartialTake) (d : DeclaredTree) → IsWholeTake t → (out-PartialTree (out-PartialTake t).tree).rest ≡ Some d → part_take_items t ≡ item.Takes (out-PartialTake t).codes ∷ items_of_tree (tree_of d)
whole_items t d h is =
    let part = out-PartialTree (out-PartialTake t).tree in
    let both = is_whole part.rest part.branches.items h.0 (sym (tree_made (out-PartialTake t).tree) ∙ h.1) in
    let same = rest_whole part.rest d h.0 both.1 is in
    ap (λ (p : PartialTree). item.Takes (out-PartialTake t).codes ∷ items_of_part p) h.1 ∙ ap (λ (u : Tree). item.Takes (out-PartialTake t).codes ∷ items_of_tree u) (sym same)

pub no_rest : (t : PartialTake) → IsWholeTake t → (out-PartialTree (out-PartialTake t).tree).rest ≡ None → ⊥
no_rest t h none =
    let part = out-PartialTree (out-PartialTake t).tree in
    let both = is_whole part.rest part.branches.items h.0 (sym (tree_made (out-PartialTake t).tree) ∙ h.1) in
    let never : open_leaf ≡ whole h.0 = ap rest_of (sym none) ∙ both.1 in
    cc (never)

-- a tree with no branch and a tree behind it is whole; any other has an open leaf
pub made_whole : (t : PartialTake) (d : DeclaredTree) → (out-PartialTree (out-PartialTake t).tree).branches.items ≡ [] → (out-PartialTree (out-PartialTake t).tree).rest ≡ Some d → IsWholeTake t
made_whole t d none is =
    let part = out-PartialTree (out-PartialTake t).tree in
    (tree_of d, tree_made (out-PartialTake t).tree ∙ ap (λ (bs : List PartialBranch). list_onto bs (rest_of part.rest)) none ∙ ap rest_of is)

some_branch : (bs : List PartialBranch) (r : PartialTree) → (bs ≡ [] → ⊥) → BranchesAreOpen (list_onto bs r) → 1 ≤ open_leaves (list_onto bs r)
some_branch [] r some h = absurd (some refl)
some_branch (b ∷ bs) r some h =
    let is = branch_made b (list_onto bs r) in
    let opened = subst BranchesAreOpen is h in
    subst (λ (z : PartialTree). 1 ≤ open_leaves z) (sym is) opened.0

pub begun_open : (p : Declared) → ((out-PartialTree p).branches.items ≡ [] → ⊥) → BranchesAreOpen (partial_of p) → 1 ≤ open_leaves (partial_of p)
begun_open p some h =
    let part = out-PartialTree p in
    subst (λ (z : PartialTree). 1 ≤ open_leaves z) (sym (tree_made p)) (some_branch part.branches.items (rest_of part.rest) some (subst BranchesAreOpen (tree_made p) h))

none_open : (bs : List PartialBranch) → 1 ≤ open_leaves (list_onto bs open_leaf)
none_open [] = omega arith
none_open (b ∷ bs) = omega (arith, none_open bs, ap open_leaves (branch_made b (list_onto bs open_leaf)))

pub rest_open : (p : Declared) → (out-PartialTree p).rest ≡ None → 1 ≤ open_leaves (partial_of p)
rest_open p none =
    let part = out-PartialTree p in
    subst (λ (z : PartialTree). 1 ≤ open_leaves z) (sym (tree_made p ∙ ap (λ (r : Option DeclaredTree). list_onto part.branches.items (rest_of r)) none)) (none_open part.branches.items)

-- a take of a list
pub record OpenTake (ts : List PartialTake) (t : PartialTake) : Type 0 where
  pub opened : BranchesAreOpen (partial_of (out-PartialTake t).tree)
  pub some : 1 ≤ open_leaves (partial_of (out-PartialTake t).tree) → 1 ≤ open_in (list_of_begun ts)

pub open_at : (ts : List PartialTake) (i : ℕ) (t : PartialTake) → t ≡ get_or ts i t → i < length ts → BranchesOfTakesAreOpen (list_of_begun ts) → OpenTake ts t
open_at [] i t is lt h = absurd (omega (arith, lt))
open_at (s ∷ ts) zero t is lt h =
    let made = take_made s (list_of_begun ts) in
    let was = subst BranchesOfTakesAreOpen made h in
    let same : t ≡ s = is in
    subst (OpenTake (s ∷ ts)) (sym same) (record { opened = was.0; some = λ e. omega (arith, e, ap open_in made) })
open_at (s ∷ ts) (suc i) t is lt h =
    let made = take_made s (list_of_begun ts) in
    let was = subst BranchesOfTakesAreOpen made h in
    let later = open_at ts i t is (omega (arith, lt)) was.1 in
    record { opened = later.opened; some = λ e. omega (arith, later.some e, ap open_in made) }

-- a list of one element of which a fact holds
pub one_of : {X : Type 0} (P : X → Type 0) (x : X) → P x → All P (x ∷ [])
one_of P x h = All-from_recursion P (x ∷ []) (h, tt)

-- an element that stands among others
middle : {X : Type 0} (P : X → Type 0) (xs : List X) (x : X) (ys : List X) → AllByRecursion P (xs ++ x ∷ ys) → P x
middle P [] x ys h = h.0
middle P (z ∷ xs) x ys h = middle P xs x ys h.1

pub all_at : {X : Type 0} (P : X → Type 0) (all xs : List X) (x : X) (ys : List X) → xs ++ x ∷ ys ≡ all → All P all → P x
all_at P all xs x ys is h = middle P xs x ys (subst (AllByRecursion P) (sym is) (recursion_from_All P all h))

-- the items that were read and those that are left are all
pub read_on : {X : Type 0} (done left : List X) (x : X) (rest all : List X) → left ≡ x ∷ rest → done ++ left ≡ all → done ++ x ∷ rest ≡ all
read_on {X = X} done left x rest all first is = ap (λ (l : List X). done ++ l) (sym first) ∙ is

pub all_read : {X : Type 0} (done left all : List X) → length left ≡ 0 → done ++ left ≡ all → done ≡ all
all_read done [] all none is = sym (append-nil done) ∙ is
all_read done (x ∷ left) all none is = absurd (omega (arith, none))

-- what tests of a list and of an option tell
pub none_left : {X : Type 0} (l : List X) (r : Bool) → r ≡ (length l == 0) → r ≡ true → l ≡ []
none_left [] r is e = refl
none_left (x ∷ xs) r is e = absurd (false≢true (sym (ne_eqb (length (x ∷ xs)) 0 (λ z. omega (arith, z))) ∙ sym is ∙ e))

pub some_left : {X : Type 0} (l : List X) (r : Bool) → r ≡ (length l == 0) → r ≡ false → l ≡ [] → ⊥
some_left l r is e none =
    let zero : r ≡ true = is ∙ ap (λ (k : List _). length k == 0) none in
    false≢true (sym e ∙ zero)

pub there : {X : Type 0} (r : Option X) → is_some r ≡ true → (x : X) × (r ≡ Some x)
there None e = absurd (false≢true e)
there (Some x) e = (x, refl)

pub not_there : {X : Type 0} (r : Option X) → is_some r ≡ false → r ≡ None
not_there None e = refl
not_there (Some x) e = absurd (false≢true (sym e))
