-- Items that come one after the other where a partial tree is wanted begin with the items of one whose branches are
-- open.
use Rattle.std.proofs.Common.{◌≡◌, ℕ, zero, suc, ◌+◌, ◌-◌, ◌<◌, ◌≤◌, ◌⊎◌, inl, inr, List, [], ◌∷◌, ◌++◌, length, map, Option, Some, None, refl, ap, sym, subst, ◌∙◌, arith, append_assoc}
use Rattle.certificate_data.specs.declared.format.Format.{Format}
use Rattle.certificate_laws.specs.Depth.{after_raise}
use Rattle.certificate_data.specs.Tree.{stuck, seats, bound, Tree, leaf, branch, Takes, no_take, take}
use Rattle.certificate_data.specs.TreeValue.{declared_allowance}
use Rattle.certificate_lines.specs.Items.{wanted_after, taken, parted}
use Rattle.certificate_lines.specs.Fitting.{AllFit, IsWanted}
use Rattle.certificate_lines.specs.declared.item.Opening.{Opening}
use Rattle.certificate_lines.specs.declared.item.Opening.TheVariants as opening
use Rattle.certificate_lines.specs.declared.item.Item.{Item}
use Rattle.certificate_lines.specs.declared.item.Item.TheVariants as item
use Rattle.certificate_lines.specs.declared.item.Wanted.{Wanted}
use Rattle.certificate_lines.specs.declared.item.Wanted.TheVariants as want
use Rattle.certificate_text.specs.Trees.{items_of_tree, items_of_takes}
use Rattle.checker_laws.proofs.TreesFound.{lines_found}
use Rattle.board_laws.specs.PartialTrees.{PartialTree, open_leaf, whole, begun, PartialTakes, no_begun, take_begun, open_leaves, open_in}
use Rattle.partial_trees.specs.OpenBranches.{BranchesAreOpen, BranchesOfTakesAreOpen}
use Rattle.partial_text.specs.PartItems.{items_of_part, items_of_begun}

part_only : (format : Format) (levels : ℕ) (i : Item) → IsWanted (want.Part format levels) i → (o : Option Opening) × (i ≡ parted o)
part_only format levels (item.Opens o) f = (Some o, refl)
part_only format levels item.Open f = (None, refl)
part_only format levels _ f = absurd f

takes_only : (format : Format) (levels : ℕ) (i : Item) → IsWanted (want.PartTakes format levels) i → (o : Option (List ℕ)) × (i ≡ taken o)
takes_only format levels (item.Takes codes) f = (Some codes, refl)
takes_only format levels item.Mark f = (None, refl)
takes_only format levels _ f = absurd f

-- a partial tree, which is a whole one or has an open leaf, and what stands behind it
pub record PartFound (more : List Wanted) (items : List Item) : Type 0 where
  pub tree : PartialTree
  pub later : List Item
  pub are : items ≡ items_of_part tree ++ later
  pub fits : AllFit more later
  pub fewer : length later < length items
  pub branches : BranchesAreOpen tree
  pub kind : ((own : Tree) × (items_of_part tree ≡ items_of_tree own)) ⊎ (1 ≤ open_leaves tree)

-- takes with their mark, which are whole ones or have an open leaf, and what stands behind it
pub record TakesFound (more : List Wanted) (items : List Item) : Type 0 where
  pub takes : PartialTakes
  pub later : List Item
  pub are : items ≡ items_of_begun takes ++ item.Mark ∷ later
  pub fits : AllFit more later
  pub fewer : length later < length items
  pub branches : BranchesOfTakesAreOpen takes
  pub kind : ((own : Takes) × (items_of_begun takes ≡ items_of_takes own)) ⊎ (1 ≤ open_in takes)

-- they are found in fewer than `most` items
record Finds (most : ℕ) : Type 0 where
  pub part : (format : Format) (levels : ℕ) (more : List Wanted) (items : List Item) → length items < most → AllFit (want.Part format levels ∷ more) items → PartFound more items
  pub takes : (format : Format) (levels : ℕ) (more : List Wanted) (items : List Item) → length items < most → AllFit (want.PartTakes format levels ∷ more) items → TakesFound (want.Part format (after_raise format levels) ∷ more) items

-- a leaf is a whole tree
leaf_found : (own : Tree) (more : List Wanted) (items later : List Item) → items ≡ items_of_tree own ++ later → AllFit more later → length later < length items → PartFound more items
leaf_found own more items later are fits fewer = record { tree = whole own; later = later; are = are; fits = fits; fewer = fewer; branches = tt; kind = inl (own, refl) }

-- a branch with its takes and what stands behind it
module _ (county : ℕ) (limit : Option ℕ) (more : List Wanted) (items : List Item) (takes : PartialTakes) (tree : PartialTree) (later : List Item) (are : items ≡ items_of_begun takes ++ item.Mark ∷ (items_of_part tree ++ later)) (fits : AllFit more later) (fewer : length later < length items) where
  begun_found : 1 ≤ open_in takes + open_leaves tree → BranchesOfTakesAreOpen takes → BranchesAreOpen tree → PartFound more (item.Opens (opening.Branch county limit) ∷ items)
  begun_found some first behind = record {
    tree = begun county limit takes tree;
    later = later;
    are = ap (λ (l : List Item). item.Opens (opening.Branch county limit) ∷ l) (are ∙ sym (append_assoc (items_of_begun takes) (item.Mark ∷ items_of_part tree) later));
    fits = fits;
    fewer = omega (arith, fewer);
    branches = (some, first, behind);
    kind = inr some;
  }

  whole_found : (own : Takes) (rest : Tree) → items_of_begun takes ≡ items_of_takes own → items_of_part tree ≡ items_of_tree rest → PartFound more (item.Opens (opening.Branch county limit) ∷ items)
  whole_found own rest first behind =
      leaf_found (branch county limit own rest) more (item.Opens (opening.Branch county limit) ∷ items) later
      (
      ap (λ (l : List Item). item.Opens (opening.Branch county limit) ∷ l)
      (
      are
      ∙ ap (λ (l : List Item). l ++ item.Mark ∷ (items_of_part tree ++ later)) first
      ∙ ap (λ (l : List Item). items_of_takes own ++ item.Mark ∷ (l ++ later)) behind
      ∙ sym (append_assoc (items_of_takes own) (item.Mark ∷ items_of_tree rest) later)
      )
      )
      fits (omega (arith, fewer))

module _ (most : ℕ) (finds : Finds most) (format : Format) (levels : ℕ) (more : List Wanted) where
  part_opened : (o : Option Opening) (items : List Item) → length items < most → AllFit (wanted_after (want.Part format levels) (parted o) ++ more) items → PartFound more (parted o ∷ items)
  part_opened None items short f = record { tree = open_leaf; later = items; are = refl; fits = f; fewer = omega arith; branches = tt; kind = inr (omega arith) }
  part_opened (Some (opening.Stuck county)) items short f = leaf_found (leaf (stuck county)) more (item.Opens (opening.Stuck county) ∷ items) items refl f (omega arith)
  part_opened (Some opening.Seats) items short f = leaf_found (leaf seats) more (item.Opens opening.Seats ∷ items) items refl f (omega arith)
  part_opened (Some (opening.Bound n)) items short f =
      let l = lines_found n more items f in
      leaf_found (leaf (bound l.lines)) more (item.Opens (opening.Bound n) ∷ items) l.later
      (ap (λ (k : ℕ). item.Opens (opening.Bound k) ∷ items) (sym l.many) ∙ ap (λ (x : List Item). item.Opens (opening.Bound (length l.lines)) ∷ x) l.are) l.fits (omega (arith, l.few))
  part_opened (Some (opening.Branch county limit)) items short f = go ts.kind t.kind
    where
      ts : TakesFound (want.Part format (after_raise format levels) ∷ more) items
      ts = finds.takes format levels more items short f

      t : PartFound more ts.later
      t = finds.part format (after_raise format levels) more ts.later (omega (arith, ts.fewer, short)) ts.fits

      are : items ≡ items_of_begun ts.takes ++ item.Mark ∷ (items_of_part t.tree ++ t.later)
      are = ts.are ∙ ap (λ (l : List Item). items_of_begun ts.takes ++ item.Mark ∷ l) t.are

      go : ((own : Takes) × (items_of_begun ts.takes ≡ items_of_takes own)) ⊎ (1 ≤ open_in ts.takes) → ((own : Tree) × (items_of_part t.tree ≡ items_of_tree own)) ⊎ (1 ≤ open_leaves t.tree)
          → PartFound more (item.Opens (opening.Branch county limit) ∷ items)
      go (inl a) (inl b) = whole_found county limit more items ts.takes t.tree t.later are t.fits (omega (arith, ts.fewer, t.fewer)) a.0 b.0 a.1 b.1
      go (inl a) (inr b) = begun_found county limit more items ts.takes t.tree t.later are t.fits (omega (arith, ts.fewer, t.fewer)) (omega (arith, b)) ts.branches t.branches
      go (inr a) k = begun_found county limit more items ts.takes t.tree t.later are t.fits (omega (arith, ts.fewer, t.fewer)) (omega (arith, a)) ts.branches t.branches

  takes_opened : (o : Option (List ℕ)) (items : List Item) → length items < most → AllFit (wanted_after (want.PartTakes format levels) (taken o) ++ more) items → TakesFound (want.Part format (after_raise format levels) ∷ more) (taken o ∷ items)
  takes_opened None items short f = record { takes = no_begun; later = items; are = refl; fits = f; fewer = omega arith; branches = tt; kind = inl (no_take, refl) }
  takes_opened (Some codes) items short f = record {
    takes = take_begun codes t.tree ts.takes;
    later = ts.later;
    are = ap (λ (l : List Item). item.Takes codes ∷ l) are;
    fits = ts.fits;
    fewer = omega (arith, t.fewer, ts.fewer);
    branches = (t.branches, ts.branches);
    kind = go t.kind ts.kind;
  }
    where
      t : PartFound (want.PartTakes format levels ∷ more) items
      t = finds.part format (levels - 1) (want.PartTakes format levels ∷ more) items short f

      ts : TakesFound (want.Part format (after_raise format levels) ∷ more) t.later
      ts = finds.takes format levels more t.later (omega (arith, t.fewer, short)) t.fits

      are : items ≡ (items_of_part t.tree ++ items_of_begun ts.takes) ++ item.Mark ∷ ts.later
      are = t.are ∙ ap (λ (l : List Item). items_of_part t.tree ++ l) ts.are ∙ sym (append_assoc (items_of_part t.tree) (items_of_begun ts.takes) (item.Mark ∷ ts.later))

      go : ((own : Tree) × (items_of_part t.tree ≡ items_of_tree own)) ⊎ (1 ≤ open_leaves t.tree) → ((own : Takes) × (items_of_begun ts.takes ≡ items_of_takes own)) ⊎ (1 ≤ open_in ts.takes)
          → ((own : Takes) × (items_of_begun (take_begun codes t.tree ts.takes) ≡ items_of_takes own)) ⊎ (1 ≤ open_in (take_begun codes t.tree ts.takes))
      go (inl a) (inl b) =
          inl (
            take codes a.0 b.0,
            ap (λ (l : List Item). item.Takes codes ∷ (l ++ items_of_begun ts.takes)) a.1 ∙ ap (λ (l : List Item). item.Takes codes ∷ (items_of_tree a.0 ++ l)) b.1,
          )
      go (inl a) (inr b) = inr (omega (arith, b))
      go (inr a) k = inr (omega (arith, a))

  part_next : (i : Item) (items : List Item) → length items < most → AllFit (want.Part format levels ∷ more) (i ∷ items) → PartFound more (i ∷ items)
  part_next i items short f =
      let o = part_only format levels i f.0 in
      subst (λ (x : Item). PartFound more (x ∷ items)) (sym o.1) (part_opened o.0 items short (subst (λ (x : Item). AllFit (wanted_after (want.Part format levels) x ++ more) items) o.1 f.1))

  takes_next : (i : Item) (items : List Item) → length items < most → AllFit (want.PartTakes format levels ∷ more) (i ∷ items) → TakesFound (want.Part format (after_raise format levels) ∷ more) (i ∷ items)
  takes_next i items short f =
      let o = takes_only format levels i f.0 in
      subst (λ (x : Item). TakesFound (want.Part format (after_raise format levels) ∷ more) (x ∷ items)) (sym o.1)
      (takes_opened o.0 items short (subst (λ (x : Item). AllFit (wanted_after (want.PartTakes format levels) x ++ more) items) o.1 f.1))

-- items that are wanted have a first one
from_first : (most : ℕ) (wanted : List Wanted) (Found : List Item → Type 0) → (AllFit wanted [] → ⊥) → ((i : Item) (rest : List Item) → length rest < most → AllFit wanted (i ∷ rest) → Found (i ∷ rest))
    → (items : List Item) → length items < suc most → AllFit wanted items → Found items
from_first most wanted Found none next [] short f = absurd (none f)
from_first most wanted Found none next (i ∷ rest) short f = next i rest (omega arith) f

finds_all : (most : ℕ) → Finds most
finds_all zero = record {
  part = λ format levels more items short f. absurd (omega (arith, short));
  takes = λ format levels more items short f. absurd (omega (arith, short));
}
finds_all (suc most) = record {
  part = λ format levels more. from_first most (want.Part format levels ∷ more) (PartFound more) (λ f. f) (part_next most (finds_all most) format levels more);
  takes = λ format levels more. from_first most (want.PartTakes format levels ∷ more) (TakesFound (want.Part format (after_raise format levels) ∷ more)) (λ f. f) (takes_next most (finds_all most) format levels more);
}

pub part_found : (format : Format) (levels : ℕ) (more : List Wanted) (items : List Item) → AllFit (want.Part format levels ∷ more) items → PartFound more items
part_found format levels more items f = (finds_all (suc (length items))).part format levels more items (omega arith) f
