-- Items that come one after the other where a tree is wanted begin with the items of a tree.
use Rattle.std.proofs.Common.{◌≡◌, ℕ, zero, suc, ◌-◌, ◌<◌, ◌≤◌, List, [], ◌∷◌, ◌++◌, length, map, Option, Some, None, refl, ap, sym, subst, ◌∙◌, arith, append_assoc}
use Rattle.county_codes.specs.declared.group.Group.{Group}
use Rattle.certificate_data.specs.declared.format.Format.{Format}
use Rattle.certificate_laws.specs.Depth.{after_raise}
use Rattle.certificate_data.specs.Tree.{Allowance, stuck, seats, bound, Tree, leaf, branch, Takes, no_take, take}
use Rattle.certificate_lines.specs.Items.{wanted_after, taken, allowances_wanted, groups_wanted}
use Rattle.certificate_lines.specs.Fitting.{AllFit}
use Rattle.certificate_lines.specs.declared.item.Opening.{Opening}
use Rattle.certificate_lines.specs.declared.item.Opening.TheVariants as opening
use Rattle.certificate_lines.specs.declared.item.Item.{Item}
use Rattle.certificate_lines.specs.declared.item.Item.TheVariants as item
use Rattle.certificate_lines.specs.declared.item.Wanted.{Wanted}
use Rattle.certificate_lines.specs.declared.item.Wanted.TheVariants as want
use Rattle.certificate_lines.proofs.ReadLaws.{allowances_more, groups_more}
use Rattle.certificate_data.specs.TreeValue.{allowance_of, declared_allowance}
use Rattle.certificate_text.specs.Trees.{items_of_tree, items_of_takes}
use Rattle.certificate_data.proofs.TreeLists.{allowance_again}
use Rattle.checker_laws.proofs.Forms.{opens_only, takes_only, grouped_only, allows_only}

both_same : (x y : Item) (xs ys : List Item) → x ≡ y → xs ≡ ys → x ∷ xs ≡ y ∷ ys
both_same x y xs ys e h = cc

-- `n` lines of a bound leaf, and what stands behind them
pub record LinesFound (n : ℕ) (more : List Wanted) (items : List Item) : Type 0 where
  pub lines : List Allowance
  pub later : List Item
  pub many : length lines ≡ n
  pub are : items ≡ map (λ a. item.Allows (declared_allowance a)) lines ++ later
  pub fits : AllFit more later
  pub few : length later ≤ length items

pub lines_found : (n : ℕ) (more : List Wanted) (items : List Item) → AllFit (allowances_wanted n ++ more) items → LinesFound n more items
lines_found zero more items f = record { lines = []; later = items; many = refl; are = refl; fits = f; few = omega arith }
lines_found (suc n) more [] f =
    let fit = subst (λ (l : List Wanted). AllFit (l ++ more) []) (allowances_more (suc n) (omega arith)) f in
    absurd fit
lines_found (suc n) more (i ∷ items) f =
    let fit = subst (λ (l : List Wanted). AllFit (l ++ more) (i ∷ items)) (allowances_more (suc n) (omega arith)) f in
    let first = allows_only (suc n) i fit.0 in
    let left : suc n - 1 ≡ n = omega arith in
    let behind = lines_found n more items (subst (λ (k : ℕ). AllFit (allowances_wanted k ++ more) items) left fit.1) in
    let same : i ≡ item.Allows (declared_allowance (allowance_of first.0)) = first.1 ∙ ap item.Allows (sym (allowance_again first.0)) in
    record {
      lines = allowance_of first.0 ∷ behind.lines;
      later = behind.later;
      many = omega (arith, behind.many);
      are = both_same i (item.Allows (declared_allowance (allowance_of first.0))) items (map (λ a. item.Allows (declared_allowance a)) behind.lines ++ behind.later) same behind.are;
      fits = behind.fits;
      few = omega (arith, behind.few);
    }

-- `n` groups of a target, and what stands behind them
pub record GroupsFound (n : ℕ) (more : List Wanted) (items : List Item) : Type 0 where
  pub groups : List Group
  pub later : List Item
  pub many : length groups ≡ n
  pub are : items ≡ map item.Grouped groups ++ later
  pub fits : AllFit more later

pub groups_found : (n : ℕ) (more : List Wanted) (items : List Item) → AllFit (groups_wanted n ++ more) items → GroupsFound n more items
groups_found zero more items f = record { groups = []; later = items; many = refl; are = refl; fits = f }
groups_found (suc n) more [] f =
    let fit = subst (λ (l : List Wanted). AllFit (l ++ more) []) (groups_more (suc n) (omega arith)) f in
    absurd fit
groups_found (suc n) more (i ∷ items) f =
    let fit = subst (λ (l : List Wanted). AllFit (l ++ more) (i ∷ items)) (groups_more (suc n) (omega arith)) f in
    let first = grouped_only (suc n) i fit.0 in
    let left : suc n - 1 ≡ n = omega arith in
    let behind = groups_found n more items (subst (λ (k : ℕ). AllFit (groups_wanted k ++ more) items) left fit.1) in
    record {
      groups = first.0 ∷ behind.groups;
      later = behind.later;
      many = omega (arith, behind.many);
      are = both_same i (item.Grouped first.0) items (map item.Grouped behind.groups ++ behind.later) first.1 behind.are;
      fits = behind.fits;
    }

-- a tree, and what stands behind it
pub record TreeFound (more : List Wanted) (items : List Item) : Type 0 where
  pub tree : Tree
  pub later : List Item
  pub are : items ≡ items_of_tree tree ++ later
  pub fits : AllFit more later
  pub fewer : length later < length items

-- takes with their mark, and what stands behind it
pub record TakesFound (more : List Wanted) (items : List Item) : Type 0 where
  pub takes : Takes
  pub later : List Item
  pub are : items ≡ items_of_takes takes ++ item.Mark ∷ later
  pub fits : AllFit more later
  pub fewer : length later < length items

-- trees and takes are found in at most `most` items
pub record Finds (most : ℕ) : Type 0 where
  pub tree : (format : Format) (levels : ℕ) (more : List Wanted) (items : List Item) → length items ≤ most → AllFit (want.Tree format levels ∷ more) items → TreeFound more items
  pub takes : (format : Format) (levels : ℕ) (more : List Wanted) (items : List Item) → length items ≤ most → AllFit (want.Takes format levels ∷ more) items → TakesFound (want.Tree format (after_raise format levels) ∷ more) items

module _ (most : ℕ) (finds : Finds most) (format : Format) (levels : ℕ) (more : List Wanted) where
  tree_opened : (o : Opening) (items : List Item) → length items ≤ most → AllFit (wanted_after (want.Tree format levels) (item.Opens o) ++ more) items → TreeFound more (item.Opens o ∷ items)
  tree_opened (opening.Stuck county) items short f = record { tree = leaf (stuck county); later = items; are = refl; fits = f; fewer = omega arith }
  tree_opened opening.Seats items short f = record { tree = leaf seats; later = items; are = refl; fits = f; fewer = omega arith }
  tree_opened (opening.Bound n) items short f =
      let l = lines_found n more items f in
      record {
        tree = leaf (bound l.lines);
        later = l.later;
        are = both_same (item.Opens (opening.Bound n)) (item.Opens (opening.Bound (length l.lines))) items (map (λ a. item.Allows (declared_allowance a)) l.lines ++ l.later) (ap (λ (k : ℕ). item.Opens (opening.Bound k)) (sym l.many)) l.are;
        fits = l.fits;
        fewer = omega (arith, l.few);
      }
  tree_opened (opening.Branch county limit) items short f =
      let ts = finds.takes format levels more items short f in
      let t = finds.tree format (after_raise format levels) more ts.later (omega (arith, ts.fewer, short)) ts.fits in
      let are : items ≡ (items_of_takes ts.takes ++ item.Mark ∷ items_of_tree t.tree) ++ t.later =
      ts.are ∙ ap (λ (l : List Item). items_of_takes ts.takes ++ item.Mark ∷ l) t.are ∙ sym (append_assoc (items_of_takes ts.takes) (item.Mark ∷ items_of_tree t.tree) t.later) in
      record {
        tree = branch county limit ts.takes t.tree;
        later = t.later;
        are = ap (λ (l : List Item). item.Opens (opening.Branch county limit) ∷ l) are;
        fits = t.fits;
        fewer = omega (arith, ts.fewer, t.fewer);
      }

  takes_opened : (o : Option (List ℕ)) (items : List Item) → length items ≤ most → AllFit (wanted_after (want.Takes format levels) (taken o) ++ more) items → TakesFound (want.Tree format (after_raise format levels) ∷ more) (taken o ∷ items)
  takes_opened None items short f = record { takes = no_take; later = items; are = refl; fits = f; fewer = omega arith }
  takes_opened (Some codes) items short f =
      let t = finds.tree format (levels - 1) (want.Takes format levels ∷ more) items short f in
      let ts = finds.takes format levels more t.later (omega (arith, t.fewer, short)) t.fits in
      let are : items ≡ (items_of_tree t.tree ++ items_of_takes ts.takes) ++ item.Mark ∷ ts.later =
      t.are ∙ ap (λ (l : List Item). items_of_tree t.tree ++ l) ts.are ∙ sym (append_assoc (items_of_tree t.tree) (items_of_takes ts.takes) (item.Mark ∷ ts.later)) in
      record {
        takes = take codes t.tree ts.takes;
        later = ts.later;
        are = ap (λ (l : List Item). item.Takes codes ∷ l) are;
        fits = ts.fits;
        fewer = omega (arith, t.fewer, ts.fewer);
      }

  tree_next : (i : Item) (items : List Item) → length items ≤ most → AllFit (want.Tree format levels ∷ more) (i ∷ items) → TreeFound more (i ∷ items)
  tree_next i items short f =
      let o = opens_only format levels i f.0 in
      subst (λ (x : Item). TreeFound more (x ∷ items)) (sym o.1) (tree_opened o.0 items short (subst (λ (x : Item). AllFit (wanted_after (want.Tree format levels) x ++ more) items) o.1 f.1))

  takes_next : (i : Item) (items : List Item) → length items ≤ most → AllFit (want.Takes format levels ∷ more) (i ∷ items) → TakesFound (want.Tree format (after_raise format levels) ∷ more) (i ∷ items)
  takes_next i items short f =
      let o = takes_only format levels i f.0 in
      subst (λ (x : Item). TakesFound (want.Tree format (after_raise format levels) ∷ more) (x ∷ items)) (sym o.1)
      (takes_opened o.0 items short (subst (λ (x : Item). AllFit (wanted_after (want.Takes format levels) x ++ more) items) o.1 f.1))

no_tree : (format : Format) (levels : ℕ) (more : List Wanted) (items : List Item) → length items ≤ 0 → AllFit (want.Tree format levels ∷ more) items → TreeFound more items
no_tree format levels more [] short f = absurd f
no_tree format levels more (i ∷ items) short f = absurd (omega arith)

no_takes : (format : Format) (levels : ℕ) (more : List Wanted) (items : List Item) → length items ≤ 0 → AllFit (want.Takes format levels ∷ more) items → TakesFound (want.Tree format (after_raise format levels) ∷ more) items
no_takes format levels more [] short f = absurd f
no_takes format levels more (i ∷ items) short f = absurd (omega arith)

tree_step : (most : ℕ) → Finds most → (format : Format) (levels : ℕ) (more : List Wanted) (items : List Item) → length items ≤ suc most → AllFit (want.Tree format levels ∷ more) items → TreeFound more items
tree_step most finds format levels more [] short f = absurd f
tree_step most finds format levels more (i ∷ items) short f = tree_next most finds format levels more i items (omega arith) f

takes_step : (most : ℕ) → Finds most → (format : Format) (levels : ℕ) (more : List Wanted) (items : List Item) → length items ≤ suc most → AllFit (want.Takes format levels ∷ more) items → TakesFound (want.Tree format (after_raise format levels) ∷ more) items
takes_step most finds format levels more [] short f = absurd f
takes_step most finds format levels more (i ∷ items) short f = takes_next most finds format levels more i items (omega arith) f

finds_all : (most : ℕ) → Finds most
finds_all zero = record { tree = no_tree; takes = no_takes }
finds_all (suc most) = record { tree = tree_step most (finds_all most); takes = takes_step most (finds_all most) }

pub tree_found : (format : Format) (levels : ℕ) (more : List Wanted) (items : List Item) → AllFit (want.Tree format levels ∷ more) items → TreeFound more items
tree_found format levels more items f = (finds_all (length items)).tree format levels more items (omega arith) f
