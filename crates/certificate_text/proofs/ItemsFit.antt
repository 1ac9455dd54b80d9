-- Items whose numbers are in range fit where they are wanted, if branches aren't too deep.
use Rattle.std.proofs.Common.{◌≡◌, ℕ, zero, suc, ◌-◌, ◌≤◌, List, [], ◌∷◌, ◌++◌, length, map, Option, Some, None, refl, sym, subst, append_assoc, arith}
use Rattle.std.specs.List.{AllByRecursion}
use Rattle.county_codes.specs.Tolerances.{FitsRange}
use Rattle.county_codes.specs.declared.group.Group.{Group}
use Rattle.county_codes.specs.declared.tolerance.Tolerance.{Tolerance}
use Rattle.grouping_laws.specs.Grouping.{Grouping}
use Rattle.certificate_data.specs.declared.format.Format.{Format}
use Rattle.certificate_data.specs.declared.format.Format.TheVariants.{Plain, Wide}
use Rattle.certificate_laws.specs.Depth.{after_raise, IsWithin, EachWithin}
use Rattle.certificate_data.specs.Tree.{Allowance, stuck, seats, bound, Tree, leaf, branch, Takes, no_take, take}
use Rattle.certificate_lines.specs.Items.{allowances_wanted, groups_wanted}
use Rattle.certificate_lines.specs.Fitting.{IsWanted, AllFit}
use Rattle.certificate_data.specs.declared.allowance.Allowance.{Allowance as DeclaredAllowance}
use Rattle.certificate_data.specs.declared.allowance.Allowance.TheVariants.{Room, Weigh}
use Rattle.certificate_lines.specs.declared.item.Opening.TheVariants as opening
use Rattle.certificate_lines.specs.declared.item.Item.{Item}
use Rattle.certificate_lines.specs.declared.item.Item.TheVariants as item
use Rattle.certificate_lines.specs.declared.item.Wanted.{Wanted}
use Rattle.certificate_lines.specs.declared.item.Wanted.TheVariants as want
use Rattle.certificate_lines.proofs.ReadLaws.{allowances_more, groups_more}
use Rattle.certificate_data.specs.TreeValue.{declared_allowance}
use Rattle.certificate_text.specs.Trees.{items_of_tree, items_of_takes, items_of_head, items_of_target}
use Rattle.certificate_text.specs.TreeItems.{FitsInTree, TargetHasLines}

-- a branch fits where there are levels, and a leaf fits anywhere
pub branch_fits : (format : Format) (levels county : ℕ) (limit : Option ℕ) → 1 ≤ levels → IsWanted (want.Tree format 1) (item.Opens (opening.Branch county limit)) → IsWanted (want.Tree format levels) (item.Opens (opening.Branch county limit))
branch_fits Plain levels county None some f = (f.0, omega (arith, some))
branch_fits Plain levels county (Some limit) some f = absurd f
branch_fits Wide levels county None some f = absurd f
branch_fits Wide levels county (Some limit) some f = (f.0, f.1, f.2, omega (arith, some))

stuck_fits : (format : Format) (levels county : ℕ) → IsWanted (want.Tree format 1) (item.Opens (opening.Stuck county)) → IsWanted (want.Tree format levels) (item.Opens (opening.Stuck county))
stuck_fits Plain levels county f = f
stuck_fits Wide levels county f = f

seats_fits : (format : Format) (levels : ℕ) → IsWanted (want.Tree format levels) (item.Opens opening.Seats)
seats_fits Plain levels = tt
seats_fits Wide levels = tt

bound_fits : (format : Format) (levels lines : ℕ) → IsWanted (want.Tree format 1) (item.Opens (opening.Bound lines)) → IsWanted (want.Tree format levels) (item.Opens (opening.Bound lines))
bound_fits Plain levels lines f = f
bound_fits Wide levels lines f = f

allowance_fits : (left : ℕ) (a : DeclaredAllowance) → IsWanted (want.Allowances 1) (item.Allows a) → IsWanted (want.Allowances left) (item.Allows a)
allowance_fits left Room f = tt
allowance_fits left (Weigh quota weights) f = f

lines_fit : (format : Format) (n : ℕ) (lines : List Allowance) (more : List Wanted) (rest : List Item) → length lines ≡ n → AllByRecursion (FitsInTree format) (map (λ a. item.Allows (declared_allowance a)) lines)
    → AllFit more rest → AllFit (allowances_wanted n ++ more) (map (λ a. item.Allows (declared_allowance a)) lines ++ rest)
lines_fit format zero [] more rest many h f = f
lines_fit format zero (line ∷ lines) more rest many h f = absurd (omega (arith, many))
lines_fit format (suc n) [] more rest many h f = absurd (omega (arith, many))
lines_fit format (suc n) (line ∷ lines) more rest many h f =
    let left : n ≡ suc n - 1 = omega arith in
    let behind = lines_fit format n lines more rest (omega (arith, many)) h.1 f in
    let later = subst (λ (k : ℕ). AllFit (allowances_wanted k ++ more) (map (λ a. item.Allows (declared_allowance a)) lines ++ rest)) left behind in
    subst (λ (l : List Wanted). AllFit (l ++ more) (map (λ a. item.Allows (declared_allowance a)) (line ∷ lines) ++ rest)) (sym (allowances_more (suc n) (omega arith))) (allowance_fits (suc n) (declared_allowance line) h.0, later)

-- facts of each of two lists, one after the other
all_split : {X : Type 0} (P : X → Type 0) (xs ys : List X) → AllByRecursion P (xs ++ ys) → AllByRecursion P xs × AllByRecursion P ys
all_split P [] ys h = (tt, h)
all_split P (x ∷ xs) ys h =
    let parts = all_split P xs ys h.1 in
    ((h.0, parts.0), parts.1)

mutual
  pub tree_fits : (format : Format) (levels : ℕ) (tree : Tree) (more : List Wanted) (rest : List Item) → IsWithin format levels tree → AllByRecursion (FitsInTree format) (items_of_tree tree) → AllFit more rest
      → AllFit (want.Tree format levels ∷ more) (items_of_tree tree ++ rest)
  tree_fits format levels (leaf (stuck county)) more rest w h f = (stuck_fits format levels county h.0, f)
  tree_fits format levels (leaf seats) more rest w h f = (seats_fits format levels, f)
  tree_fits format levels (leaf (bound lines)) more rest w h f = (bound_fits format levels (length lines) h.0, lines_fit format (length lines) lines more rest refl h.1 f)
  tree_fits format levels (branch county limit takes raised) more rest w h f =
      let parts = all_split (FitsInTree format) (items_of_takes takes) (item.Mark ∷ items_of_tree raised) h.1 in
      let second = tree_fits format (after_raise format levels) raised more rest w.2 parts.1.1 f in
      let first = takes_fit format levels takes more (items_of_tree raised ++ rest) w.1 parts.0 second in
      (branch_fits format levels county limit w.0 h.0, subst (λ (l : List Item). AllFit (want.Takes format levels ∷ more) l) (sym (append_assoc (items_of_takes takes) (item.Mark ∷ items_of_tree raised) rest)) first)

  takes_fit : (format : Format) (levels : ℕ) (takes : Takes) (more : List Wanted) (rest : List Item) → EachWithin format (levels - 1) takes → AllByRecursion (FitsInTree format) (items_of_takes takes)
      → AllFit (want.Tree format (after_raise format levels) ∷ more) rest → AllFit (want.Takes format levels ∷ more) (items_of_takes takes ++ item.Mark ∷ rest)
  takes_fit format levels no_take more rest w h f = (tt, f)
  takes_fit format levels (take codes tree others) more rest w h f =
      let parts = all_split (FitsInTree format) (items_of_tree tree) (items_of_takes others) h.1 in
      let second = takes_fit format levels others more rest w.1 parts.1 f in
      let first = tree_fits format (levels - 1) tree (want.Takes format levels ∷ more) (items_of_takes others ++ item.Mark ∷ rest) w.0 parts.0 second in
      (h.0, subst (λ (l : List Item). AllFit (want.Tree format (levels - 1) ∷ want.Takes format levels ∷ more) l) (sym (append_assoc (items_of_tree tree) (items_of_takes others) (item.Mark ∷ rest))) first)

groups_fit : (n : ℕ) (groups : List Group) (more : List Wanted) (rest : List Item) → length groups ≡ n → AllByRecursion (λ group. IsWanted (want.Groups 1) (item.Grouped group)) groups → AllFit more rest
    → AllFit (groups_wanted n ++ more) (map item.Grouped groups ++ rest)
groups_fit zero [] more rest many h f = f
groups_fit zero (group ∷ groups) more rest many h f = absurd (omega (arith, many))
groups_fit (suc n) [] more rest many h f = absurd (omega (arith, many))
groups_fit (suc n) (group ∷ groups) more rest many h f =
    let left : n ≡ suc n - 1 = omega arith in
    let behind = groups_fit n groups more rest (omega (arith, many)) h.1 f in
    let later = subst (λ (k : ℕ). AllFit (groups_wanted k ++ more) (map item.Grouped groups ++ rest)) left behind in
    subst (λ (l : List Wanted). AllFit (l ++ more) (map item.Grouped (group ∷ groups) ++ rest)) (sym (groups_more (suc n) (omega arith))) (h.0, later)

pub target_fits : (target : Option Grouping) (more : List Wanted) (rest : List Item) → TargetHasLines target → AllFit more rest → AllFit (want.Target ∷ more) (items_of_target target ++ rest)
target_fits None more rest h f = (tt, f)
target_fits (Some groups) more rest h f = (h.few, groups_fit (length groups) groups more rest refl h.each f)

pub head_fits : (format : Format) (tolerance : Option Tolerance) (rest : List Item) → FitsRange tolerance → AllFit (want.Order format ∷ []) rest → AllFit (want.Head ∷ []) (items_of_head format tolerance ++ rest)
head_fits format None rest h f = (tt, f)
head_fits format (Some w) rest h f = (tt, (h, f))
