-- Items that fit where a tree is wanted have their numbers in their ranges.
use Rattle.std.proofs.Common.{append_assoc, append-nil, map, ◌≡◌, ℕ, zero, suc, ◌+◌, ◌-◌, List, [], ◌∷◌, ◌++◌, length, refl, sym, subst, arith, Option, Some, None}
use Rattle.std.specs.List.{AllByRecursion}
use Rattle.certificate_data.specs.Tree.{Allowance, stuck, seats, bound, Tree, leaf, branch, Takes, no_take, take}
use Rattle.certificate_data.specs.declared.format.Format.{Format}
use Rattle.certificate_data.specs.declared.format.Format.TheVariants.{Plain, Wide}
use Rattle.certificate_data.specs.Levels.{after_raise}
use Rattle.certificate_lines.specs.Items.{allowances_wanted}
use Rattle.certificate_lines.proofs.ReadLaws.{allowances_more}
use Rattle.certificate_lines.specs.Fitting.{IsWanted, AllFit}
use Rattle.certificate_data.specs.declared.allowance.Allowance.{Allowance as DeclaredAllowance}
use Rattle.certificate_data.specs.declared.allowance.Allowance.TheVariants.{Room, Weigh}
use Rattle.certificate_lines.specs.declared.item.Opening.TheVariants as opening
use Rattle.certificate_lines.specs.declared.item.Item.{Item}
use Rattle.certificate_lines.specs.declared.item.Item.TheVariants as item
use Rattle.certificate_lines.specs.declared.item.Wanted.{Wanted}
use Rattle.certificate_lines.specs.declared.item.Wanted.TheVariants as want
use Rattle.certificate_data.specs.TreeValue.{declared_allowance}
use Rattle.certificate_text.specs.Trees.{items_of_tree, items_of_takes}
use Rattle.certificate_text.specs.TreeItems.{FitsInTree, HasLines}
use Rattle.place_sets.proofs.AllLists.{all_append}

branch_lines : (format : Format) (levels county : ℕ) (limit : Option ℕ) → IsWanted (want.Tree format levels) (item.Opens (opening.Branch county limit)) → IsWanted (want.Tree format 1) (item.Opens (opening.Branch county limit))
branch_lines Plain levels county None f = (f.0, omega arith)
branch_lines Plain levels county (Some limit) f = absurd f
branch_lines Wide levels county None f = absurd f
branch_lines Wide levels county (Some limit) f = (f.0, f.1, f.2, omega arith)

stuck_lines : (format : Format) (levels county : ℕ) → IsWanted (want.Tree format levels) (item.Opens (opening.Stuck county)) → IsWanted (want.Tree format 1) (item.Opens (opening.Stuck county))
stuck_lines Plain levels county f = f
stuck_lines Wide levels county f = f

seats_lines : (format : Format) → IsWanted (want.Tree format 1) (item.Opens opening.Seats)
seats_lines Plain = tt
seats_lines Wide = tt

bound_lines : (format : Format) (levels lines : ℕ) → IsWanted (want.Tree format levels) (item.Opens (opening.Bound lines)) → IsWanted (want.Tree format 1) (item.Opens (opening.Bound lines))
bound_lines Plain levels lines f = f
bound_lines Wide levels lines f = f

allowance_lines : (left : ℕ) (a : DeclaredAllowance) → IsWanted (want.Allowances left) (item.Allows a) → IsWanted (want.Allowances 1) (item.Allows a)
allowance_lines left Room f = tt
allowance_lines left (Weigh quota weights) f = f

allowances_lines : (format : Format) (n : ℕ) (lines : List Allowance) (more : List Wanted) (rest : List Item) → length lines ≡ n → AllFit (allowances_wanted n ++ more) (map (λ a. item.Allows (declared_allowance a)) lines ++ rest)
    → AllByRecursion (FitsInTree format) (map (λ a. item.Allows (declared_allowance a)) lines) × AllFit more rest
allowances_lines format zero [] more rest many f = (tt, f)
allowances_lines format zero (line ∷ lines) more rest many f = absurd (omega (arith, many))
allowances_lines format (suc n) [] more rest many f = absurd (omega (arith, many))
allowances_lines format (suc n) (line ∷ lines) more rest many f =
    let left : suc n - 1 ≡ n = omega arith in
    let here = subst (λ (l : List Wanted). AllFit (l ++ more) (map (λ a. item.Allows (declared_allowance a)) (line ∷ lines) ++ rest)) (allowances_more (suc n) (omega arith)) f in
    let later = subst (λ (k : ℕ). AllFit (allowances_wanted k ++ more) (map (λ a. item.Allows (declared_allowance a)) lines ++ rest)) left here.1 in
    let r = allowances_lines format n lines more rest (omega (arith, many)) later in
    ((allowance_lines (suc n) (declared_allowance line) here.0, r.0), r.1)

mutual
  tree_fits : (format : Format) (levels : ℕ) (tree : Tree) (more : List Wanted) (rest : List Item) → AllFit (want.Tree format levels ∷ more) (items_of_tree tree ++ rest)
      → AllByRecursion (FitsInTree format) (items_of_tree tree) × AllFit more rest
  tree_fits format levels (leaf (stuck county)) more rest f = ((stuck_lines format levels county f.0, tt), f.1)
  tree_fits format levels (leaf seats) more rest f = ((seats_lines format, tt), f.1)
  tree_fits format levels (leaf (bound lines)) more rest f =
      let r = allowances_lines format (length lines) lines more rest refl f.1 in ((bound_lines format levels (length lines) f.0, r.0), r.1)
  tree_fits format levels (branch county limit takes raised) more rest f =
      let behind = subst (λ (l : List Item). AllFit (want.Takes format levels ∷ more) l) (append_assoc (items_of_takes takes) (item.Mark ∷ items_of_tree raised) rest) f.1 in
      let first = takes_lines format levels takes more (items_of_tree raised ++ rest) behind in
      let second = tree_fits format (after_raise format levels) raised more rest first.1 in
      ((branch_lines format levels county limit f.0, all_append (FitsInTree format) (items_of_takes takes) (item.Mark ∷ items_of_tree raised) first.0 (tt, second.0)), second.1)

  takes_lines : (format : Format) (levels : ℕ) (takes : Takes) (more : List Wanted) (rest : List Item) → AllFit (want.Takes format levels ∷ more) (items_of_takes takes ++ item.Mark ∷ rest)
      → AllByRecursion (FitsInTree format) (items_of_takes takes) × AllFit (want.Tree format (after_raise format levels) ∷ more) rest
  takes_lines format levels no_take more rest f = (tt, f.1)
  takes_lines format levels (take codes tree others) more rest f =
      let behind = subst (λ (l : List Item). AllFit (want.Tree format (levels - 1) ∷ want.Takes format levels ∷ more) l) (append_assoc (items_of_tree tree) (items_of_takes others) (item.Mark ∷ rest)) f.1 in
      let first = tree_fits format (levels - 1) tree (want.Takes format levels ∷ more) (items_of_takes others ++ item.Mark ∷ rest) behind in
      let second = takes_lines format levels others more rest first.1 in
      ((f.0, all_append (FitsInTree format) (items_of_tree tree) (items_of_takes others) first.0 second.0), second.1)

pub spelled_lines : (format : Format) (levels : ℕ) (tree : Tree) → AllFit (want.Tree format levels ∷ []) (items_of_tree tree) → HasLines format tree
spelled_lines format levels tree f = (tree_fits format levels tree [] [] (subst (λ (l : List Item). AllFit (want.Tree format levels ∷ []) l) (sym (append-nil (items_of_tree tree))) f)).0
