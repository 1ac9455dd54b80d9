-- Trees that fit, part by part.
use Rattle.std.proofs.Common.{◌≡◌, ℕ, ◌-◌, ◌≤◌, List, [], ◌∷◌, ◌++◌, length, map, Option, refl, ap, sym, ◌∙◌}
use Rattle.std.specs.List.{flat_map}
use Rattle.certificate_data.specs.declared.format.Format.{Format}
use Rattle.certificate_data.specs.declared.format.Format.TheVariants.{Plain, Wide}
use Rattle.certificate_data.specs.Tree.{bound}
use Rattle.certificate_laws.specs.Depth.{after_raise}
use Rattle.certificate_lines.specs.Lines.{most}
use Rattle.certificate_lines.specs.Items.{allowances_wanted}
use Rattle.certificate_lines.specs.Fitting.{IsWanted, IsSet}
use Rattle.certificate_lines.specs.Writing.{DontFit}
use Rattle.certificate_data.specs.declared.allowance.Allowance.{Allowance as DeclaredAllowance}
use Rattle.certificate_lines.specs.declared.item.Opening.TheVariants as opening
use Rattle.certificate_lines.specs.declared.item.Item.{Item}
use Rattle.certificate_lines.specs.declared.item.Item.TheVariants as item
use Rattle.certificate_lines.specs.declared.item.Wanted.TheVariants as want
use Rattle.certificate_data.specs.TreeValue.{allowance_of, tree_of, leaf_of, list_of_takes}
use Rattle.certificate_text.specs.Trees.{leaf_items, items_of_tree, items_of_takes}
use Rattle.certificate_text.specs.Tests.{Fitting}
use Rattle.certificate_data.specs.declared.tree.Tree.{Tree, out-Tree, roll-out-Tree}
use Rattle.certificate_data.specs.declared.tree.Branch.{Branch, out-Branch, roll-out-Branch}
use Rattle.certificate_data.specs.declared.tree.Take.{Take, Take', out-Take, roll-out-Take}
use Rattle.certificate_text.proofs.TreeViews.{items_of_branch, items_of_branches, items_of_take, bound_items, tree_items, made_branch, made_take}
use Rattle.certificate_text.proofs.FitLaws.{fitting_then, fitting_with, fitting_as, refused_with, refused_as, refused_after, fitting_line, line_refused}

-- the first line of a bound leaf, and its lines
fits_bound : (format : Format) (levels n : ℕ) → n ≤ most → IsWanted (want.Tree format levels) (item.Opens (opening.Bound n))
fits_bound Plain levels n few = few
fits_bound Wide levels n few = few

bound_fits : (format : Format) (levels n : ℕ) → IsWanted (want.Tree format levels) (item.Opens (opening.Bound n)) → n ≤ most
bound_fits Plain levels n fit = fit
bound_fits Wide levels n fit = fit

module _ (format : Format) (levels : ℕ) (ks : List DeclaredAllowance) where
  bound_begun : length ks ≤ most → Fitting (want.Tree format levels ∷ []) (item.Opens (opening.Bound (length ks)) ∷ []) (allowances_wanted (length ks))
  bound_begun few = fitting_line (want.Tree format levels) (item.Opens (opening.Bound (length ks))) (fits_bound format levels (length ks) few)

  pub bound_fitting : length ks ≤ most → Fitting (allowances_wanted (length ks)) (map item.Allows ks) [] → Fitting (want.Tree format levels ∷ []) (leaf_items (bound (map allowance_of ks))) []
  bound_fitting few h =
      fitting_as (want.Tree format levels ∷ []) [] (item.Opens (opening.Bound (length ks)) ∷ map item.Allows ks) (leaf_items (bound (map allowance_of ks))) (sym (bound_items ks))
      (fitting_then (want.Tree format levels ∷ []) (allowances_wanted (length ks)) [] (item.Opens (opening.Bound (length ks)) ∷ []) (map item.Allows ks) (bound_begun few) h)

  pub bound_refused : length ks ≤ most → DontFit (allowances_wanted (length ks)) (map item.Allows ks) → DontFit (want.Tree format levels ∷ []) (leaf_items (bound (map allowance_of ks)))
  bound_refused few h =
      refused_as (want.Tree format levels ∷ []) (item.Opens (opening.Bound (length ks)) ∷ map item.Allows ks) (leaf_items (bound (map allowance_of ks))) (sym (bound_items ks))
      (refused_after (want.Tree format levels ∷ []) (allowances_wanted (length ks)) (item.Opens (opening.Bound (length ks)) ∷ []) (map item.Allows ks) (bound_begun few) h)

  -- too many lines
  pub bound_unfit : (length ks ≤ most → ⊥) → DontFit (want.Tree format levels ∷ []) (leaf_items (bound (map allowance_of ks)))
  bound_unfit many =
      refused_as (want.Tree format levels ∷ []) (item.Opens (opening.Bound (length ks)) ∷ map item.Allows ks) (leaf_items (bound (map allowance_of ks))) (sym (bound_items ks))
      (line_refused (want.Tree format levels) [] (item.Opens (opening.Bound (length ks))) (map item.Allows ks) (λ fit. many (bound_fits format levels (length ks) fit)))

-- a stuck leaf
fits_stuck : (format : Format) (levels county : ℕ) → county ≤ 99999 → IsWanted (want.Tree format levels) (item.Opens (opening.Stuck county))
fits_stuck Plain levels county small = small
fits_stuck Wide levels county small = small

stuck_fits : (format : Format) (levels county : ℕ) → IsWanted (want.Tree format levels) (item.Opens (opening.Stuck county)) → county ≤ 99999
stuck_fits Plain levels county fit = fit
stuck_fits Wide levels county fit = fit

pub stuck_fitting : (format : Format) (levels county : ℕ) → county ≤ 99999 → Fitting (want.Tree format levels ∷ []) (item.Opens (opening.Stuck county) ∷ []) []
stuck_fitting format levels county small = fitting_line (want.Tree format levels) (item.Opens (opening.Stuck county)) (fits_stuck format levels county small)

pub stuck_unfit : (format : Format) (levels county : ℕ) → (county ≤ 99999 → ⊥) → DontFit (want.Tree format levels ∷ []) (item.Opens (opening.Stuck county) ∷ [])
stuck_unfit format levels county great = line_refused (want.Tree format levels) [] (item.Opens (opening.Stuck county)) [] (λ fit. great (stuck_fits format levels county fit))

fits_seats : (format : Format) (levels : ℕ) → IsWanted (want.Tree format levels) (item.Opens opening.Seats)
fits_seats Plain levels = tt
fits_seats Wide levels = tt

pub seats_fitting : (format : Format) (levels : ℕ) → Fitting (want.Tree format levels ∷ []) (item.Opens opening.Seats ∷ []) []
seats_fitting format levels = fitting_line (want.Tree format levels) (item.Opens opening.Seats) (fits_seats format levels)

-- a take and its tree
module _ (format : Format) (k : ℕ) (cs : List ℕ) (inside : List Item) where
  take_begun : IsSet cs → Fitting (want.Takes format k ∷ []) (item.Takes cs ∷ []) (want.Tree format (k - 1) ∷ want.Takes format k ∷ [])
  take_begun is = fitting_line (want.Takes format k) (item.Takes cs) is

  pub take_fitting : IsSet cs → Fitting (want.Tree format (k - 1) ∷ []) inside [] → Fitting (want.Takes format k ∷ []) (item.Takes cs ∷ inside) (want.Takes format k ∷ [])
  take_fitting is h =
      fitting_then (want.Takes format k ∷ []) (want.Tree format (k - 1) ∷ want.Takes format k ∷ []) (want.Takes format k ∷ []) (item.Takes cs ∷ []) inside (take_begun is)
      (fitting_with (want.Tree format (k - 1) ∷ []) [] (want.Takes format k ∷ []) inside h)

  pub take_unfit : (IsSet cs → ⊥) → DontFit (want.Takes format k ∷ []) (item.Takes cs ∷ inside)
  take_unfit unfit = line_refused (want.Takes format k) [] (item.Takes cs) inside unfit

  pub take_refused : IsSet cs → DontFit (want.Tree format (k - 1) ∷ []) inside → DontFit (want.Takes format k ∷ []) (item.Takes cs ∷ inside)
  take_refused is unfit =
      refused_after (want.Takes format k ∷ []) (want.Tree format (k - 1) ∷ want.Takes format k ∷ []) (item.Takes cs ∷ []) inside (take_begun is)
      (refused_with (want.Tree format (k - 1) ∷ []) (want.Takes format k ∷ []) inside unfit)

-- a branch and its takes
module _ (format : Format) (k county : ℕ) (limit : Option ℕ) (inside : List Item) where
  pub branch_fitting : IsWanted (want.Tree format k) (item.Opens (opening.Branch county limit)) → Fitting (want.Takes format k ∷ []) inside (want.Tree format (after_raise format k) ∷ [])
      → Fitting (want.Tree format k ∷ []) (item.Opens (opening.Branch county limit) ∷ inside) (want.Tree format (after_raise format k) ∷ [])
  branch_fitting fit h =
      fitting_then (want.Tree format k ∷ []) (want.Takes format k ∷ []) (want.Tree format (after_raise format k) ∷ []) (item.Opens (opening.Branch county limit) ∷ []) inside
      (fitting_line (want.Tree format k) (item.Opens (opening.Branch county limit)) fit) h

  pub branch_unfit : (IsWanted (want.Tree format k) (item.Opens (opening.Branch county limit)) → ⊥) → DontFit (want.Tree format k ∷ []) (item.Opens (opening.Branch county limit) ∷ inside)
  branch_unfit unfit = line_refused (want.Tree format k) [] (item.Opens (opening.Branch county limit)) inside unfit

  pub branch_refused : IsWanted (want.Tree format k) (item.Opens (opening.Branch county limit)) → DontFit (want.Takes format k ∷ []) inside → DontFit (want.Tree format k ∷ []) (item.Opens (opening.Branch county limit) ∷ inside)
  branch_refused fit unfit =
      refused_after (want.Tree format k ∷ []) (want.Takes format k ∷ []) (item.Opens (opening.Branch county limit) ∷ []) inside
      (fitting_line (want.Tree format k) (item.Opens (opening.Branch county limit)) fit) unfit

-- values of the code's types, taken apart
pub take_parts : (t : Take) → items_of_take t ≡ item.Takes (out-Take t).codes ∷ items_of_tree (tree_of (out-Take t).tree)
take_parts t = ap items_of_take (sym (roll-out-Take t)) ∙ made_take (out-Take t).codes (out-Take t).tree

pub branch_parts : (b : Branch) → items_of_branch b ≡ item.Opens (opening.Branch (out-Branch b).county (out-Branch b).limit) ∷ (items_of_takes (list_of_takes (out-Branch b).takes.items) ++ item.Mark ∷ [])
branch_parts b = ap items_of_branch (sym (roll-out-Branch b)) ∙ made_branch (out-Branch b).county (out-Branch b).limit (out-Branch b).takes

pub takes_flat : (ts : List Take) → items_of_takes (list_of_takes ts) ≡ flat_map items_of_take ts
takes_flat [] = refl
takes_flat (Take' codes tree ∷ ts) = ap (λ (l : List Item). item.Takes codes ∷ (items_of_tree (tree_of tree) ++ l)) (takes_flat ts)

branches_flat : (bs : List Branch) → items_of_branches bs ≡ flat_map items_of_branch bs
branches_flat [] = refl
branches_flat (b ∷ bs) = ap (λ (l : List Item). items_of_branch b ++ l) (branches_flat bs)

pub tree_parts : (t : Tree) → items_of_tree (tree_of t) ≡ flat_map items_of_branch (out-Tree t).branches.items ++ leaf_items (leaf_of (out-Tree t).leaf)
tree_parts t =
    ap (λ (u : Tree). items_of_tree (tree_of u)) (sym (roll-out-Tree t)) ∙ tree_items (out-Tree t).branches (out-Tree t).leaf
    ∙ ap (λ (l : List Item). l ++ leaf_items (leaf_of (out-Tree t).leaf)) (branches_flat (out-Tree t).branches.items)
