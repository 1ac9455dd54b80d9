-- What tests tell of a leaf, a head and a target.
use Rattle.std.proofs.Common.{◌≡◌, ℕ, ◌≤◌, Bool, true, false, List, [], ◌∷◌, length, map, Some, None, refl, sym}
use Rattle.std.specs.Prelude.{nat_le}
use Rattle.std.proofs.lemmas.Bool.{le-leb, leb-true}
use Rattle.county_codes.specs.Tolerances.{is_tolerance}
use Rattle.county_codes.specs.declared.group.Group.{Group}
use Rattle.county_codes.specs.declared.tolerance.Tolerance.{Tolerance}
use Rattle.certificate_data.specs.declared.format.Format.{Format}
use Rattle.certificate_data.specs.Tree.{Tree, bound}
use Rattle.certificate_lines.specs.Lines.{most}
use Rattle.certificate_lines.specs.Items.{groups_wanted, allowances_wanted}
use Rattle.certificate_lines.specs.Writing.{DontFit}
use Rattle.certificate_data.specs.declared.allowance.Allowance.{Allowance as DeclaredAllowance}
use Rattle.certificate_lines.specs.declared.item.Opening.TheVariants as opening
use Rattle.certificate_lines.specs.declared.item.Item.TheVariants as item
use Rattle.certificate_lines.specs.declared.item.Version.TheVariants.{One, Two}
use Rattle.certificate_lines.specs.declared.item.Wanted.TheVariants as want
use Rattle.certificate_data.specs.TreeValue.{allowance_of}
use Rattle.certificate_text.specs.Trees.{leaf_items, items_of_head, items_of_target}
use Rattle.certificate_text.specs.Tests.{Fitting, Tests}
use Rattle.certificate_text.proofs.FitLaws.{fitting_then, refused_after, fitting_line, line_refused}
use Rattle.certificate_text.proofs.TreeFits.{bound_fitting, bound_refused, stuck_fitting, stuck_unfit}

-- tests of a number, both ways
pub passed : (r : Bool) (n k : ℕ) → r ≡ nat_le n k → r ≡ true → n ≤ k
passed r n k is e = leb-true n k (cc (is, e))

pub failed : (r : Bool) (n k : ℕ) → r ≡ nat_le n k → r ≡ false → n ≤ k → ⊥
failed r n k is e le =
    let yes : nat_le n k ≡ true = le-leb n k le in
    cc (is, e, yes)

-- what a test tells of a leaf
pub stuck_tested : (format : Format) (levels county : ℕ) (r : Bool) → r ≡ nat_le county 99999 → Tests (want.Tree format levels ∷ []) (item.Opens (opening.Stuck county) ∷ []) [] r
stuck_tested format levels county true is = stuck_fitting format levels county (leb-true county 99999 (sym is))
stuck_tested format levels county false is = stuck_unfit format levels county (failed false county 99999 is refl)

pub bound_tested : (format : Format) (levels : ℕ) (ks : List DeclaredAllowance) (r : Bool) → length ks ≤ most → Tests (allowances_wanted (length ks)) (map item.Allows ks) [] r → Tests (want.Tree format levels ∷ []) (leaf_items (bound (map allowance_of ks))) [] r
bound_tested format levels ks true few h = bound_fitting format levels ks few h
bound_tested format levels ks false few h = bound_refused format levels ks few h

-- what a test tells of the head
pub plain_head : (format : Format) → Fitting (want.Head ∷ []) (items_of_head format None) (want.Order format ∷ [])
plain_head format = fitting_line want.Head (item.Head format One) tt

pub head_tested : (format : Format) (tolerance : Tolerance) (r : Bool) → r ≡ is_tolerance tolerance → Tests (want.Head ∷ []) (items_of_head format (Some tolerance)) (want.Order format ∷ []) r
head_tested format tolerance true is =
    fitting_then (want.Head ∷ []) (want.Tolerance format ∷ []) (want.Order format ∷ []) (item.Head format Two ∷ []) (item.Within tolerance ∷ []) (fitting_line want.Head (item.Head format Two) tt)
    (fitting_line (want.Tolerance format) (item.Within tolerance) (sym is))
head_tested format tolerance false is =
    refused_after (want.Head ∷ []) (want.Tolerance format ∷ []) (item.Head format Two ∷ []) (item.Within tolerance ∷ []) (fitting_line want.Head (item.Head format Two) tt)
    (line_refused (want.Tolerance format) [] (item.Within tolerance) [] (λ fit. cc (is, fit)))

-- what a test tells of a target
pub no_target : Fitting (want.Target ∷ []) (items_of_target None) []
no_target = fitting_line want.Target (item.Target None) tt

module _ (groups : List Group) where
  pub groups_tested : (r : Bool) → length groups ≤ most → Tests (groups_wanted (length groups)) (map item.Grouped groups) [] r → Tests (want.Target ∷ []) (items_of_target (Some groups)) [] r
  groups_tested true few h =
      fitting_then (want.Target ∷ []) (groups_wanted (length groups)) [] (item.Target (Some (length groups)) ∷ []) (map item.Grouped groups) (fitting_line want.Target (item.Target (Some (length groups))) few) h
  groups_tested false few h =
      refused_after (want.Target ∷ []) (groups_wanted (length groups)) (item.Target (Some (length groups)) ∷ []) (map item.Grouped groups) (fitting_line want.Target (item.Target (Some (length groups))) few) h

  pub groups_unfit : (length groups ≤ most → ⊥) → DontFit (want.Target ∷ []) (items_of_target (Some groups))
  groups_unfit many = line_refused want.Target [] (item.Target (Some (length groups))) (map item.Grouped groups) many
