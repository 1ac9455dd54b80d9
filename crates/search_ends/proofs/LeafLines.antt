-- The lines of leaves: their numbers are in their ranges.
use Rattle.std.proofs.Common.{ℕ, ◌+◌, ◌≤◌, List, [], ◌∷◌, ◌++◌, map, length, refl, sym, subst, arith}
use Rattle.std.specs.List.{AllByRecursion}
use Rattle.county_codes.specs.Limits.{most_counties}
use Rattle.grouping_laws.specs.Problem.{Problem}
use Rattle.certificate_data.specs.declared.format.Format.{Format}
use Rattle.certificate_data.specs.declared.format.Format.TheVariants.{Plain, Wide}
use Rattle.certificate_laws.specs.State.{State}
use Rattle.certificate_data.specs.Tree.{Weight, Allowance, room, weigh, bound}
use Rattle.certificate_lines.specs.Fitting.{AreWeights}
use Rattle.certificate_lines.specs.declared.item.Item.{Item}
use Rattle.certificate_lines.specs.declared.item.Item.TheVariants.{Opens, Allows}
use Rattle.certificate_lines.specs.declared.item.Opening.TheVariants as opening
use Rattle.certificate_data.specs.TreeValue.{declared_weight, declared_allowance}
use Rattle.certificate_text.specs.Trees.{leaf_items}
use Rattle.certificate_text.specs.TreeItems.{FitsInTree}
use Rattle.search_ends.specs.EmptyLines.{IsEmptyLine, AreEmptyFrom}
use Rattle.certificate_text.proofs.ShortLines.{weights_fit}

bound_opens : (format : Format) (n : ℕ) → n ≤ most_counties → FitsInTree format (Opens (opening.Bound n))
bound_opens Plain n l = l
bound_opens Wide n l = l

-- the item of a line of a bound leaf
abbrev pub line_item : Allowance → Item
line_item a = Allows (declared_allowance a)

module _ (format : Format) where
  abbrev pub AreSpelled : List Allowance → Type 0
  AreSpelled lines = AllByRecursion (FitsInTree format) (map line_item lines)

  empty_spelled : (p : Problem) (s : State) (i : ℕ) (line : Allowance) → IsEmptyLine p s i line → FitsInTree format (line_item line)
  empty_spelled p s i room l = tt
  empty_spelled p s i (weigh quota ws) e =
      subst (λ n. AreWeights n (map declared_weight ws)) (sym e.0) (subst (λ (z : List Weight). AreWeights 1 (map declared_weight z)) (sym e.1) (weights_fit 1 [] (omega arith) (omega arith) (omega arith) tt refl))

  pub empty_lines_spelled : (p : Problem) (s : State) (i : ℕ) (lines : List Allowance) → AreEmptyFrom p s i lines → AreSpelled lines
  empty_lines_spelled p s i [] are = tt
  empty_lines_spelled p s i (x ∷ xs) are = (empty_spelled p s i x are.0, empty_lines_spelled p s (i + 1) xs are.1)

  pub one_more_spelled : (lines : List Allowance) (line : Allowance) → AreSpelled lines → FitsInTree format (line_item line) → AreSpelled (lines ++ line ∷ [])
  one_more_spelled [] line are is = (is, tt)
  one_more_spelled (x ∷ xs) line are is = (are.0, one_more_spelled xs line are.1 is)

  -- a bound leaf of lines that are spelled
  pub bound_spelled : (lines : List Allowance) → length lines ≤ most_counties → AreSpelled lines → AllByRecursion (FitsInTree format) (leaf_items (bound lines))
  bound_spelled lines few are = (bound_opens format (length lines) few, are)
