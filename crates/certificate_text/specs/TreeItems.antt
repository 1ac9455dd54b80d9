-- Trees and targets whose numbers are in the ranges of their lines, so that a text spells them if no branch is too
-- deep.
use Rattle.std.specs.Prelude.{◌≤◌, List, length, Option, Some, None, ⊤}
use Rattle.std.specs.List.{AllByRecursion}
use Rattle.county_codes.specs.declared.group.Group.{Group}
use Rattle.grouping_laws.specs.Grouping.{Grouping}
use Rattle.certificate_lines.specs.Lines.{most}
use Rattle.certificate_lines.specs.Fitting.{IsWanted}
use Rattle.certificate_lines.specs.declared.item.Item.{Item}
use Rattle.certificate_lines.specs.declared.item.Item.TheVariants.{Grouped, Opens, Takes, Mark, Allows}
use Rattle.certificate_lines.specs.declared.item.Wanted.TheVariants as want
use Rattle.certificate_data.specs.declared.format.Format.{Format}
use Rattle.certificate_data.specs.Tree.{Tree}
use Rattle.certificate_text.specs.Trees.{items_of_tree}

-- the item fits where an item of a tree is wanted, if one branch more may be opened there
abbrev pub FitsInTree : Format → Item → Type 0
FitsInTree format (Opens opening) = IsWanted (want.Tree format 1) (Opens opening)
FitsInTree format (Takes county_codes) = IsWanted (want.Takes format 1) (Takes county_codes)
FitsInTree format Mark = Unit {0}
FitsInTree format (Allows allowance) = IsWanted (want.Allowances 1) (Allows allowance)
FitsInTree format item = ⊥

-- each item of the tree does
abbrev pub HasLines : Format → Tree → Type 0
HasLines format tree = AllByRecursion (FitsInTree format) (items_of_tree tree)

-- no more groups than a target may have, each with numbers in their ranges
pub record HasTargetLines (groups : List Group) : Type 0 where
  pub few : length groups ≤ most
  pub each : AllByRecursion (λ group. IsWanted (want.Groups 1) (Grouped group)) groups

-- a target, if there is one, has such groups
abbrev pub TargetHasLines : Option Grouping → Type 0
TargetHasLines None = ⊤
TargetHasLines (Some groups) = HasTargetLines groups
