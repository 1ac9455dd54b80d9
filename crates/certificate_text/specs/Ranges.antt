-- The numbers that the lines of a tree tell apart.
use Rattle.std.specs.Prelude.{◌<◌, ◌≤◌, ◌^◌, Some, None}
use Rattle.std.specs.List.{AllByRecursion}
use Rattle.certificate_lines.specs.Fitting.{AreCodes}
use Rattle.certificate_data.specs.declared.weights.Weight.{Weight}
use Rattle.certificate_data.specs.declared.allowance.Allowance.TheVariants.{Room, Weigh}
use Rattle.certificate_lines.specs.declared.item.Opening.TheVariants.{Branch, Stuck, Seats, Bound}
use Rattle.certificate_lines.specs.declared.item.Item.{Item}
use Rattle.certificate_lines.specs.declared.item.Item.TheVariants.{Opens, Takes, Mark, Allows}
use Rattle.certificate_data.specs.Tree.{Tree}
use Rattle.certificate_text.specs.Trees.{items_of_tree}

pub record IsWeightInRange (w : Weight) : Type 0 where
  pub county : w.county ≤ 99999
  pub weight : w.weight < 2 ^ 64

-- an item of a tree, whose codes have five digits and whose numbers are below 2^64
abbrev pub IsInRange : Item → Type 0
IsInRange (Opens (Branch county None)) = county ≤ 99999
IsInRange (Opens (Branch county (Some limit))) = (county ≤ 99999) × (limit < 2 ^ 64)
IsInRange (Opens (Stuck county)) = county ≤ 99999
IsInRange (Opens Seats) = Unit {0}
IsInRange (Opens (Bound lines)) = lines < 2 ^ 64
IsInRange (Takes county_codes) = AreCodes county_codes
IsInRange Mark = Unit {0}
IsInRange (Allows Room) = Unit {0}
IsInRange (Allows (Weigh quota weights)) = (quota < 2 ^ 64) × AllByRecursion IsWeightInRange weights
IsInRange item = ⊥

-- the numbers of a tree are such, as those of each value of the code's type are
abbrev pub AreTreeNumbers : Tree → Type 0
AreTreeNumbers tree = AllByRecursion IsInRange (items_of_tree tree)
