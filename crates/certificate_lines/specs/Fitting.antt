-- Which items fit on a line, where something is wanted.
use Rattle.std.specs.Prelude.{◌≡◌, ℕ, ◌<◌, ◌≤◌, true, List, [], ◌∷◌, ◌++◌, length, Some, None}
use Rattle.std.specs.List.{AllByRecursion, join_with_byte}
use Rattle.field_lines.specs.Fault.{most_bytes}
use Rattle.county_codes.specs.Tolerances.{is_tolerance}
use Rattle.certificate_lines.specs.Lines.{most, ascend}
use Rattle.certificate_lines.specs.Items.{wanted_after}
use Rattle.certificate_lines.specs.Spelling.{item_words}
use Rattle.certificate_data.specs.declared.format.Format.{Format}
use Rattle.certificate_data.specs.declared.format.Format.TheVariants.{Plain, Wide}
use Rattle.certificate_data.specs.declared.weights.Weight.{Weight}
use Rattle.certificate_data.specs.declared.allowance.Allowance.TheVariants.{Room, Weigh}
use Rattle.certificate_lines.specs.declared.item.Opening.{Opening}
use Rattle.certificate_lines.specs.declared.item.Opening.TheVariants.{Branch, Stuck, Seats, Bound}
use Rattle.certificate_lines.specs.declared.item.Item.{Item}
use Rattle.certificate_lines.specs.declared.item.Item.TheVariants.{Head, Within, Order, Limit, Target, Grouped, Opens}
use Rattle.certificate_lines.specs.declared.item.Item.TheVariants.{Takes, Mark, Open, Allows, End}
use Rattle.certificate_lines.specs.declared.item.Wanted.{Wanted}
use Rattle.certificate_lines.specs.declared.item.Wanted.TheVariants as want

abbrev pub AreCodes : List ℕ → Type 0
AreCodes county_codes = AllByRecursion (λ c. c ≤ 99999) county_codes

-- codes of a group or a take: one at least
pub record IsSet (county_codes : List ℕ) : Type 0 where
  pub some : 1 ≤ length county_codes
  pub few : length county_codes ≤ most
  pub small : AreCodes county_codes

pub record FitsWeight (w : Weight) : Type 0 where
  pub county : w.county ≤ 99999
  pub from : 1 ≤ w.weight
  pub to : w.weight ≤ 1000000

-- weights with a quota; such a line may be too long
pub record AreWeights (quota : ℕ) (weights : List Weight) : Type 0 where
  pub from : 1 ≤ quota
  pub to : quota ≤ 256000000
  pub each : AllByRecursion FitsWeight weights
  pub ascending : ascend weights ≡ true
  pub short : length (join_with_byte 32 (item_words (Allows (Weigh quota weights)))) ≤ most_bytes

-- the line may open a tree of this number of levels, and its numbers are in their ranges
abbrev pub IsOpening : Format → ℕ → Opening → Type 0
IsOpening Plain levels (Branch county None) = (county ≤ 99999) × (0 < levels)
IsOpening Wide levels (Branch county (Some limit)) = (county ≤ 99999) × (1 ≤ limit) × (limit ≤ most) × (0 < levels)
IsOpening format levels (Stuck county) = county ≤ 99999
IsOpening format levels Seats = Unit {0}
IsOpening format levels (Bound lines) = lines ≤ most
IsOpening format levels first = ⊥

-- the item may stand where this is wanted, and its numbers are in their ranges
abbrev pub IsWanted : Wanted → Item → Type 0
IsWanted want.Head (Head format version) = Unit {0}
IsWanted (want.Tolerance format) (Within tolerance) = is_tolerance tolerance ≡ true
IsWanted (want.Order format) (Order county_codes) = (length county_codes ≤ most) × AreCodes county_codes
IsWanted want.Limit (Limit limit) = limit ≤ most
IsWanted want.Target (Target None) = Unit {0}
IsWanted want.Target (Target (Some groups)) = groups ≤ most
IsWanted (want.Groups left) (Grouped group) = (group.seats ≤ 65535) × IsSet group.codes
IsWanted (want.Tree format levels) (Opens first) = IsOpening format levels first
IsWanted (want.Takes format levels) (Takes county_codes) = IsSet county_codes
IsWanted (want.Takes format levels) Mark = Unit {0}
IsWanted (want.Part format levels) (Opens first) = IsOpening format levels first
IsWanted (want.Part format levels) Open = Unit {0}
IsWanted (want.PartTakes format levels) (Takes county_codes) = IsSet county_codes
IsWanted (want.PartTakes format levels) Mark = Unit {0}
IsWanted (want.Allowances left) (Allows Room) = Unit {0}
IsWanted (want.Allowances left) (Allows (Weigh quota weights)) = AreWeights quota weights
IsWanted want.End End = Unit {0}
IsWanted wanted item = ⊥

-- items that stand one after the other, each where it is wanted
abbrev pub AllFit : List Wanted → List Item → Type 0
AllFit [] [] = Unit {0}
AllFit [] (item ∷ items) = ⊥
AllFit (wanted ∷ more) [] = ⊥
AllFit (wanted ∷ more) (item ∷ items) = IsWanted wanted item × AllFit (wanted_after wanted item ++ more) items
