-- The stack of what is wanted stays as shallow as it has to be.
use Rattle.std.proofs.Common.{◌≡◌, ℕ, ◌+◌, ◌-◌, ◌≤◌, cond, Bool, true, false, List, [], ◌∷◌, ◌++◌, length, reverse, Some, None, Ok, arith}
use Rattle.std.specs.Prelude.{nat_lt}
use Rattle.std.proofs.lemmas.List.{length-reverse}
use Rattle.field_lines.specs.RawPieces.{RawLine}
use Rattle.certificate_lines.specs.Items.{item_on, wanted_after}
use Rattle.certificate_lines.specs.Lines.{most}
use Rattle.certificate_lines.specs.Fitting.{IsWanted}
use Rattle.certificate_lines.specs.Stacks.{HasRoom, greatest_place, IsBounded}
use Rattle.certificate_lines.proofs.FitsLaws.{item_fits}
use Rattle.certificate_lines.proofs.ReadLaws.{stacked_one}
use Rattle.certificate_data.specs.Levels.{after_raise}
use Rattle.certificate_data.specs.declared.format.Format.{Format}
use Rattle.certificate_data.specs.declared.format.Format.TheVariants.{Plain, Wide}
use Rattle.certificate_lines.specs.declared.item.Version.TheVariants.{One, Two}
use Rattle.certificate_lines.specs.declared.item.Opening.TheVariants.{Branch, Bound}
use Rattle.certificate_lines.specs.declared.item.Item.{Item}
use Rattle.certificate_lines.specs.declared.item.Item.TheVariants.{Head, Within, Order, Target, Opens, Takes, Mark}
use Rattle.certificate_lines.specs.declared.item.Wanted.{Wanted}
use Rattle.certificate_lines.specs.declared.item.Wanted.TheVariants as want

-- a number of groups, or of lines of a bound leaf, takes one place at most
counted_go : (w : Wanted) (below : List Wanted) (t : Bool) → HasRoom (length below) w → greatest_place below ≤ most + 1 → greatest_place (cond t (w ∷ []) [] ++ below) ≤ most + 1
counted_go w below true room h = omega arith
counted_go w below false room h = h

raised : (format : Format) (levels : ℕ) → after_raise format levels ≤ levels
raised Plain levels = omega arith
raised Wide levels = omega arith

-- what is wanted after an item has room where the item has
module _ (below : List Wanted) where
  pub bounded_after : (w : Wanted) (item : Item) → IsWanted w item → HasRoom (length below) w → greatest_place below ≤ most + 1 → greatest_place (wanted_after w item ++ below) ≤ most + 1
  bounded_after want.Head (Head format One) fits room h = omega arith
  bounded_after want.Head (Head format Two) fits room h = omega arith
  bounded_after (want.Tolerance format) (Within tolerance) fits room h = omega arith
  bounded_after (want.Order format) (Order county_codes) fits room h = omega arith
  bounded_after want.Target (Target (Some groups)) fits room h = counted_go (want.Groups groups) below (nat_lt 0 groups) room h
  bounded_after (want.Groups left) item fits room h = counted_go (want.Groups (left - 1)) below (nat_lt 0 (left - 1)) room h
  bounded_after (want.Tree Plain levels) (Opens (Branch county None)) fits room h = omega arith
  bounded_after (want.Tree Plain levels) (Opens (Branch county (Some limit))) fits room h = absurd fits
  bounded_after (want.Tree Wide levels) (Opens (Branch county None)) fits room h = absurd fits
  bounded_after (want.Tree Wide levels) (Opens (Branch county (Some limit))) fits room h = omega arith
  bounded_after (want.Tree format levels) (Opens (Bound lines)) fits room h =
      let one : HasRoom (length below) (want.Allowances lines) = omega arith in
      counted_go (want.Allowances lines) below (nat_lt 0 lines) one h
  bounded_after (want.Takes format levels) (Takes county_codes) fits room h = omega arith
  bounded_after (want.Takes format levels) Mark fits room h = omega (arith, raised format levels)
  bounded_after (want.Part Plain levels) (Opens (Branch county None)) fits room h = omega arith
  bounded_after (want.Part Plain levels) (Opens (Branch county (Some limit))) fits room h = absurd fits
  bounded_after (want.Part Wide levels) (Opens (Branch county None)) fits room h = absurd fits
  bounded_after (want.Part Wide levels) (Opens (Branch county (Some limit))) fits room h = omega arith
  bounded_after (want.Part format levels) (Opens (Bound lines)) fits room h =
      let one : HasRoom (length below) (want.Allowances lines) = omega arith in
      counted_go (want.Allowances lines) below (nat_lt 0 lines) one h
  bounded_after (want.PartTakes format levels) (Takes county_codes) fits room h = omega arith
  bounded_after (want.PartTakes format levels) Mark fits room h = omega (arith, raised format levels)
  bounded_after (want.Allowances left) item fits room h = counted_go (want.Allowances (left - 1)) below (nat_lt 0 (left - 1)) room h
  bounded_after w item fits room h = h

-- a stack without its top
pub top_room : (stack rest : List Wanted) (top : Wanted) → stack ≡ rest ++ top ∷ [] → IsBounded stack → HasRoom (length rest) top
top_room stack rest top e h =
    let turned = stacked_one rest stack top e in
    let bound : greatest_place (top ∷ reverse rest) ≤ most + 1 = rw turned at h in
    omega (arith, length-reverse rest)

pub rest_bounded : (stack rest : List Wanted) (top : Wanted) → stack ≡ rest ++ top ∷ [] → IsBounded stack → IsBounded rest
rest_bounded stack rest top e h =
    let turned = stacked_one rest stack top e in
    let bound : greatest_place (top ∷ reverse rest) ≤ most + 1 = rw turned at h in
    omega arith

-- the stack after an item was taken
pub taken_bounded : (w : Wanted) (piece : RawLine) (item : Item) (below stack : List Wanted) → item_on w piece ≡ Ok item → reverse stack ≡ wanted_after w item ++ reverse below
    → HasRoom (length below) w → IsBounded below → IsBounded stack
taken_bounded w piece item below stack is stacked room h =
    let here : HasRoom (length (reverse below)) w = omega (arith, length-reverse below) in
    rw stacked (bounded_after (reverse below) w item (item_fits w piece item is) here h)
