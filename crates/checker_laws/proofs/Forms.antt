-- Which items may stand where something is wanted.
use Rattle.std.proofs.Common.{◌≡◌, ℕ, List, [], ◌∷◌, ◌++◌, length, Option, Some, None, refl, ap}
use Rattle.certificate_data.specs.declared.format.Format.{Format}
use Rattle.certificate_data.specs.declared.format.Format.TheVariants.{Plain, Wide}
use Rattle.county_codes.specs.declared.group.Group.{Group}
use Rattle.county_codes.specs.declared.tolerance.Tolerance.{Tolerance}
use Rattle.certificate_lines.specs.Items.{taken}
use Rattle.certificate_lines.specs.Fitting.{IsWanted, AllFit}
use Rattle.certificate_lines.specs.declared.item.Version.TheVariants.{One, Two}
use Rattle.certificate_data.specs.declared.allowance.Allowance.{Allowance}
use Rattle.certificate_lines.specs.declared.item.Opening.{Opening}
use Rattle.certificate_lines.specs.declared.item.Item.{Item}
use Rattle.certificate_lines.specs.declared.item.Item.TheVariants as item
use Rattle.certificate_lines.specs.declared.item.Wanted.{Wanted}
use Rattle.certificate_lines.specs.declared.item.Wanted.TheVariants as want
use Rattle.certificate_text.specs.Trees.{items_of_head}

pub opens_only : (format : Format) (levels : ℕ) (i : Item) → IsWanted (want.Tree format levels) i → (o : Opening) × (i ≡ item.Opens o)
opens_only Plain levels (item.Opens o) f = (o, refl)
opens_only Wide levels (item.Opens o) f = (o, refl)
opens_only Plain levels _ f = absurd f
opens_only Wide levels _ f = absurd f

pub takes_only : (format : Format) (levels : ℕ) (i : Item) → IsWanted (want.Takes format levels) i → (o : Option (List ℕ)) × (i ≡ taken o)
takes_only format levels (item.Takes codes) f = (Some codes, refl)
takes_only format levels item.Mark f = (None, refl)
takes_only format levels _ f = absurd f

pub grouped_only : (left : ℕ) (i : Item) → IsWanted (want.Groups left) i → (g : Group) × (i ≡ item.Grouped g)
grouped_only left (item.Grouped g) f = (g, refl)
grouped_only left _ f = absurd f

pub allows_only : (left : ℕ) (i : Item) → IsWanted (want.Allowances left) i → (a : Allowance) × (i ≡ item.Allows a)
allows_only left (item.Allows a) f = (a, refl)
allows_only left _ f = absurd f

pub from_tolerance : (format : Format) (items : List Item) → AllFit (want.Tolerance format ∷ []) items → (tolerance : Tolerance) × (later : List Item) × (items ≡ item.Within tolerance ∷ later) × AllFit (want.Order format ∷ []) later
from_tolerance format [] f = absurd f
from_tolerance format (item.Within tolerance ∷ later) f = (tolerance, later, refl, f.1)
from_tolerance format (_ ∷ later) f = absurd f.0

-- the head, and the tolerance if one is named
pub record HeadFound (items : List Item) : Type 0 where
  pub format : Format
  pub tolerance : Option Tolerance
  pub later : List Item
  pub are : items ≡ items_of_head format tolerance ++ later
  pub fits : AllFit (want.Order format ∷ []) later

pub from_head : (items : List Item) → AllFit (want.Head ∷ []) items → HeadFound items
from_head [] f = absurd f
from_head (item.Head format One ∷ later) f = record { format = format; tolerance = None; later = later; are = refl; fits = f.1 }
from_head (item.Head format Two ∷ later) f =
    let named = from_tolerance format later f.1 in
    record { format = format; tolerance = Some named.0; later = named.1; are = ap (λ (l : List Item). item.Head format Two ∷ l) named.2; fits = named.3 }
from_head (_ ∷ later) f = absurd f.0

pub from_order : (format : Format) (items : List Item) → AllFit (want.Order format ∷ []) items
    → (order : List ℕ) × (later : List Item) × (items ≡ item.Order order ∷ later) × AllFit (want.Limit ∷ want.Target ∷ want.Tree format (length order) ∷ want.End ∷ []) later
from_order format [] f = absurd f
from_order format (item.Order order ∷ later) f = (order, later, refl, f.1)
from_order format (_ ∷ later) f = absurd f.0

pub from_limit : (more : List Wanted) (items : List Item) → AllFit (want.Limit ∷ more) items → (limit : ℕ) × (later : List Item) × (items ≡ item.Limit limit ∷ later) × AllFit more later
from_limit more [] f = absurd f
from_limit more (item.Limit limit ∷ later) f = (limit, later, refl, f.1)
from_limit more (_ ∷ later) f = absurd f.0

pub from_end : (items : List Item) → AllFit (want.End ∷ []) items → items ≡ item.End ∷ []
from_end [] f = absurd f
from_end (item.End ∷ []) f = refl
from_end (item.End ∷ (next ∷ later)) f = absurd f.1
from_end (_ ∷ later) f = absurd f.0
