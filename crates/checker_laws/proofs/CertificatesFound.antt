-- Items that come one after the other from the head on are the items of a certificate.
use Rattle.std.proofs.Common.{◌≡◌, ℕ, List, [], ◌∷◌, ◌++◌, length, map, Option, Some, None, refl, ap, sym, ◌∙◌}
use Rattle.county_codes.specs.declared.tolerance.Tolerance.{Tolerance}
use Rattle.grouping_laws.specs.Grouping.{Grouping}
use Rattle.certificate_data.specs.Tree.{Tree}
use Rattle.certificate_data.specs.declared.format.Format.{Format}
use Rattle.certificate_lines.specs.Fitting.{AllFit}
use Rattle.certificate_lines.specs.declared.item.Item.{Item}
use Rattle.certificate_lines.specs.declared.item.Item.TheVariants as item
use Rattle.certificate_lines.specs.declared.item.Wanted.{Wanted}
use Rattle.certificate_lines.specs.declared.item.Wanted.TheVariants as want
use Rattle.certificate_data.specs.TreeValue.{Certificate}
use Rattle.certificate_text.specs.Trees.{items_of_tree, items_of_head, items_of_target, items_of_certificate}
use Rattle.checker_laws.proofs.Forms.{from_head, from_order, from_limit, from_end}
use Rattle.checker_laws.proofs.TreesFound.{groups_found, tree_found}

target_groups : (n : ℕ) (more : List Wanted) (items : List Item) → AllFit (want.Target ∷ more) (item.Target (Some n) ∷ items) → (target : Option Grouping) × (later : List Item) × (item.Target (Some n) ∷ items ≡ items_of_target target ++ later) × AllFit more later
target_groups n more items f =
    let gs = groups_found n more items f.1 in (
      Some gs.groups,
      gs.later,
      ap (λ (l : List Item). item.Target (Some n) ∷ l) gs.are ∙ ap (λ (k : ℕ). item.Target (Some k) ∷ (map item.Grouped gs.groups ++ gs.later)) (sym gs.many),
      gs.fits,
    )

from_target : (more : List Wanted) (items : List Item) → AllFit (want.Target ∷ more) items → (target : Option Grouping) × (later : List Item) × (items ≡ items_of_target target ++ later) × AllFit more later
from_target more [] f = absurd f
from_target more (item.Target None ∷ later) f = (None, later, refl, f.1)
from_target more (item.Target (Some n) ∷ later) f = target_groups n more later f
from_target more (_ ∷ later) f = absurd f.0

-- the items of a certificate, piece by piece
joined : (format : Format) (tolerance : Option Tolerance) (order : List ℕ) (limit : ℕ) (target : Option Grouping) (tree : Tree) (a b c d e f : List Item) → a ≡ items_of_head format tolerance ++ b → b ≡ item.Order order ∷ c → c ≡ item.Limit limit ∷ d
    → d ≡ items_of_target target ++ e → e ≡ items_of_tree tree ++ f → f ≡ item.End ∷ [] → a ≡ items_of_certificate (record { round = record { order = order; limit = limit; target = target; format = format; tolerance = tolerance }; tree = tree })
joined format tolerance order limit target tree a b c d e f head ordered limited targeted grown ended =
    let last : e ≡ items_of_tree tree ++ item.End ∷ [] = grown ∙ ap (λ (l : List Item). items_of_tree tree ++ l) ended in
    let behind : d ≡ items_of_target target ++ (items_of_tree tree ++ item.End ∷ []) = targeted ∙ ap (λ (l : List Item). items_of_target target ++ l) last in
    head ∙ ap (λ (l : List Item). items_of_head format tolerance ++ l) (ordered ∙ ap (λ (l : List Item). item.Order order ∷ l) (limited ∙ ap (λ (l : List Item). item.Limit limit ∷ l) behind))

pub certificate_found : (items : List Item) → AllFit (want.Head ∷ []) items → (c : Certificate) × (items ≡ items_of_certificate c)
certificate_found items f =
    let head = from_head items f in
    let order = from_order head.format head.later head.fits in
    let limit = from_limit (want.Target ∷ want.Tree head.format (length order.0) ∷ want.End ∷ []) order.1 order.3 in
    let target = from_target (want.Tree head.format (length order.0) ∷ want.End ∷ []) limit.1 limit.3 in
    let tree = tree_found head.format (length order.0) (want.End ∷ []) target.1 target.3 in (
      record { round = record { order = order.0; limit = limit.0; target = target.0; format = head.format; tolerance = head.tolerance }; tree = tree.tree },
      joined head.format head.tolerance order.0 limit.0 target.0 tree.tree items head.later order.1 limit.1 target.1 tree.later head.are order.2 limit.2 target.2 tree.are (from_end tree.later tree.fits),
    )
