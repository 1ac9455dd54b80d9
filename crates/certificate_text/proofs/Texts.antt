-- Proof trees and certificates have texts.
use Rattle.std.proofs.Common.{ℕ, ◌≤◌, List, [], ◌∷◌, ◌++◌, length, refl, subst, append-nil}
use Rattle.county_codes.specs.Tolerances.{FitsRange}
use Rattle.grouping_laws.specs.Problem.{Problem}
use Rattle.grouping_laws.specs.GroupsFrom.{IsOrder}
use Rattle.certificate_data.specs.Round.{Round}
use Rattle.certificate_laws.specs.State.{State, IsState, empty_state}
use Rattle.certificate_data.specs.Tree.{Tree}
use Rattle.certificate_laws.specs.Proving.{Proves}
use Rattle.certificate_laws.specs.Certificate.{IsCertificate}
use Rattle.certificate_laws.proofs.Branches.{branch_keeps_state}
use Rattle.certificate_laws.proofs.Depth.{trees_are_shallow}
use Rattle.certificate_lines.specs.Lines.{most}
use Rattle.certificate_lines.specs.Fitting.{AreCodes, AllFit}
use Rattle.certificate_lines.specs.Spelling.{text_of_items}
use Rattle.certificate_lines.specs.declared.item.Item.{Item}
use Rattle.certificate_lines.specs.declared.item.Item.TheVariants as item
use Rattle.certificate_lines.specs.declared.item.Wanted.TheVariants as want
use Rattle.certificate_data.specs.TreeValue.{Certificate}
use Rattle.certificate_text.specs.Trees.{items_of_tree, items_of_target, items_of_certificate}
use Rattle.certificate_text.specs.Spelling.{IsSpelling}
use Rattle.certificate_text.specs.TreeItems.{HasLines, TargetHasLines}
use Rattle.certificate_text.specs.TextLaws.{ProofTreesHaveTexts}
use Rattle.certificate_text.proofs.ItemsFit.{tree_fits, target_fits, head_fits}
use Rattle.certificate_text.proofs.ShortLines.{weights_fit}

tree_spelled : (p : Problem) (round : Round) (s : State) (tree : Tree) → IsOrder p round.order → IsState p round s → Proves tree p round s → HasLines round.format tree
    → AllFit (want.Tree round.format (length round.order) ∷ []) (items_of_tree tree)
tree_spelled p round s tree order state proof lines =
    let within = (trees_are_shallow).within p round s tree order state proof in
    subst (λ (l : List Item). AllFit (want.Tree round.format (length round.order) ∷ []) l) (append-nil (items_of_tree tree)) (tree_fits round.format (length round.order) tree [] [] within lines tt)

certificate_fits : (p : Problem) (c : Certificate) → IsCertificate p c.round c.tree → FitsRange c.round.tolerance → length c.round.order ≤ most → AreCodes c.round.order → c.round.limit ≤ most → TargetHasLines c.round.target
    → HasLines c.round.format c.tree → AllFit (want.Head ∷ []) (items_of_certificate c)
certificate_fits p c is tolerance few codes small target lines =
    let state = (branch_keeps_state).first_state p c.round in
    let within = (trees_are_shallow).within p c.round (empty_state p) c.tree is.order state is.proof in
    let tree = tree_fits c.round.format (length c.round.order) c.tree (want.End ∷ []) (item.End ∷ []) within lines (tt, tt) in
    let behind = target_fits c.round.target (want.Tree c.round.format (length c.round.order) ∷ want.End ∷ []) (items_of_tree c.tree ++ item.End ∷ []) target tree in
    head_fits c.round.format c.round.tolerance (item.Order c.round.order ∷ item.Limit c.round.limit ∷ (items_of_target c.round.target ++ (items_of_tree c.tree ++ item.End ∷ []))) tolerance ((few, codes), (small, behind))

certificate_spelled : (p : Problem) (c : Certificate) → IsCertificate p c.round c.tree → FitsRange c.round.tolerance → length c.round.order ≤ most → AreCodes c.round.order → c.round.limit ≤ most → TargetHasLines c.round.target
    → HasLines c.round.format c.tree → (text : List ℕ) × IsSpelling text c
certificate_spelled p c is tolerance few codes small target lines = (text_of_items (items_of_certificate c), record { fits = certificate_fits p c is tolerance few codes small target lines; text_is = refl })

pub have_texts : ProofTreesHaveTexts
have_texts = record { weights = weights_fit; tree = tree_spelled; certificate = certificate_spelled }
