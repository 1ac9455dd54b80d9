-- Which proof trees and certificates have a text.
use Rattle.std.specs.Prelude.{◌≡◌, ℕ, ◌≤◌, true, List, [], ◌∷◌, length}
use Rattle.std.specs.List.{AllByRecursion}
use Rattle.county_codes.specs.Tolerances.{FitsRange}
use Rattle.grouping_laws.specs.Problem.{Problem}
use Rattle.grouping_laws.specs.GroupsFrom.{IsOrder}
use Rattle.certificate_data.specs.Round.{Round}
use Rattle.certificate_laws.specs.State.{State, IsState}
use Rattle.certificate_data.specs.Tree.{Tree}
use Rattle.certificate_laws.specs.Proving.{Proves}
use Rattle.certificate_laws.specs.Certificate.{IsCertificate}
use Rattle.certificate_lines.specs.Lines.{most, ascend}
use Rattle.certificate_lines.specs.Fitting.{AreCodes, FitsWeight, AreWeights, AllFit}
use Rattle.certificate_data.specs.declared.weights.Weight.{Weight}
use Rattle.certificate_lines.specs.declared.item.Wanted.TheVariants as want
use Rattle.certificate_data.specs.TreeValue.{Certificate}
use Rattle.certificate_text.specs.Trees.{items_of_tree}
use Rattle.certificate_text.specs.Spelling.{IsSpelling}
use Rattle.certificate_text.specs.TreeItems.{HasLines, TargetHasLines}

-- Proof trees and certificates whose numbers are in the ranges of their lines have texts.
pub record ProofTreesHaveTexts : Type 0 where
  -- a line of weights of no more counties than there may be is short enough, if its numbers are in range
  pub weights : (quota : ℕ) (weights : List Weight) → 1 ≤ quota → quota ≤ 256000000 → length weights ≤ most
      → AllByRecursion FitsWeight weights → ascend weights ≡ true → AreWeights quota weights
  -- the items of a proof tree fit where a tree is wanted
  pub tree : (p : Problem) (round : Round) (s : State) (tree : Tree) → IsOrder p round.order → IsState p round s
      → Proves tree p round s → HasLines round.format tree
      → AllFit (want.Tree round.format (length round.order) ∷ []) (items_of_tree tree)
  -- a text spells a certificate
  pub certificate : (p : Problem) (c : Certificate) → IsCertificate p c.round c.tree → FitsRange c.round.tolerance
      → length c.round.order ≤ most → AreCodes c.round.order → c.round.limit ≤ most → TargetHasLines c.round.target
      → HasLines c.round.format c.tree → (text : List ℕ) × IsSpelling text c
