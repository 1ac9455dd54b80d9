-- What a listing shows, and what one by a complete certificate says.
use Rattle.std.proofs.Common.{◌≡◌, ◌≤◌, ◌<◌, ℕ, List, length, map, Some, subst, arith}
use Rattle.std.proofs.lemmas.List.{length-map}
use Rattle.grouping_laws.specs.Problem.{Problem}
use Rattle.grouping_laws.specs.Grouping.{Grouping, IsBest}
use Rattle.certificate_laws.specs.State.{empty_state}
use Rattle.certificate_laws.specs.Certificate.{IsCertificate, Conclusion}
use Rattle.certificate_laws.proofs.Agreement.{certificate_shows}
use Rattle.certificate_data.specs.TreeValue.{Certificate}
use Rattle.certificate_text.specs.Spelling.{IsSpelling}
use Rattle.certificate_text.proofs.OneSpelling.{one_value}
use Rattle.list_laws.specs.AllBest.{AreAllBest}
use Rattle.list_laws.specs.Completeness.{IsComplete}
use Rattle.list_groupings.specs.declared.gap.Gap.{Gap}
use Rattle.list_groupings.specs.declared.listing.Listing.TheVariants.{All, Open}
use Rattle.list_groupings.specs.Answers.{IsListing}
use Rattle.list_groupings.specs.Gaps.{IsFirstGap, first_gap_line}
use Rattle.list_groupings.specs.Walking.{sets_held}
use Rattle.list_groupings.proofs.Gapped.{tree_none}

-- there is a best grouping, so a list of all has one
has_one : (p : Problem) (list : List Grouping) (g : Grouping) → AreAllBest p list → IsBest p g → 1 ≤ length list
has_one p list g all best =
    let found = all.complete g best in
    let at : found.1.0 < length list = found.1.1 in
    omega (arith, at)

target_best : (p : Problem) (c : Certificate) → IsCertificate p c.round c.tree → (t : Grouping) → c.round.target ≡ Some t → IsBest p t
target_best p c is t same = subst (Conclusion p) same (certificate_shows p c.round c.tree is)

pub lists_one : (p : Problem) (text : List ℕ) (budget : ℕ) (v : _) → IsListing p text budget (All v) → AreAllBest p (map sets_held v.items) → 1 ≤ length v.items
lists_one p text budget v h all =
    let spells = h.1 in
    let some = has_one p (map sets_held v.items) spells.target.0 all (target_best p h.0 spells.certificate spells.target.0 spells.target.1) in
    subst (λ (n : ℕ). 1 ≤ n) (length-map v.items sets_held) some

-- a text that spells a certificate with a complete tree has no gap
pub never_open : (p : Problem) (text : List ℕ) (budget : ℕ) (c : Certificate) (gap : Gap) (line : ℕ) → IsSpelling text c → IsComplete c.tree p c.round (empty_state p)
    → IsListing p text budget (Open gap line) → ⊥
never_open p text budget c gap line spelling complete h =
    let same : h.0 ≡ c = one_value text h.0 c h.1.spelling spelling in
    let at = subst (λ (d : Certificate). IsFirstGap d.tree p d.round (empty_state p) (first_gap_line d.round) gap line) same h.2 in
    tree_none p c.round c.tree (empty_state p) (first_gap_line c.round) gap line complete at
