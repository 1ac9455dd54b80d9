-- A certificate that was read and gone through.
use Rattle.std.proofs.Common.{◌≡◌, ℕ, ◌+◌, ◌≤◌, List, [], ◌++◌, map, length, Some, All, sym, ap, ◌∙◌, subst, arith}
use Rattle.std.specs.Ordering.{is_lt}
use Rattle.std.specs.Cmp.Lexicographic.{slice_cmp}
use Rattle.std.specs.List.Sorted.{IsPermutation, IsSortedBy}
use Rattle.std.proofs.lemmas.List.Sums.{count_by-le-length}
use Rattle.county_codes.specs.Limits.{most_counties}
use Rattle.county_codes.specs.declared.group.Grouping.{Grouping as GroupingHeld}
use Rattle.field_lines.specs.RawPieces.{is_lf}
use Rattle.county_problem.specs.CountList.{count_at}
use Rattle.grouping_laws.specs.Problem.{Problem}
use Rattle.grouping_laws.specs.Grouping.{Grouping, sets_of}
use Rattle.certificate_data.specs.RoundValue.{round_of, target_of}
use Rattle.certificate_laws.specs.State.{empty_state}
use Rattle.certificate_laws.specs.Certificate.{IsCertificate}
use Rattle.certificate_laws.proofs.Branches.{branch_keeps_state}
use Rattle.certificate_data.specs.declared.certificate.Certificate.{Certificate as CertificateHeld}
use Rattle.certificate_data.specs.TreeValue.{Certificate, certificate_of, tree_of}
use Rattle.certificate_text.specs.Spelling.{IsSpelling}
use Rattle.certificate_checker.proofs.ReadableTexts.{readable_of_fits, limit_of_fits}
use Rattle.certificate_text.proofs.OneSpelling.{one_value}
use Rattle.checker_laws.specs.Verdict as said
use Rattle.checker_laws.specs.TextVerdict.{IsTextVerdict}
use Rattle.checker_laws.proofs.TextVerdicts.{best}
use Rattle.checker_laws.proofs.Spelling.{all_lines}
use Rattle.checker_laws.specs.Lines.{tolerance_line, tree_lines, target_lines}
use Rattle.list_laws.specs.AllBest.{AreAllBest}
use Rattle.list_laws.specs.Completeness.{IsComplete}
use Rattle.list_laws.specs.Ends.{wanted, ends}
use Rattle.list_laws.specs.Listing.{HaveSets}
use Rattle.list_laws.proofs.Certified.{complete_certificate_lists}
use Rattle.list_groupings.specs.Keys.{set_order}
use Rattle.list_groupings.specs.ListOrder.{IsInOrder, AreInOrder}
use Rattle.list_groupings.specs.Gaps.{first_gap_line}
use Rattle.list_groupings.specs.Walking.{sets_held, HasAdded, IsProofAt}
use Rattle.list_groupings.specs.Answers.{SpellsTarget, IsReady}
use Rattle.list_groupings.proofs.Ordered.{still_all, now_in_order}

module _ (p : Problem) (text : List ℕ) (c : CertificateHeld) (target : GroupingHeld) (counted : List ℕ) (ready : IsReady p text c target counted) where
  pub wanted_is : (i : ℕ) → count_at counted i ≡ wanted (target_of c.round.target) i
  wanted_is i = ready.counts_are i ∙ ap (λ t. wanted t i) (sym ready.target_is)

  pub small : c.round.limit ≤ most_counties
  small = limit_of_fits (certificate_of c) ready.spells.spelling.fits

  pub begins : IsProofAt p (round_of c.round) (empty_state p) (tree_of c.tree)
  begins = record {
    state = (branch_keeps_state).first_state p (round_of c.round);
    proves = ready.spells.certificate.proof;
    readable = readable_of_fits (certificate_of c) ready.spells.spelling.fits;
  }

  pub line_is : first_gap_line (round_of c.round) ≡ tolerance_line c.round.tolerance + 4 + length target.groups.items
  line_is = ap (λ t. tolerance_line c.round.tolerance + 4 + target_lines t) ready.target_is

  pub few_lines : tolerance_line c.round.tolerance + 4 + length target.groups.items + tree_lines (tree_of c.tree) ≤ length text
  few_lines =
      let l = all_lines text (certificate_of c) ready.spells.spelling in
      omega (arith, l.0, l.1, ap target_lines ready.target_is, count_by-le-length is_lf text)

  module _ (complete : IsComplete (tree_of c.tree) p (round_of c.round) (empty_state p)) (old found : List GroupingHeld) (none : old ≡ []) (added : HasAdded p (ends (tree_of c.tree) p (round_of c.round) (empty_state p)) old found) where
    whole : found ≡ added.more
    whole = added.behind ∙ ap (λ (z : List GroupingHeld). z ++ added.more) none

    all : AreAllBest p (map sets_held found)
    all = (complete_certificate_lists).all p (round_of c.round) (tree_of c.tree) (sets_held target) ready.target_is ready.spells.certificate complete (map sets_held found)
        (subst (λ (z : List GroupingHeld). HaveSets p (map sets_held z) (ends (tree_of c.tree) p (round_of c.round) (empty_state p))) (sym whole) added.sets)

    ordered : All (λ g. IsInOrder (sets_held g)) found
    ordered = subst (λ (z : List GroupingHeld). All (λ g. IsInOrder (sets_held g)) z) (sym whole) added.in_order

    pub listed : (list : List GroupingHeld) → IsPermutation found list → IsSortedBy (λ g h. is_lt (slice_cmp set_order (sets_of g.groups.items) (sets_of h.groups.items))) list → AreAllBest p (map sets_held list) × AreInOrder (map sets_held list)
    listed list moved up = (still_all p found list moved all ordered, now_in_order p found list moved all ordered up)

-- the certificate that was read of a text whose verdict names a target
pub spells_of : (p : Problem) (text : List ℕ) (t : Grouping) (c : Certificate) → IsTextVerdict p text (said.Best t) → IsSpelling text c → SpellsTarget p text c × (c.round.target ≡ Some t)
spells_of p text t c v spelling =
    let r = best p text t v in
    let e = one_value text r.1.0 c r.1.1 spelling in
    let named : c.round.target ≡ Some t = subst (λ (z : Certificate). z.round.target ≡ Some t) e r.1.3 in
    (record { spelling = spelling; certificate = subst (λ (z : Certificate). IsCertificate p z.round z.tree) e r.1.2; target = (t, named) }, named)
