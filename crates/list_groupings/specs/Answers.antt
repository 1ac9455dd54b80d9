-- What is answered of a text that should list all best groupings.
use Rattle.std.specs.Prelude.{ℕ, ◌+◌, ◌≡◌, ◌≤◌, List, map, Some, ⊤}
use Rattle.grouping_laws.specs.Problem.{Problem}
use Rattle.county_codes.specs.declared.group.Grouping.{Grouping as GroupingHeld}
use Rattle.county_problem.specs.CountList.{count_at}
use Rattle.grouping_laws.specs.Grouping.{Grouping, counts, sets_of}
use Rattle.certificate_data.specs.RoundValue.{target_of}
use Rattle.certificate_laws.specs.State.{empty_state}
use Rattle.certificate_laws.specs.Certificate.{IsCertificate}
use Rattle.certificate_data.specs.declared.certificate.Certificate.{Certificate as CertificateHeld}
use Rattle.certificate_data.specs.TreeValue.{Certificate, certificate_of}
use Rattle.certificate_text.specs.Spelling.{IsSpelling}
use Rattle.certificate_checker.specs.Answers.{IsCheckAnswer}
use Rattle.certificate_checker.specs.declared.verdict.Verdict.TheVariants as verdict
use Rattle.list_laws.specs.AllBest.{AreAllBest}
use Rattle.list_laws.specs.Completeness.{IsComplete}
use Rattle.list_groupings.specs.declared.listing.Listing.{Listing}
use Rattle.list_groupings.specs.declared.listing.Listing.TheVariants.{All, Open, Impossible, No, Budget}
use Rattle.list_groupings.specs.Gaps.{IsFirstGap, first_gap_line}
use Rattle.list_groupings.specs.ListOrder.{AreInOrder}
use Rattle.list_groupings.specs.Walking.{sets_held}

-- the text spells this certificate of the problem, which has a target
pub record SpellsTarget (p : Problem) (text : List ℕ) (c : Certificate) : Type 0 where
  pub spelling : IsSpelling text c
  pub certificate : IsCertificate p c.round c.tree
  pub target : (t : Grouping) × (c.round.target ≡ Some t)

-- the certificate that was read, with its target and the target's counts
pub record IsReady (p : Problem) (text : List ℕ) (c : CertificateHeld) (target : GroupingHeld)
    (wanted : List ℕ) : Type 0 where
  pub spells : SpellsTarget p text (certificate_of c)
  pub target_is : target_of c.round.target ≡ Some (sets_held target)
  pub counts_are : (i : ℕ) → count_at wanted i ≡ counts (sets_of (sets_held target)) i

-- All comes of a certificate with a target and a complete tree, Open of one with a target whose tree has its first gap
-- there. Any other answer is that of the checker.
abbrev pub IsListing : Problem → List ℕ → ℕ → Listing → Type 0
IsListing p text budget (All list) =
    (c : Certificate) × SpellsTarget p text c × IsComplete c.tree p c.round (empty_state p)
IsListing p text budget (Open gap line) =
    (c : Certificate) × SpellsTarget p text c
    × IsFirstGap c.tree p c.round (empty_state p) (first_gap_line c.round) gap line
IsListing p text budget Impossible = IsCheckAnswer p text budget verdict.Impossible
IsListing p text budget (No fault line) = IsCheckAnswer p text budget (verdict.No fault line)
IsListing p text budget Budget = IsCheckAnswer p text budget verdict.Budget

-- An answer other than Budget comes only where the lines in front, with one more for the end or for the line at fault,
-- are no more than the budget.
abbrev pub IsListedWithin : ℕ → ℕ → Listing → Type 0
IsListedWithin lines budget (All list) = lines + 1 ≤ budget
IsListedWithin lines budget (Open gap line) = lines + 1 ≤ budget
IsListedWithin lines budget Impossible = lines + 1 ≤ budget
IsListedWithin lines budget (No fault line) = lines + 1 ≤ budget
IsListedWithin lines budget Budget = ⊤

-- the groupings are all best groupings, in order
abbrev pub ListsAllBest : Problem → Listing → Type 0
ListsAllBest p (All list) = AreAllBest p (map sets_held list.items) × AreInOrder (map sets_held list.items)
ListsAllBest p _ = ⊤
