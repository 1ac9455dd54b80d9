-- What a solver answers.
use Rattle.std.specs.Prelude.{ℕ, ◌≡◌, ◌≤◌, ◌<◌, List, length, All, AllPairs, Option, Some, None, IfSome, ◌⊎◌, ⊤}
use Rattle.std.specs.List.Sorted.{IsStrictlyIncreasing}
use Rattle.grouping_laws.specs.Problem.{Problem}
use Rattle.grouping_laws.specs.Grouping.{Grouping, Lawful, sets_of, IsBest, IsImpossible}
use Rattle.grouping_laws.specs.GroupsFrom.{IsLesser}
use Rattle.county_codes.specs.declared.group.Grouping.{Grouping as GroupingHeld}
use Rattle.certificate_data.specs.declared.format.Format.{Format}
use Rattle.certificate_data.specs.declared.format.Format.TheVariants.{Plain, Wide}
use Rattle.certificate_laws.specs.State.{empty_state}
use Rattle.certificate_laws.specs.Certificate.{IsCertificate}
use Rattle.list_laws.specs.Completeness.{IsComplete}
use Rattle.certificate_data.specs.declared.certificate.Certificate.{Certificate as CertificateHeld}
use Rattle.certificate_data.specs.TreeValue.{certificate_of}
use Rattle.certificate_text.specs.Spelling.{IsSpelling}
use Rattle.partial_trees.specs.declared.tree.PartialTree.{PartialTree}
use Rattle.partial_trees.specs.PartialValue.{partial_of}
use Rattle.branch_bound.specs.Resuming.{IsBestPart}
use Rattle.branch_bound.specs.declared.answer.Answer.{Answer}
use Rattle.branch_bound.specs.declared.answer.Answer.TheVariants.{Best, Impossible, Open}

-- the grouping that is named is lawful, and no lawful one is greater
abbrev pub SolveIsRight : Problem → Answer → Type 0
SolveIsRight p (Best g c) = IsBest p g.groups.items
SolveIsRight p _ = ⊤

-- a certificate of the problem in the format, whose target is this one, and which a text spells
pub record Certifies (p : Problem) (format : Format) (target : Option Grouping) (c : CertificateHeld) : Type 0 where
  pub proves : IsCertificate p (certificate_of c).round (certificate_of c).tree
  pub target_is : (certificate_of c).round.target ≡ target
  pub format_is : (certificate_of c).round.format ≡ format
  pub spelled : (text : List ℕ) × IsSpelling text (certificate_of c)

-- the groups stand by size and then by codes, and the codes of each ascend
pub record StandsInOrder (g : Grouping) : Type 0 where
  pub groups : AllPairs (λ a b. (length a < length b) ⊎ ((length a ≡ length b) × IsLesser a b)) (sets_of g)
  pub codes : All (λ m. IsStrictlyIncreasing m.codes) g

-- A lawful grouping was found, unless no step was allowed. Where a part is given, it is one of the proof that the
-- grouping is best.
abbrev pub IsFoundOpen : Problem → ℕ → Option GroupingHeld → Option PartialTree → Type 0
IsFoundOpen p limit None part = (limit ≡ 0) × (part ≡ None)
IsFoundOpen p limit (Some g) part =
    Lawful p g.groups.items × StandsInOrder g.groups.items
    × IfSome part (λ t. IsBestPart p g.groups.items (partial_of t))

-- Best, with a certificate that names the grouping; that none is lawful, with a certificate of that; or that all steps
-- that were allowed were taken. With no step it is always open.
abbrev pub IsSolveAnswer : Problem → ℕ → Answer → Type 0
IsSolveAnswer p limit (Best g c) = (1 ≤ limit) × Certifies p Wide (Some g.groups.items) c × StandsInOrder g.groups.items
IsSolveAnswer p limit (Impossible c) = (1 ≤ limit) × Certifies p Plain None c
IsSolveAnswer p limit (Open found part steps) = (steps ≡ limit) × IsFoundOpen p limit found part

-- The tree of Best's certificate is complete: its ends are the sets of all best groupings (law
-- `complete_certificates_list`).
abbrev pub HasCompleteTree : Problem → Answer → Type 0
HasCompleteTree p (Best g c) = IsComplete (certificate_of c).tree p (certificate_of c).round (empty_state p)
HasCompleteTree p _ = ⊤

-- Impossible is said exactly where no grouping is lawful, unless no step was allowed
abbrev pub SaysWhether : Problem → ℕ → Answer → Type 0
SaysWhether p limit (Impossible c) = IsImpossible p
SaysWhether p limit (Best g c) = ¬ IsImpossible p
SaysWhether p limit (Open found part steps) = 1 ≤ limit → ¬ IsImpossible p
