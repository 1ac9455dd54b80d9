-- Certificates, and what they show: that the target is best, or that no grouping is lawful. `Grouping` says what is
-- lawful (*Stephenson v. Bartlett*) and best. The certificates are the project's own.
use Rattle.std.specs.Prelude.{ℕ, ◌≤◌, length, All, Option, Some, None, ⊤}
use Rattle.grouping_laws.specs.Problem.{Problem}
use Rattle.grouping_laws.specs.Grouping.{Grouping, Lawful, counts, sets_of, IsGreater, IsBest, IsImpossible}
use Rattle.grouping_laws.specs.GroupsFrom.{IsOrder}
use Rattle.grouping_laws.specs.Tolerance.{HasTolerance}
use Rattle.certificate_data.specs.Round.{Round}
use Rattle.certificate_laws.specs.State.{State, IsState, empty_state}
use Rattle.certificate_laws.specs.Agreement.{Agrees}
use Rattle.certificate_data.specs.Tree.{Tree}
use Rattle.certificate_laws.specs.Proving.{Proves}

-- counts greater than the target's; without a target, any counts
abbrev pub Beats : Option Grouping → (ℕ → ℕ) → Type 0
Beats None f = ⊤
Beats (Some t) f = IsGreater f (counts (sets_of t))

-- no group has more counties than the limit
abbrev pub HasGroupsWithin : ℕ → Grouping → Type 0
HasGroupsWithin limit g = All (λ m. length m.codes ≤ limit) g

-- the target, if there is one, is lawful with no group above the limit
abbrev pub TargetFits : Problem → ℕ → Option Grouping → Type 0
TargetFits p limit None = ⊤
TargetFits p limit (Some t) = Lawful p t × HasGroupsWithin limit t

-- the problem's allowance, an order of its counties, a target that fits, and a proof tree at the empty state
pub record IsCertificate (p : Problem) (round : Round) (tree : Tree) : Type 0 where
  pub tolerance : HasTolerance p round.tolerance
  pub order : IsOrder p round.order
  pub target : TargetFits p round.limit round.target
  pub proof : Proves tree p round (empty_state p)

-- what a certificate shows: the target is best; without a target, no grouping is lawful
abbrev pub Conclusion : Problem → Option Grouping → Type 0
Conclusion p None = IsImpossible p
Conclusion p (Some t) = IsBest p t

-- Where a proof tree exists at a state, no lawful grouping that agrees with the state is greater than the target.
abbrev pub ProofTreeExcludes : Type 0
ProofTreeExcludes =
    (p : Problem) (round : Round) (s : State) (tree : Tree)
    → IsOrder p round.order → TargetFits p round.limit round.target → IsState p round s → Proves tree p round s
    → (g : Grouping) → Lawful p g → Agrees s g → Beats round.target (counts (sets_of g)) → ⊥

-- A certificate with a target proves it best, and one without a target proves that no grouping is lawful.
abbrev pub CertificateShows : Type 0
CertificateShows = (p : Problem) (round : Round) (tree : Tree) → IsCertificate p round tree → Conclusion p round.target
