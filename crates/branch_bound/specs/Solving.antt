-- What goes from round to round of a search.
use Rattle.std.specs.Prelude.{ℕ, List, None}
use Rattle.grouping_laws.specs.Problem.{Problem}
use Rattle.grouping_laws.specs.Grouping.{Grouping, Lawful}
use Rattle.certificate_data.specs.declared.format.Format.TheVariants.{Plain}
use Rattle.certificate_text.specs.TreeItems.{HasTargetLines}
use Rattle.branch_bound.specs.Searching.{IsSorted}
use Rattle.branch_bound.specs.Answers.{Certifies}
use Rattle.branch_bound.specs.declared.outcome.First.{First}
use Rattle.branch_bound.specs.declared.outcome.First.TheVariants.{Impossible, Found}

-- a lawful grouping, sorted, which may be the target of a certificate
pub record IsTarget (p : Problem) (order : List ℕ) (g : Grouping) : Type 0 where
  pub lawful : Lawful p g
  pub sorted : IsSorted order g
  pub lines : HasTargetLines g

-- one to begin with, or a certificate that there is none
abbrev pub IsFirst : Problem → List ℕ → First → Type 0
IsFirst p order (Found g) = IsTarget p order g.groups.items
IsFirst p order (Impossible c) = Certifies p Plain None c
