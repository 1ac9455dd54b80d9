-- The states at the open leaves of a partial tree, in the order of its lines, and whether a text spells it.
use Rattle.std.specs.Prelude.{ℕ, List, [], ◌∷◌, ◌++◌, All, ⊤}
use Rattle.certificate_data.specs.Round.{Round}
use Rattle.certificate_laws.specs.State.{State, close, raise}
use Rattle.certificate_laws.specs.Proving.{limit_of}
use Rattle.certificate_lines.specs.declared.item.Opening.TheVariants.{Branch}
use Rattle.certificate_lines.specs.declared.item.Item.TheVariants.{Opens}
use Rattle.certificate_lines.specs.Fitting.{IsSet}
use Rattle.certificate_text.specs.TreeItems.{FitsInTree}
use Rattle.certificate_checker.specs.TreeAnswers.{IsSpelledTree}
use Rattle.board_laws.specs.PartialTrees.{PartialTree, open_leaf, whole, begun, PartialTakes, no_begun, take_begun}
use Rattle.board_laws.specs.PartialTrees.{begun_groups}

abbrev mutual
  pub open_states : PartialTree → Round → State → List State
  open_states open_leaf round s = s ∷ []
  open_states (whole tree) round s = []
  open_states (begun county limit takes raised) round s =
      states_in takes round s ++ open_states raised round (raise county (limit_of round limit) s)

  -- at those of the takes of a branch
  pub states_in : PartialTakes → Round → State → List State
  states_in no_begun round s = []
  states_in (take_begun codes tree others) round s = open_states tree round (close codes s) ++ states_in others round s

-- each of the groups may stand on the line of a take
abbrev pub AreSets : List (List ℕ) → Type 0
AreSets groups = All IsSet groups

-- the numbers of its branches and takes are in the ranges of their lines, and a text spells each whole tree
abbrev mutual
  pub IsSpelledPart : Round → PartialTree → Type 0
  IsSpelledPart round open_leaf = ⊤
  IsSpelledPart round (whole tree) = IsSpelledTree round tree
  IsSpelledPart round (begun county limit takes raised) =
      FitsInTree round.format (Opens (Branch county limit))
      × AreSets (begun_groups takes)
      × EachIsSpelled round takes
      × IsSpelledPart round raised

  pub EachIsSpelled : Round → PartialTakes → Type 0
  EachIsSpelled round no_begun = ⊤
  EachIsSpelled round (take_begun codes tree others) =
      IsSpelledPart round tree × EachIsSpelled round others
