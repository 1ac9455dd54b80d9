-- How far a walk has come in takes and in a tree.
use Rattle.grouping_laws.specs.Problem.{Problem}
use Rattle.certificate_data.specs.Round.{Round}
use Rattle.certificate_laws.specs.State.{State}
use Rattle.certificate_data.specs.Tree.{Tree, Takes}
use Rattle.checker_laws.specs.Lines.{tree_lines, takes_lines}
use Rattle.list_laws.specs.Completeness.{IsComplete, EachIsComplete}
use Rattle.list_laws.specs.Ends.{ends, ends_in}
use Rattle.list_groupings.specs.declared.walk.Found.{Found}
use Rattle.list_groupings.specs.Gaps.{IsFirstGap, IsFirstGapIn}
use Rattle.list_groupings.proofs.WalkLemmas.{Going}

abbrev pub GoesOnTakes : Problem → Round → State → (whole left : Takes) → (old now : Found) → Type 0
GoesOnTakes p round s whole left old now =
    Going p (EachIsComplete whole p round s) (EachIsComplete left p round s) (IsFirstGapIn whole p round s old.line) (IsFirstGapIn left p round s now.line) (ends_in whole p round s) (ends_in left p round s) (takes_lines whole) (takes_lines left) old now

abbrev pub GoesOnTree : Problem → Round → (s t : State) → (whole left : Tree) → (old now : Found) → Type 0
GoesOnTree p round s t whole left old now =
    Going p (IsComplete whole p round s) (IsComplete left p round t) (IsFirstGap whole p round s old.line) (IsFirstGap left p round t now.line) (ends whole p round s) (ends left p round t) (tree_lines whole) (tree_lines left) old now
