-- What a checker answers of a tree.
use Rattle.std.specs.Prelude.{ℕ, ◌≡◌, ◌<◌, ◌≤◌, List, length, Some, Result, Ok, Err, ◌⊎◌, ⊤}
use Rattle.grouping_laws.specs.Problem.{Problem}
use Rattle.certificate_data.specs.Round.{Round}
use Rattle.certificate_laws.specs.State.{State}
use Rattle.certificate_data.specs.Tree.{Tree}
use Rattle.certificate_laws.specs.Proving.{Proves}
use Rattle.certificate_lines.specs.declared.fault.TextFault.{TextFault}
use Rattle.certificate_text.specs.Spelling.{IsTreeSpelling}
use Rattle.certificate_text.specs.TreeFault.{lines_of_tree, HasTreeFault}
use Rattle.checker_laws.specs.Fault.{Fault}
use Rattle.checker_laws.specs.End.{faulty}
use Rattle.checker_laws.specs.Lines.{tree_lines}
use Rattle.checker_laws.specs.Trees.{TreeEnds}
use Rattle.checker_laws.specs.Cost.{TreeCosts}
use Rattle.state_judge.specs.CheckFaults.{fault_of}
use Rattle.state_judge.specs.declared.fault.CheckFault.{CheckFault}
use Rattle.state_judge.specs.declared.fault.CheckFault.TheVariants.{Text}
use Rattle.certificate_checker.specs.declared.feed.Halt.{Halt}
use Rattle.certificate_checker.specs.declared.feed.Halt.TheVariants as stop
use Rattle.std.specs.declared.alloc.AllocError.{AllocError}
use Rattle.certificate_checker.specs.declared.verdict.TreeVerdict.{TreeVerdict}
use Rattle.certificate_checker.specs.declared.verdict.TreeVerdict.TheVariants.{Proof, Fault as Refused, Budget}

-- the lines of the tree spell it, in the round's format and for as many counties as its order has
abbrev pub IsSpelledTree : Round → Tree → Type 0
IsSpelledTree round tree = IsTreeSpelling round.format (length round.order) (lines_of_tree tree) tree

-- the first fault of the tree's lines, or of the tree that they spell
abbrev pub IsTreeFault : Problem → Round → State → Tree → CheckFault → Type 0
IsTreeFault p round s tree fault =
    ((words : TextFault) × (fault ≡ Text words) × HasTreeFault round.format (length round.order) tree words)
    ⊎ (IsSpelledTree round tree
    × ((named : Fault) × (line : ℕ) × (fault_of fault ≡ Some named)
    × TreeEnds tree p round s 1 (faulty named line)))

-- a proof tree that its lines spell, the first fault, or a budget that is below the tree's cost
abbrev pub IsTreeAnswer : Problem → Round → State → Tree → ℕ → TreeVerdict → Type 0
IsTreeAnswer p round s tree budget Proof = IsSpelledTree round tree × Proves tree p round s
IsTreeAnswer p round s tree budget (Refused fault) = IsTreeFault p round s tree fault
IsTreeAnswer p round s tree budget Budget = (cost : ℕ) → TreeCosts tree p round s cost → budget < cost

-- A tree is answered with Proof only where its lines are no more than the budget.
abbrev pub IsTreeWithinBudget : Tree → ℕ → TreeVerdict → Type 0
IsTreeWithinBudget tree budget Proof = tree_lines tree ≤ budget
IsTreeWithinBudget tree budget (Refused fault) = ⊤
IsTreeWithinBudget tree budget Budget = ⊤

-- the answer of the tree, where its lines are within the budget
abbrev pub IsBudgetedTreeAnswer : Problem → Round → State → Tree → ℕ → TreeVerdict → Type 0
IsBudgetedTreeAnswer p round s tree budget verdict =
    IsTreeAnswer p round s tree budget verdict × IsTreeWithinBudget tree budget verdict

-- Only a proof tree is answered with Proof, and only what is none, or has no text, with a fault.
abbrev pub IsRightOfTrees : Problem → Round → State → Tree → TreeVerdict → Type 0
IsRightOfTrees p round s tree Proof = Proves tree p round s
IsRightOfTrees p round s tree (Refused fault) =
    (text : List ℕ) → IsTreeSpelling round.format (length round.order) text tree → ¬ Proves tree p round s
IsRightOfTrees p round s tree Budget = ⊤

-- what is said where the judging of lines without a fault ended so
abbrev pub IsSaid : Result (Unit {0}) Halt → Result TreeVerdict AllocError → Type 0
IsSaid (Ok done) said = said ≡ Ok Proof
IsSaid (Err (stop.Fault fault line)) said = said ≡ Ok (Refused fault)
IsSaid (Err stop.Budget) said = said ≡ Ok Budget
IsSaid (Err stop.Refused) (Ok said) = ⊥
IsSaid (Err stop.Unspelled) (Ok said) = ⊥
IsSaid (Err (stop.Text fault)) (Ok said) = ⊥
IsSaid judged (Err e) = ⊤
