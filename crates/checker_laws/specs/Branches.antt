-- How the lines of a branch end: its own, those of its takes, and that of its mark.
use Rattle.std.specs.Prelude.{ℕ, ◌≡◌, ◌≢◌, true, false, List, [], ◌∷◌, Contains, Option, ◌⊎◌}
use Rattle.certificate_data.specs.Round.{Round}
use Rattle.certificate_laws.specs.State.{State, open_to}
use Rattle.certificate_laws.specs.Proving.{CanBranch, NamesLimit, limit_of}
use Rattle.checker_laws.specs.Fault.{Fault, NoLeaf, WrongCounty, MissingGroup, StrayGroup}
use Rattle.checker_laws.specs.End.{End, LineEnds}

-- no county may lie in a group of at most `limit` counties
abbrev pub NoneOpen : State → ℕ → Type 0
NoneOpen s limit = (c : ℕ) → open_to s limit c ≡ false

-- a leaf should stand here, or the branch is at a county or has a limit that it can't have
abbrev pub IsBranchFault : Round → State → ℕ → ℕ → Fault → Type 0
IsBranchFault round s county limit fault =
    ((fault ≡ NoLeaf) × NoneOpen s limit)
    ⊎ ((fault ≡ WrongCounty) × ((c : ℕ) × (open_to s limit c ≡ true)) × (¬ CanBranch round s county limit))

-- the line of a branch
abbrev pub BranchEnds : Round → State → ℕ → Option ℕ → ℕ → End → Type 0
BranchEnds round s county limit line end =
    LineEnds (NamesLimit round.format limit
    × CanBranch round s county (limit_of round limit)) (IsBranchFault round s county (limit_of round limit)) line end

-- the next group is this one
abbrev pub IsNextTake : List (List ℕ) → List ℕ → Type 0
IsNextTake [] codes = ⊥
IsNextTake (group ∷ groups) codes = group ≡ codes

-- the groups behind the next one
abbrev pub behind : List (List ℕ) → List (List ℕ)
behind [] = []
behind (group ∷ groups) = groups

-- where these groups are still to be taken, a later one is taken, or none of them
abbrev pub IsTakeFault : List (List ℕ) → List ℕ → Fault → Type 0
IsTakeFault groups codes fault =
    ((fault ≡ MissingGroup) × Contains groups codes × (¬ IsNextTake groups codes))
    ⊎ ((fault ≡ StrayGroup) × (¬ Contains groups codes))

-- the line of a take, where these groups are still to be taken
abbrev pub TakeEnds : List (List ℕ) → List ℕ → ℕ → End → Type 0
TakeEnds groups codes line end = LineEnds (IsNextTake groups codes) (IsTakeFault groups codes) line end

-- groups are left at the mark
abbrev pub IsMarkFault : List (List ℕ) → Fault → Type 0
IsMarkFault groups fault = (fault ≡ MissingGroup) × (groups ≢ [])

-- the line of the mark, where these groups are still to be taken
abbrev pub MarkEnds : List (List ℕ) → ℕ → End → Type 0
MarkEnds groups line end = LineEnds (groups ≡ []) (IsMarkFault groups) line end
