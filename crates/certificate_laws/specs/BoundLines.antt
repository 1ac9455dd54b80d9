-- Bound lines: how many groups of each size a grouping that agrees with a state can have. Disjoint groups share the
-- counties that are open to them, and share what weights give to these. The form of the lines is the project's own.
use Rattle.std.specs.Prelude.{ℕ, ◌+◌, ◌-◌, ◌*◌, ◌/◌, ◌≡◌, ◌≤◌, ◌<◌, min, cond, true, List, [], ◌∷◌, length, ◌==◌, All}
use Rattle.std.specs.Prelude.{Some, ◌⊎◌, ⊤}
use Rattle.grouping_laws.specs.Sets.{sum_by, contains}
use Rattle.grouping_laws.specs.Problem.{Problem}
use Rattle.grouping_laws.specs.Grouping.{Grouping, counts, sets_of}
use Rattle.certificate_data.specs.declared.format.Format.{Format}
use Rattle.certificate_data.specs.Round.{Round}
use Rattle.certificate_laws.specs.Regions.{listed}
use Rattle.certificate_laws.specs.State.{State, open_to}
use Rattle.certificate_laws.specs.Fitting.{Fits}
use Rattle.certificate_data.specs.Tree.{Weight, Allowance, room, weigh}

-- what the weights give to a county
abbrev pub weight_of : List Weight → ℕ → ℕ
weight_of ws c = sum_by (λ w. cond (w.county == c) w.weight 0) ws

-- how many counties are open to a group of i, less those that smaller groups use up
abbrev pub room_at : Problem → State → ℕ → ℕ → ℕ
room_at p s i used = length (listed p (open_to s i)) - used

-- how many groups of `i` counties the line allows, where smaller groups use up `used` counties
abbrev pub allowance : Problem → State → ℕ → ℕ → Allowance → ℕ
allowance p s i used room = room_at p s i used / i
allowance p s i used (weigh quota ws) =
    min (room_at p s i used / i) (sum_by (weight_of ws) (listed p (open_to s i)) / quota)

-- the weights are those of counties of the problem, and each group of i counties that fits weighs at least the quota
abbrev pub IsFair : Format → Problem → State → ℕ → Allowance → Type 0
IsFair format p s i room = ⊤
IsFair format p s i (weigh quota ws) =
    (1 ≤ quota)
    × All (λ w. contains p.counties w.county ≡ true) ws
    × ((g : List ℕ) → Fits format p s g → length g ≡ i → quota ≤ sum_by (weight_of ws) g)

-- From size `i` on, where smaller groups use up `used` counties, closed groups and allowances give the target's counts,
-- up to a size at which they give fewer, or to the limit.
abbrev pub Bounds : Format → Problem → ℕ → State → (ℕ → ℕ) → ℕ → ℕ → List Allowance → Type 0
Bounds format p limit s wanted i used [] = i ≡ limit + 1
Bounds format p limit s wanted i used (line ∷ lines) =
    IsFair format p s i line
    × (((counts s.closed i + allowance p s i used line ≡ wanted i)
    × Bounds format p limit s wanted (i + 1) (used + i * allowance p s i used line) lines)
    ⊎ ((i ≤ limit) × (counts s.closed i + allowance p s i used line < wanted i) × (lines ≡ [])))

-- there is a target, and the lines keep below its counts or come to them
abbrev pub IsBound : Problem → Round → State → List Allowance → Type 0
IsBound p round s lines =
    (t : Grouping) × (round.target ≡ Some t) × Bounds round.format p round.limit s (counts (sets_of t)) 1 0 lines
