-- How leaves end.
use Rattle.std.specs.Prelude.{ℕ, ◌+◌, ◌*◌, ◌≡◌, ◌≤◌, ◌<◌, true, false, List, [], ◌∷◌, length, Contains, Option, Some}
use Rattle.std.specs.Prelude.{None, ⊤, ◌⊎◌}
use Rattle.grouping_laws.specs.Sets.{sum_by, contains}
use Rattle.grouping_laws.specs.Problem.{Problem}
use Rattle.grouping_laws.specs.Grouping.{Grouping, counts, sets_of}
use Rattle.certificate_data.specs.declared.format.Format.{Format}
use Rattle.certificate_data.specs.Round.{Round}
use Rattle.certificate_laws.specs.State.{State}
use Rattle.certificate_laws.specs.Fitting.{Fits}
use Rattle.certificate_data.specs.Tree.{Weight, Allowance, room, weigh, Leaf, bound, stuck, seats}
use Rattle.certificate_laws.specs.BoundLines.{weight_of, allowance, IsFair, Bounds}
use Rattle.certificate_laws.specs.Leaves.{IsStuck, IsOffSeats}
use Rattle.checker_laws.specs.Fault.{Fault, WrongCounty, LightGroup, BoundOver, BoundLength, NotStuck, SeatsOpen}
use Rattle.checker_laws.specs.Fault.{BoundWithoutTarget}
use Rattle.checker_laws.specs.End.{End, fine, faulty, LineEnds, LinesEnd, Then}

-- Stuck: the county is one of the rest, and the part around it is stuck.
abbrev pub IsStuckFault : Problem → State → ℕ → Fault → Type 0
IsStuckFault p s county fault =
    ((fault ≡ WrongCounty) × (s.rest county ≡ false))
    ⊎ ((fault ≡ NotStuck) × (s.rest county ≡ true) × (¬ IsStuck p s county))

-- Seats: any leaf that is not valid.
abbrev pub IsSeatsFault : Problem → State → Fault → Type 0
IsSeatsFault p s fault = (fault ≡ SeatsOpen) × (¬ IsOffSeats p s)

-- some weight is that of no county of the problem
abbrev pub NamesForeign : Problem → Allowance → Type 0
NamesForeign p room = ⊥
NamesForeign p (weigh quota weights) = (w : Weight) × Contains weights w × (contains p.counties w.county ≡ false)

-- the weights are those of counties, and a group of i counties that fits weighs less than the quota
abbrev pub HasLightGroup : Format → Problem → State → ℕ → Allowance → Type 0
HasLightGroup format p s i room = ⊥
HasLightGroup format p s i (weigh quota weights) =
    ((w : Weight) → Contains weights w → contains p.counties w.county ≡ true)
    × ((g : List ℕ) × Fits format p s g × (length g ≡ i) × (sum_by (weight_of weights) g < quota))

-- how many groups of i counties there may be in all
abbrev pub allowed : Problem → State → ℕ → ℕ → Allowance → ℕ
allowed p s i used line = counts s.closed i + allowance p s i used line

-- The line for size `i`, where smaller groups use up `used` counties: it is fair, and allows no more groups than the
-- target has.
abbrev pub IsWithinTarget : Format → Problem → State → (ℕ → ℕ) → ℕ → ℕ → Allowance → Type 0
IsWithinTarget format p s wanted i used line = IsFair format p s i line × (allowed p s i used line ≤ wanted i)

-- The line for size i allows fewer groups than the target has.
abbrev pub IsLoss : Problem → State → (ℕ → ℕ) → ℕ → ℕ → Allowance → Type 0
IsLoss p s wanted i used line = allowed p s i used line < wanted i

-- The line for size i allows as many groups as the target has, so the lines behind it count.
abbrev pub IsEven : Problem → State → (ℕ → ℕ) → ℕ → ℕ → Allowance → Type 0
IsEven p s wanted i used line = allowed p s i used line ≡ wanted i

abbrev pub IsAllowanceFault : Format → Problem → State → (ℕ → ℕ) → ℕ → ℕ → Allowance → Fault → Type 0
IsAllowanceFault format p s wanted i used line fault =
    ((fault ≡ WrongCounty) × NamesForeign p line)
    ⊎ ((fault ≡ LightGroup) × HasLightGroup format p s i line)
    ⊎ ((fault ≡ BoundOver) × IsFair format p s i line × (wanted i < allowed p s i used line))

-- The lines of a bound leaf from the one for size i on, one after the other, up to the first loss: those behind it are
-- not judged.
abbrev pub AllowancesEnd : List Allowance → Format → Problem → State → (ℕ → ℕ) → ℕ → ℕ → ℕ → End → Type 0
AllowancesEnd [] format p s wanted i used n end = LinesEnd 0 ⊤ (λ fault. ⊥) n end
AllowancesEnd (line ∷ lines) format p s wanted i used n end =
    Then
    (LineEnds (IsWithinTarget format p s wanted i used line) (IsAllowanceFault format p s wanted i used line) n)
    (λ next later.
    (IsLoss p s wanted i used line × (later ≡ fine next))
    ⊎ (IsEven p s wanted i used line
    × AllowancesEnd lines format p s wanted (i + 1) (used + i * allowance p s i used line) next later))
    end

-- The lines of a bound leaf from the one for size i on, which has number n, where the line that opens the leaf has
-- number `opened`. When no line that is judged is at fault, too few lines, or lines behind a loss, are a fault of the
-- line that opens the leaf.
abbrev pub BoundedEnds : List Allowance → Problem → Round → State → (ℕ → ℕ) → ℕ → ℕ → ℕ → ℕ → End → Type 0
BoundedEnds lines p round s wanted i used opened n (fine next) =
    Bounds round.format p round.limit s wanted i used lines × (next ≡ n + length lines)
BoundedEnds lines p round s wanted i used opened n (faulty fault line) =
    AllowancesEnd lines round.format p s wanted i used n (faulty fault line)
    ⊎ ((fault ≡ BoundLength) × (line ≡ opened)
    × ((next : ℕ) × AllowancesEnd lines round.format p s wanted i used n (fine next))
    × (¬ Bounds round.format p round.limit s wanted i used lines))

-- A bound leaf: without a target there is none, and no line is for a size above the limit.
abbrev pub BoundEnds : List Allowance → Problem → Round → State → Option Grouping → ℕ → End → Type 0
BoundEnds lines p round s None opened end = end ≡ faulty BoundWithoutTarget opened
BoundEnds lines p round s (Some target) opened end =
    ((round.limit < length lines) × (end ≡ faulty BoundLength opened))
    ⊎ ((length lines ≤ round.limit) × BoundedEnds lines p round s (counts (sets_of target)) 1 0 opened (opened + 1) end)

-- a leaf at a state, from a line on
abbrev pub LeafEnds : Leaf → Problem → Round → State → ℕ → End → Type 0
LeafEnds (stuck county) p round s line end = LineEnds (IsStuck p s county) (IsStuckFault p s county) line end
LeafEnds seats p round s line end = LineEnds (IsOffSeats p s) (IsSeatsFault p s) line end
LeafEnds (bound lines) p round s line end = BoundEnds lines p round s round.target line end
