-- How many seats suit how many people.
use Rattle.std.specs.Prelude.{ℕ, ◌+◌, ◌-◌, ◌*◌, ◌/◌, ◌≤◌, ◌↔◌, Bool, ◌&&◌, Option, Some, None, max, nat_le}
use Rattle.std.specs.Prelude.{if◌then◌else◌}
use Rattle.std.specs.Int.{div_ceil}
use Rattle.grouping_laws.specs.Problem.{Problem, Suits}

-- the least and the greatest number of which P holds, P holding of each between; None exactly where it holds of none
abbrev pub IsRun : (ℕ → Type 0) → Option (ℕ × ℕ) → Type 0
IsRun P None = (k : ℕ) → ¬ P k
IsRun P (Some r) = (r.0 ≤ r.1) × ((k : ℕ) → P k ↔ ((r.0 ≤ k) × (k ≤ r.1)))

-- the least and the greatest number of seats that the people suit, as quotients, where a district has at least below /
-- whole and at most above / whole of the ideal population; 0 seats suit nobody
abbrev pub seats_between : ℕ → ℕ → ℕ → ℕ → ℕ → ℕ → Option (ℕ × ℕ)
seats_between below whole above total chamber people =
    let share = whole * chamber * people in
    let least = max (div_ceil share (above * total)) 1 in
    let greatest = share / (below * total) in
    if nat_le least greatest then Some (least, greatest) else None

-- whether the people suit some number of seats: the greatest quotient is one, and they are not too many for it
abbrev pub some_suit : ℕ → ℕ → ℕ → ℕ → ℕ → ℕ → Bool
some_suit below whole above total chamber people =
    let share = whole * chamber * people in
    let greatest = share / (below * total) in
    nat_le 1 greatest && nat_le share (greatest * (above * total))

-- the bounds of `seats` seats, in people, as quotients
abbrev pub bounds_of : ℕ → ℕ → ℕ → ℕ → ℕ → ℕ → ℕ × ℕ
bounds_of below whole above total chamber seats =
    (div_ceil (below * (seats * total)) (whole * chamber), above * (seats * total) / (whole * chamber))

-- the numbers of seats that the people suit in a problem
abbrev pub seat_run : Problem → ℕ → Option (ℕ × ℕ)
seat_run p people =
    seats_between (p.denominator - p.numerator) p.denominator (p.denominator + p.numerator) p.total_people p.chamber people

-- the bounds of `seats` seats in a problem, in people
abbrev pub people_bounds : Problem → ℕ → ℕ × ℕ
people_bounds p seats = bounds_of (p.denominator - p.numerator) p.denominator (p.denominator + p.numerator) p.total_people p.chamber seats

-- the people who suit the seats are exactly those from the least to the greatest
abbrev pub AreBounds : Problem → ℕ → ℕ × ℕ → Type 0
AreBounds p seats bounds = (people : ℕ) → Suits p people seats ↔ ((bounds.0 ≤ people) × (people ≤ bounds.1))
