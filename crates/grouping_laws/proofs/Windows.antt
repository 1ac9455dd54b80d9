-- The windows of groups add up.
use Rattle.std.proofs.Common.{ℕ, ◌+◌, ◌-◌, ◌*◌, ◌≤◌, [], ◌∷◌, refl, arith, inl, inr}
use Rattle.grouping_laws.specs.Sets.{sum_by}
use Rattle.grouping_laws.specs.Problem.{Problem, Suits, people_of}
use Rattle.county_codes.specs.declared.group.Group.{Group}
use Rattle.grouping_laws.specs.Grouping.{Grouping, seats_of}
use Rattle.grouping_laws.proofs.Elements.{Has}

enough_sum : (low middle all : ℕ) (people seats : Group → ℕ) (ms : Grouping) → ((m : Group) → Has ms m → low * seats m * all ≤ middle * people m) → low * sum_by seats ms * all ≤ middle * sum_by people ms
enough_sum low middle all people seats [] h = omega arith
enough_sum low middle all people seats (m ∷ ms) h = omega (arith, h m (inl refl), enough_sum low middle all people seats ms (λ x i. h x (inr i)))

within_sum : (high middle all : ℕ) (people seats : Group → ℕ) (ms : Grouping) → ((m : Group) → Has ms m → middle * people m ≤ high * seats m * all) → middle * sum_by people ms ≤ high * sum_by seats ms * all
within_sum high middle all people seats [] h = omega arith
within_sum high middle all people seats (m ∷ ms) h = omega (arith, h m (inl refl), within_sum high middle all people seats ms (λ x i. h x (inr i)))

-- The windows of groups add up: their people together suit the sum of their seats.
pub suits_sum : (p : Problem) (m : Group) (ms : Grouping) → ((x : Group) → Has (m ∷ ms) x → Suits p (people_of p x.codes) x.seats) → Suits p (sum_by (λ x. people_of p x.codes) (m ∷ ms)) (seats_of (m ∷ ms))
suits_sum p m ms h = record {
  some_seat = omega (arith, (h m (inl refl)).some_seat);
  enough = enough_sum (p.denominator - p.numerator) (p.denominator * p.chamber) p.total_people (λ x. people_of p x.codes) (λ x. x.seats) (m ∷ ms) (λ x i. (h x i).enough);
  not_more = within_sum (p.denominator + p.numerator) (p.denominator * p.chamber) p.total_people (λ x. people_of p x.codes) (λ x. x.seats) (m ∷ ms) (λ x i. (h x i).not_more);
}
