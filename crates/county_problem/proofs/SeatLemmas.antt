-- At most twice the chamber's seats suit anybody, since a district has at least half of the ideal population.
use Rattle.std.proofs.Common.{ℕ, ◌*◌, ◌/◌, ◌≤◌, arith}
use Rattle.std.proofs.Math.Nat.{div-le_of_le-mul, mul-le-mul_left, mul-le-mul_right}

pub few_suit : (whole below total chamber people : ℕ) → whole ≤ 2 * below → people ≤ total → chamber ≤ 1000 → whole * chamber * people / (below * total) ≤ 2000
few_suit whole below total chamber people half within seats =
    div-le_of_le-mul (below * total) (
    let all : whole * chamber * people ≤ whole * chamber * total = mul-le-mul_left (whole * chamber) within in
    let least : whole * (chamber * total) ≤ 2 * below * (chamber * total) = mul-le-mul_right (chamber * total) half in
    let few : 2 * below * total * chamber ≤ 2 * below * total * 1000 = mul-le-mul_left (2 * below * total) seats in
    omega (arith, all, least, few)
    )
