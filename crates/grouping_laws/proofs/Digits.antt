-- Tests as numbers.
use Rattle.std.proofs.Common.{◌≡◌, ℕ, ◌≤◌, Bool, true, false, List, refl, ap, arith}
use Rattle.grouping_laws.specs.Sets.{indicator, count, contains}
use Rattle.place_sets.proofs.Sums.{often_none, often_some}

pub digit_true : (b : Bool) → 1 ≤ indicator b → b ≡ true
digit_true true h = refl
digit_true false h = absurd (omega arith)

pub true_digit : (b : Bool) → b ≡ true → indicator b ≡ 1
true_digit b e = ap indicator e

pub false_digit : (b : Bool) → b ≡ false → indicator b ≡ 0
false_digit b e = ap indicator e

-- a code that stands at most once
-- in a list that has each code at most once, a code stands once or not at all
pub often_member : (codes : List ℕ) (c : ℕ) → count c codes ≤ 1 → count c codes ≡ indicator (contains codes c)
often_member codes c h = go (contains codes c) refl
  where
    go : (b : Bool) → contains codes c ≡ b → count c codes ≡ indicator b
    go true e = omega (arith, often_some c codes e)
    go false e = often_none c codes e
