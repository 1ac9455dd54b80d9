-- What the groups of a grouping are together.
use Rattle.std.proofs.Common.{◌≡◌, ℕ, ◌≤◌, Bool, true, false, List, [], ◌∷◌, length, refl, arith}
use Rattle.grouping_laws.specs.Sets.{indicator, sum_by, count, count_in, contains}
use Rattle.grouping_laws.specs.Problem.{Problem, Suits, people_of, IsProblem}
use Rattle.grouping_laws.specs.Grouping.{sets_of}
use Rattle.grouping_laws.specs.Totals.{WindowsAddUp, SizesAddUp, GroupsFit}
use Rattle.place_sets.proofs.Sums.{total_within, total_ones, often_none, often_some}
use Rattle.grouping_laws.proofs.Elements.{has_all}
use Rattle.grouping_laws.proofs.Sizes.{same_sizes}
use Rattle.grouping_laws.proofs.Windows.{suits_sum}
use Rattle.grouping_laws.proofs.Digits.{often_member}

-- sets that have each county of the problem once have as many counties together
pub sizes : (p : Problem) → IsProblem p → (sets : List (List ℕ)) → ((c : ℕ) → count_in c sets ≡ indicator (contains p.counties c)) → sum_by length sets ≡ length p.counties
sizes p is sets once =
    let same : (c : ℕ) → count_in c sets ≡ count_in c (p.counties ∷ []) = λ c. omega (arith, once c, often_member p.counties c (is.once c)) in
    omega (arith, same_sizes sets (p.counties ∷ []) same)

-- listed codes, each once, are no more than those of the list
pub few_codes : (listed codes : List ℕ) → ((c : ℕ) → count c codes ≤ 1) → ((c : ℕ) → contains codes c ≡ true → contains listed c ≡ true) → length codes ≤ length listed
few_codes listed codes once known = omega (arith, total_within (λ x. 1) codes listed within, total_ones codes, total_ones listed)
  where
    within : (c : ℕ) → count c codes ≤ count c listed
    within c = go (contains codes c) refl
      where
        go : (b : Bool) → contains codes c ≡ b → count c codes ≤ count c listed
        go true e = omega (arith, once c, often_some c listed (known c e))
        go false e = omega (arith, often_none c codes e)

pub windows_add_up : WindowsAddUp
windows_add_up p m ms h = suits_sum p m ms (has_all (λ g. Suits p (people_of p g.codes) g.seats) (m ∷ ms) h)

pub sizes_add_up : SizesAddUp
sizes_add_up p is g lawful = sizes p is (sets_of g) lawful.once

pub groups_fit : GroupsFit
groups_fit p g lawful = few_codes p.counties g lawful.once lawful.listed
