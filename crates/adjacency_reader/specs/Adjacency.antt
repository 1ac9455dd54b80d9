-- Which counties are adjacent, by the rows of a file and by links over them.
use Rattle.std.specs.Prelude.{◌≡◌, ◌≢◌, ℕ, ◌<◌, ◌&&◌, ◌↔◌, ◌⊎◌, Bool, true, false, List, Option, Some, None, Contains}
use Rattle.std.specs.List.Sorted.{IsStrictlySortedBy}
use Rattle.grouping_laws.specs.Sets.{contains}
use Rattle.county_problem.specs.ProblemValue.{names_both}
use Rattle.adjacency_reader.specs.declared.links.Sign.{Sign}
use Rattle.adjacency_reader.specs.declared.links.Sign.TheVariants.{Add, Cut}
use Rattle.adjacency_reader.specs.declared.links.Link.{Link}
use Rattle.adjacency_reader.specs.Links.{last_sign}
use Rattle.adjacency_reader.specs.Pairs.{by_codes}

-- whether two counties are joined: as the last link on them says, and as they were before where there is none
abbrev pub joined_by : Option Sign → Bool → Bool
joined_by (Some Add) before = true
joined_by (Some Cut) before = false
joined_by None before = before

-- two different listed counties are adjacent where the last link on them adds them, or where no link names them both
-- and some row does, in either order
pub record Adjacent (listed : List ℕ) (rows : List (ℕ × ℕ)) (links : List Link) (a b : ℕ) : Type 0 where
  pub apart : a ≢ b
  pub first_listed : contains listed a ≡ true
  pub second_listed : contains listed b ≡ true
  pub joined : joined_by (last_sign links a b) (names_both rows a b) ≡ true

-- the pairs after the links: the lesser code first, ascending, each once
pub record AreLinked (pairs : List (ℕ × ℕ)) (links : List Link) (linked : List (ℕ × ℕ)) : Type 0 where
  pub ascending : IsStrictlySortedBy by_codes linked
  pub each : (a b : ℕ) → Contains linked (a, b)
      ↔ ((a < b) × (joined_by (last_sign links a b) (names_both pairs a b) ≡ true))

-- two counties of which one isn't listed are added by the last link on them
abbrev pub IsStrangeLink : List ℕ → List Link → ℕ → ℕ → Type 0
IsStrangeLink listed links a b = ((contains listed a && contains listed b) ≡ false) × (last_sign links a b ≡ Some Add)

-- the pairs are those that are adjacent, and beside them those of links that name a county outside the list
abbrev pub AreAdjacent : List ℕ → List (ℕ × ℕ) → List Link → List (ℕ × ℕ) → Type 0
AreAdjacent listed rows links linked =
    (a b : ℕ) → a < b → Contains linked (a, b) ↔ (Adjacent listed rows links a b ⊎ IsStrangeLink listed links a b)
