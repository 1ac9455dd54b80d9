-- The pairs of listed counties that rows name.
use Rattle.std.specs.Prelude.{◌≡◌, ℕ, ◌==◌, ◌&&◌, ◌||◌, Bool, ◌<◌, ◌↔◌, true, List, Contains, Result, Ok, Err, nat_lt}
use Rattle.std.specs.Prelude.{if◌then◌else◌}
use Rattle.std.specs.List.Sorted.{IsStrictlySortedBy}
use Rattle.std.specs.Ordering.{nat_cmp, ordering_then}
use Rattle.std.specs.declared.cmp.Ordering.{Ordering}
use Rattle.grouping_laws.specs.Sets.{contains}
use Rattle.county_problem.specs.ProblemValue.{names_both}
use Rattle.grouping_reader.specs.declared.fault.CodeLineFault.{CodeLineFault}
use Rattle.adjacency_reader.specs.Rows.{row_list}

-- two pairs by their first codes, and then by their second
abbrev pub by_codes : ℕ × ℕ → ℕ × ℕ → Ordering
by_codes p q = ordering_then (nat_cmp p.0 q.0) (nat_cmp p.1 q.1)

-- two codes, the lesser first
abbrev pub in_order : ℕ → ℕ → ℕ × ℕ
in_order a b = if nat_lt a b then (a, b) else (b, a)

-- whether a pair is of both codes, in either order
abbrev pub names : ℕ → ℕ → ℕ × ℕ → Bool
names x y q = (q.0 == x && q.1 == y) || (q.0 == y && q.1 == x)

-- the pairs of two listed counties that some row names in either order: the lesser code first, ascending, each once
pub record ArePairs (listed : List ℕ) (rows pairs : List (ℕ × ℕ)) : Type 0 where
  pub ascending : IsStrictlySortedBy by_codes pairs
  pub each : (a b : ℕ) → Contains pairs (a, b)
      ↔ ((a < b) × (contains listed a ≡ true) × (contains listed b ≡ true) × (names_both rows a b ≡ true))

-- the answer to an adjacency file: the pairs of its rows, or its first fault
abbrev pub IsPairsAnswer : List ℕ → List ℕ → Result (List (ℕ × ℕ)) CodeLineFault → Type 0
IsPairsAnswer text listed (Ok pairs) = (rows : List (ℕ × ℕ)) × (row_list text ≡ Ok rows) × ArePairs listed rows pairs
IsPairsAnswer text listed (Err fault) = row_list text ≡ Err fault
