-- Where a search stands: closed groups, the other counties, and how large a group each of these asks for. States are
-- the project's own. A search for the most small groups keeps that closed groups are lawful and small.
use Rattle.std.specs.Prelude.{ℕ, ◌+◌, ◌≡◌, ◌≤◌, Bool, false, cond, nat_le, ◌&&◌, List, [], ◌∷◌, ◌++◌, length, ◌==◌}
use Rattle.std.specs.Prelude.{All, ◌⊎◌, ⊤}
use Rattle.grouping_laws.specs.Sets.{indicator, count_in, contains}
use Rattle.grouping_laws.specs.Problem.{Problem, LawfulGroup}
use Rattle.certificate_data.specs.declared.format.Format.{Format}
use Rattle.certificate_data.specs.declared.format.Format.TheVariants.{Plain, Wide}
use Rattle.certificate_data.specs.Round.{Round}
use Rattle.certificate_laws.specs.Regions.{without}

-- groups that are closed, the rest of the counties, and for each of the rest the least size of a group that it may lie
-- in
pub record State : Type 0 where
  pub closed : List (List ℕ)
  pub rest : ℕ → Bool
  pub least : ℕ → ℕ

-- the counties open to a group of i: those of the rest that may lie in a group of i counties
abbrev pub open_to : State → ℕ → ℕ → Bool
open_to s i c = s.rest c && nat_le (s.least c) i

-- all counties in the rest, each in a group of any size
abbrev pub empty_state : Problem → State
empty_state p = record { closed = []; rest = contains p.counties; least = λ c. 0 }

-- the state in which one more group is closed; nothing is asked for its counties any more
abbrev pub close : List ℕ → State → State
close g s =
    record { closed = s.closed ++ g ∷ []; rest = without g s.rest; least = λ c. cond (contains g c) 0 (s.least c) }

-- the state in which the county is raised past j: it lies in a group of more than j counties
abbrev pub raise : ℕ → ℕ → State → State
raise county j s = record { closed = s.closed; rest = s.rest; least = λ c. cond (c == county) (j + 1) (s.least c) }

-- the least sizes that there are: in a plain round 0 and one more than the limit, in a wide one all
abbrev pub IsLeastSize : Format → ℕ → ℕ → Type 0
IsLeastSize Plain limit n = (n ≡ 0) ⊎ (n ≡ limit + 1)
IsLeastSize Wide limit n = ⊤

-- lawful groups of at most the limit and the rest make up the counties, each county once, and only the rest asks for
-- sizes
pub record IsState (p : Problem) (round : Round) (s : State) : Type 0 where
  pub once : (c : ℕ) → count_in c s.closed + indicator (s.rest c) ≡ indicator (contains p.counties c)
  pub lawful : All (LawfulGroup p) s.closed
  pub small : All (λ g. length g ≤ round.limit) s.closed
  pub sizes : (c : ℕ) → IsLeastSize round.format round.limit (s.least c)
  pub settled : (c : ℕ) → s.rest c ≡ false → s.least c ≡ 0
