-- Three counties in a row: the middle one would suit a seat alone, and strand its neighbours.
use Rattle.std.specs.Prelude.{ℕ, Bool, cond, ◌||◌, ◌&&◌, ◌==◌, List, [], ◌∷◌, Some, None}
use Rattle.grouping_laws.specs.Problem.{Problem}
use Rattle.grouping_laws.specs.Grouping.{Grouping}
use Rattle.certificate_data.specs.declared.format.Format.TheVariants.{Plain, Wide}
use Rattle.certificate_data.specs.Round.{Round}
use Rattle.certificate_data.specs.Tree.{stuck, bound, room, weigh, Tree, leaf, branch, take, no_take}

abbrev pub path : List ℕ
path = 37001 ∷ 37003 ∷ 37005 ∷ []

abbrev pub linked : ℕ → ℕ → Bool
linked x y = ((x == 37001) && (y == 37003)) || ((x == 37003) && (y == 37005))

abbrev pub stranding : Problem
stranding = record {
  counties = path;
  people = λ c. cond (c == 37003) 100 50;
  adjacent = λ x y. linked x y || linked y x;
  total_people = 200;
  chamber = 2;
  seats_left = 2;
  numerator = 1;
  denominator = 20;
}

abbrev pub together : Grouping
together = record { seats = 2; codes = path } ∷ []

-- The plain certificate: the first county is in a group of all three, or stuck.
abbrev pub plain_round : Round
plain_round = record { order = path; limit = 3; target = Some together; format = Plain; tolerance = None }

abbrev pub plain_tree : Tree
plain_tree = branch 37001 None (take path (leaf (bound (room ∷ room ∷ room ∷ []))) no_take) (leaf (stuck 37001))

-- The wide certificate: the middle county alone leaves a stuck part, so it is not alone, no group of one or two fits,
-- and there is room for one of three.
abbrev pub wide_round : Round
wide_round = record { order = path; limit = 3; target = Some together; format = Wide; tolerance = None }

abbrev pub wide_tree : Tree
wide_tree = branch 37003 (Some 1) no_take (leaf (bound (weigh 1 [] ∷ weigh 1 [] ∷ room ∷ [])))

-- Dead groups are left out, so in the wide format no group of one or two fits at the empty state either.
abbrev pub lone_leaf : Tree
lone_leaf = leaf (bound (weigh 1 [] ∷ weigh 1 [] ∷ room ∷ []))
