-- The plain format said by itself: a county is marked where it lies in a group above the one limit. The laws say
-- that this is the plain format of the other definitions.
use Rattle.std.specs.Prelude.{ℕ, ◌+◌, ◌-◌, ◌*◌, ◌/◌, ◌≡◌, ◌≤◌, ◌<◌, min, cond, Bool, true, false, not, nat_le, ◌&&◌}
use Rattle.std.specs.Prelude.{◌||◌, List, [], ◌∷◌, ◌++◌, length, ◌==◌, All, Contains, filter, Some, None, ◌⊎◌, ◌↔◌, ⊤}
use Rattle.county_codes.specs.declared.group.Group.{Group}
use Rattle.grouping_laws.specs.Sets.{indicator, sum_by, count_in, contains, Inside, SameSet}
use Rattle.grouping_laws.specs.Problem.{Problem, Suits, people_of, LawfulGroup}
use Rattle.grouping_laws.specs.Grouping.{Grouping, Lawful, counts, sets_of}
use Rattle.grouping_laws.specs.Parts.{IsPart, AreParts}
use Rattle.std.specs.List.{AllZip}
use Rattle.grouping_laws.specs.Ranges.{IsLeast, IsMost}
use Rattle.grouping_laws.specs.GroupsFrom.{BeginsWith, AreGroupsFrom, IsSetFrom}
use Rattle.certificate_data.specs.declared.format.Format.TheVariants.{Plain, Wide}
use Rattle.certificate_data.specs.Round.{Round}
use Rattle.certificate_laws.specs.Regions.{without, listed}
use Rattle.certificate_laws.specs.State.{State, IsState, open_to, empty_state}
use Rattle.certificate_laws.specs.Agreement.{Agrees}
use Rattle.certificate_data.specs.Tree.{Allowance, room, weigh, Leaf, stuck, seats, bound, Tree, leaf, branch, Takes}
use Rattle.certificate_data.specs.Tree.{no_take, take, groups_of}
use Rattle.certificate_laws.specs.BoundLines.{weight_of}
use Rattle.certificate_laws.specs.Leaves.{IsValidLeaf}
use Rattle.certificate_laws.specs.Proving.{Proves}
use Rattle.certificate_laws.specs.Groups.{AreGroupsAt, IsSetAt}

-- closed groups, marked counties, which are to lie in a group above the limit, and the rest
pub record MarkedState : Type 0 where
  pub closed : List (List ℕ)
  pub marked : ℕ → Bool
  pub rest : ℕ → Bool

-- lawful groups of at most the limit, marked counties and the rest make up the counties, each county once
pub record IsMarkedState (p : Problem) (limit : ℕ) (s : MarkedState) : Type 0 where
  pub once : (c : ℕ)
      → count_in c s.closed + indicator (s.marked c) + indicator (s.rest c) ≡ indicator (contains p.counties c)
  pub lawful : All (LawfulGroup p) s.closed
  pub small : All (λ g. length g ≤ limit) s.closed

-- all counties in the rest
abbrev pub none_marked : Problem → MarkedState
none_marked p = record { closed = []; marked = λ c. false; rest = contains p.counties }

-- one more group is closed
abbrev pub close_group : List ℕ → MarkedState → MarkedState
close_group g s = record { closed = s.closed ++ g ∷ []; marked = s.marked; rest = without g s.rest }

-- one more county is marked
abbrev pub mark : ℕ → MarkedState → MarkedState
mark c s = record { closed = s.closed; marked = λ x. s.marked x || (x == c); rest = λ x. s.rest x && not (x == c) }

-- the counties of no closed group
abbrev pub unsettled : MarkedState → ℕ → Bool
unsettled s c = s.marked c || s.rest c

-- each closed group is a set of the grouping, and each marked county lies in a set above the limit
pub record AgreesAbove (limit : ℕ) (s : MarkedState) (g : Grouping) : Type 0 where
  pub closed : All (λ k. (m : Group) × Contains g m × SameSet m.codes k) s.closed
  pub marked : (c : ℕ) → s.marked c ≡ true
      → (m : Group) × Contains g m × (contains m.codes c ≡ true) × (limit < length m.codes)

-- The connected part around the county suits no number of seats, or holds a marked county and has at most as many
-- counties as the limit.
pub record IsMarkedStuck (p : Problem) (limit : ℕ) (s : MarkedState) (county : ℕ) : Type 0 where
  pub part : List ℕ
  pub is_part : IsPart p (unsettled s) part
  pub around : contains part county ≡ true
  pub wrong : ((k : ℕ) → ¬ Suits p (people_of p part) k)
      ⊎ ((c : ℕ) × (contains part c ≡ true) × (s.marked c ≡ true) × (length part ≤ limit))

-- Each connected part suits some number of seats, and the least numbers over closed groups and parts add up to more
-- than the seats left, or the greatest to less.
pub record IsMarkedOff (p : Problem) (s : MarkedState) : Type 0 where
  pub parts : List (List ℕ)
  pub are_parts : AreParts p (unsettled s) parts
  pub ranges : List ℕ
  pub off : (AllZip (IsLeast p) (s.closed ++ parts) ranges × (p.seats_left < sum_by (λ k. k) ranges))
      ⊎ (AllZip (IsMost p) (s.closed ++ parts) ranges × (sum_by (λ k. k) ranges < p.seats_left))

-- how many groups of `i` counties the line allows inside the rest, where there is room for `left` counties
abbrev pub rest_allowance : Problem → MarkedState → ℕ → ℕ → Allowance → ℕ
rest_allowance p s i left room = left / i
rest_allowance p s i left (weigh quota ws) = min (left / i) (sum_by (weight_of ws) (listed p s.rest) / quota)

-- each lawful group of i counties inside the rest weighs at least the quota
abbrev pub IsRestFair : Problem → MarkedState → ℕ → Allowance → Type 0
IsRestFair p s i room = ⊤
IsRestFair p s i (weigh quota ws) =
    (1 ≤ quota)
    × All (λ w. contains p.counties w.county ≡ true) ws
    × ((g : List ℕ) → LawfulGroup p g → length g ≡ i → Inside s.rest g → quota ≤ sum_by (weight_of ws) g)

-- from size `i` on, where there is room for `left` counties
abbrev pub RestBounds : Problem → ℕ → MarkedState → (ℕ → ℕ) → ℕ → ℕ → List Allowance → Type 0
RestBounds p limit s wanted i left [] = i ≡ limit + 1
RestBounds p limit s wanted i left (line ∷ lines) =
    IsRestFair p s i line
    × (((counts s.closed i + rest_allowance p s i left line ≡ wanted i)
    × RestBounds p limit s wanted (i + 1) (left - i * rest_allowance p s i left line) lines)
    ⊎ ((i ≤ limit) × (counts s.closed i + rest_allowance p s i left line < wanted i) × (lines ≡ [])))

-- the leaf is valid at the marked state
abbrev pub IsMarkedLeaf : Problem → Round → MarkedState → Leaf → Type 0
IsMarkedLeaf p round s (stuck county) = IsMarkedStuck p round.limit s county
IsMarkedLeaf p round s seats = IsMarkedOff p s
IsMarkedLeaf p round s (bound lines) =
    (t : Grouping) × (round.target ≡ Some t)
    × RestBounds p round.limit s (counts (sets_of t)) 1 (length (listed p s.rest)) lines

-- a tree whose branches are at the first place of the rest, with the groups from that place inside the rest
abbrev mutual
  pub MarkedProves : Tree → Problem → Round → MarkedState → Type 0
  MarkedProves (leaf l) p round s = IsMarkedLeaf p round s l
  MarkedProves (branch county limit takes raised) p round s =
      (limit ≡ None)
      × BeginsWith county (filter s.rest round.order)
      × AreGroupsFrom p round.order round.limit county s.rest (groups_of takes)
      × EachMarkedProves takes p round s
      × MarkedProves raised p round (mark county s)

  pub EachMarkedProves : Takes → Problem → Round → MarkedState → Type 0
  EachMarkedProves no_take p round s = ⊤
  EachMarkedProves (take codes tree others) p round s =
      MarkedProves tree p round (close_group codes s) × EachMarkedProves others p round s

-- a marked state as a state: a marked county asks for one more than the limit
abbrev pub as_state : ℕ → MarkedState → State
as_state limit s = record { closed = s.closed; rest = unsettled s; least = λ c. cond (s.marked c) (limit + 1) 0 }

-- a state as a marked state: the counties of the rest that ask for more than the limit are marked
abbrev pub as_marked : ℕ → State → MarkedState
as_marked limit s =
    record { closed = s.closed; marked = λ c. s.rest c && not (nat_le (s.least c) limit); rest = open_to s limit }

-- In a plain round the plain format by marks and the general one say the same, word for word.
pub record PlainIsMarked : Type 0 where
  -- the states are the same
  pub states : (p : Problem) (round : Round) (s : MarkedState) → round.format ≡ Plain → IsMarkedState p round.limit s
      → IsState p round (as_state round.limit s)
  pub back : (p : Problem) (round : Round) (s : State) → round.format ≡ Plain → IsState p round s
      → IsMarkedState p round.limit (as_marked round.limit s) × (as_state round.limit (as_marked round.limit s) ≡ s)
  pub empty : (p : Problem) (limit : ℕ) → as_state limit (none_marked p) ≡ empty_state p
  -- the counties that may lie in a group of any size through the limit are the rest
  pub regions : (p : Problem) (limit : ℕ) (s : MarkedState) → IsMarkedState p limit s → (i : ℕ) → i ≤ limit
      → open_to (as_state limit s) i ≡ s.rest
  -- the lawful groupings that agree are the same
  pub groupings : (p : Problem) (limit : ℕ) (s : MarkedState) (g : Grouping) → IsMarkedState p limit s → Lawful p g
      → AgreesAbove limit s g ↔ Agrees (as_state limit s) g
  -- the groups of a branch are those from the first place of the rest, inside the rest
  pub takes : (p : Problem) (round : Round) (s : State) (c : ℕ) (groups : List (List ℕ)) → round.format ≡ Plain
      → IsState p round s → BeginsWith c (filter (open_to s round.limit) round.order)
      → AreGroupsAt p round s c round.limit groups
      ↔ AreGroupsFrom p round.order round.limit c (open_to s round.limit) groups
  -- the groups of a branch are looked for among sets that begin with the first place of the rest
  pub sets : (p : Problem) (order : List ℕ) (s : State) (c limit : ℕ) (g : List ℕ)
      → BeginsWith c (filter (open_to s limit) order) → IsSetAt p order s c limit g → IsSetFrom p order limit c g
  -- the valid leaves and the proof trees are the same
  pub leaves : (p : Problem) (round : Round) (s : MarkedState) (l : Leaf) → round.format ≡ Plain
      → IsMarkedState p round.limit s → IsMarkedLeaf p round s l ↔ IsValidLeaf p round (as_state round.limit s) l
  pub trees : (p : Problem) (round : Round) (s : MarkedState) (tree : Tree) → round.format ≡ Plain
      → IsMarkedState p round.limit s → MarkedProves tree p round s ↔ Proves tree p round (as_state round.limit s)
  -- a leaf that is valid in a plain round is valid in the wide one, where fewer groups fit
  pub widens : (p : Problem) (round : Round) (s : State) (l : Leaf) → round.format ≡ Plain → IsValidLeaf p round s l
      → IsValidLeaf p (record round { format = Wide }) s l
