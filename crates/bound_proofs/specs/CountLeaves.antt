-- Lists of the groups of each size that fit a state, by places, and the bound leaves of count lines that the lists
-- give.
use Rattle.std.specs.Prelude.{ℕ, ◌+◌, ◌≡◌, ◌≤◌, Bool, ◌&&◌, List, [], ◌∷◌, map, length, ⊤}
use Rattle.grouping_laws.specs.Sets.{contains}
use Rattle.grouping_laws.specs.Problem.{Problem}
use Rattle.grouping_laws.specs.GroupsFrom.{place}
use Rattle.connected_laws.specs.Listing.{AreBelow}
use Rattle.certificate_data.specs.Round.{Round}
use Rattle.certificate_laws.specs.State.{State}
use Rattle.certificate_data.specs.Tree.{Allowance}
use Rattle.certificate_laws.specs.Groups.{AreGroupsOf}
use Rattle.certificate_laws.specs.BoundLines.{Bounds}
use Rattle.certificate_laws.specs.Search.{AreCountLines}
use Rattle.state_groups.specs.declared.state.State.{State as StateHeld}
use Rattle.state_groups.specs.PlacedValues.{codes_of_sets, IsPlaced}
use Rattle.search_groups.specs.declared.input.SearchInput.{SearchInput}
use Rattle.search_groups.specs.Positions.{search_problem, search_round, search_state}

-- whether a set of places has the county's
abbrev pub has_county : {C : Type 0} → List ℕ → (C → ℕ → Bool) → C → ℕ → Bool
has_county order test set c = contains order c && test set (place order c)

-- the groups of i counties that fit, each as a set of places of the order
pub record IsListOf {C : Type 0} (test : C → ℕ → Bool) (order : List ℕ) (p : Problem) (round : Round) (s : State)
    (i : ℕ) (sets : List C) : Type 0 where
  pub groups : AreGroupsOf p round s i (codes_of_sets order test sets)
  pub below : AreBelow (length order) test sets

-- for the sizes i, i + 1 and so on, the groups of each size that fit, as sets of places of the order
abbrev pub AreListsFrom : {C : Type 0} → (C → ℕ → Bool) → List ℕ → Problem → Round → State → ℕ → List (List C) → Type 0
AreListsFrom test order p round s i [] = ⊤
AreListsFrom test order p round s i (sets ∷ lists) =
    IsListOf test order p round s i sets × AreListsFrom test order p round s (i + 1) lists

-- the sets have room for the places of the order, which is the round's, and the state is by these places
pub record IsPlacedIn {C : Type 0} (places : ℕ) (test : C → ℕ → Bool) (g : SearchInput C) (s : StateHeld C) : Type 0 where
  pub fits : length g.graph.now.ordered.now.order ≤ places
  pub order : g.graph.now.ordered.now.order ≡ g.round.now.order
  pub placed : IsPlaced (length g.graph.now.ordered.now.order) test s

-- for the sizes from 1 on, at most the limit, the lists that `f` gives are of the groups of each size that fit the
-- state
pub record AreListsIn {C V : Type 0} (places : ℕ) (test : C → ℕ → Bool) (g : SearchInput C) (s : StateHeld C)
    (f : V → List C) (lists : List V) : Type 0 where
  pub at : IsPlacedIn places test g s
  pub few : length lists ≤ g.round.now.limit
  pub each : AreListsFrom test g.graph.now.ordered.now.order (search_problem g) (search_round g) (search_state g test s) 1
      (map f lists)

-- the bound leaf of `count` count lines keeps below the counts that are wanted or comes to them
abbrev pub BoundBy : Problem → Round → State → (ℕ → ℕ) → ℕ → Type 0
BoundBy p round s wanted count =
    (lines : List Allowance) → length lines ≡ count → AreCountLines round.format p s 1 lines
    → Bounds round.format p round.limit s wanted 1 0 lines

-- no bound leaf of at most `most` count lines keeps below the counts that are wanted or comes to them
abbrev pub BoundByNone : Problem → Round → State → (ℕ → ℕ) → ℕ → Type 0
BoundByNone p round s wanted most =
    (lines : List Allowance) → length lines ≤ most → AreCountLines round.format p s 1 lines
    → Bounds round.format p round.limit s wanted 1 0 lines → ⊥
