-- What the judging of a state rests on.
use Rattle.std.proofs.Common.{◌≡◌, ℕ, ◌+◌, ◌≤◌, ◌<◌, Bool, true, false, List, [], ◌∷◌, length, map, refl, sym, ap, ◌∙◌, subst, arith, All, Contains, None, MatchOption, inl}
use Rattle.std.specs.Prelude.{⊤}
use Rattle.grouping_laws.proofs.PlaceCodes.{mapped_has}
use Rattle.std.proofs.lemmas.Bool.{false≢true}
use Rattle.grouping_laws.specs.GroupsFrom.{IsOrder, place}
use Rattle.grouping_laws.proofs.Elements.{Has, has_all, has_from_contains, contains_from_has}
use Rattle.grouping_laws.proofs.PlaceProblem.{order_once}
use Rattle.connected_laws.specs.Listing.{AreBelow}
use Rattle.connected_laws.proofs.PlaceLists.{some_member}
use Rattle.certificate_laws.specs.State.{State}
use Rattle.certificate_laws.specs.Fitting.{Fits, IsLive}
use Rattle.certificate_laws.specs.Groups.{AreGroupsOf}
use Rattle.state_groups.specs.PlacedValues.{codes_of_set, codes_of_sets, IsPlaced}
use Rattle.search_groups.specs.KnownGroups.{IsKnown, IsCandidateGroup, AreThose}
use Rattle.search_groups.proofs.KnownGroups.{known_serves, none_left, candidates_fit, candidates_listed}
use Rattle.search_groups.proofs.KeptSteps.{code_in, place_in}
use Rattle.search_groups.specs.Positions.{search_problem, search_round, search_state, IsSearchInput, IsLargerAt, IsPositionAt, IsChoice}
use Rattle.search_groups.specs.declared.input.SearchInput.{SearchInput}
use Rattle.search_groups.specs.declared.position.Larger.{Larger}
use Rattle.search_groups.specs.declared.position.Position.{Position}

-- an element of a list, mapped
contains_mapped : {X Y : Type 0} (f : X → Y) (xs : List X) (x : X) → Contains xs x → Contains (map f xs) (f x)
contains_mapped f xs x h = contains_from_has (map f xs) (f x) (mapped_has f xs x (has_from_contains xs x h))

-- a list that is not empty has an element
some_element : {X : Type 0} (xs : List X) → 1 ≤ length xs → (x : X) × Has xs x
some_element [] l = absurd (omega (arith, l))
some_element (x ∷ xs) l = (x, inl refl)

module _ (C : Type 0) (test : C → ℕ → Bool) (places : ℕ) (g : SearchInput C) (input : IsSearchInput places test g) (order : IsOrder (search_problem g) g.graph.now.ordered.now.order) (s : State) (at : Position C) (is : IsPositionAt test g s at) where
  abbrev sets : List C → List (List ℕ)
  sets = codes_of_sets g.graph.now.ordered.now.order test

  -- a group that is known
  known_candidate : (set : C) → Has at.groups.items set → IsCandidateGroup (search_problem g) (search_round g) s at.size (codes_of_set g.graph.now.ordered.now.order test set)
  known_candidate set has =
      is.known.each (codes_of_set g.graph.now.ordered.now.order test set)
      (contains_from_has (sets at.groups.items) (codes_of_set g.graph.now.ordered.now.order test set) (mapped_has (codes_of_set g.graph.now.ordered.now.order test) at.groups.items set has))

  pub none_at : at.groups.items ≡ [] → (group : List ℕ) → Fits g.round.now.format (search_problem g) s group → length group ≤ at.size → ⊥
  none_at empty group fits small =
      none_left (search_problem g) (search_round g) s at.size (subst (IsOrder (search_problem g)) input.order order) (subst (λ z. IsKnown (search_problem g) (search_round g) s at.size (codes_of_sets g.graph.now.ordered.now.order test z)) empty is.known) group fits small

  pub live_at : (next : Position C) → next.state ≡ at.state → next.size ≡ at.size → AreBelow (length g.graph.now.ordered.now.order) test next.groups.items
      → AreThose g.graph.now.ordered.now.order (IsLive (search_problem g) (search_state g test at.state)) (codes_of_sets g.graph.now.ordered.now.order test at.groups.items) (codes_of_sets g.graph.now.ordered.now.order test next.groups.items)
      → next.larger ≡ at.larger → IsPositionAt test g s next
  live_at next same size below those kept = record {
    placed = subst (λ z. IsPlaced (length g.graph.now.ordered.now.order) test z) (sym same) is.placed;
    is = ap (search_state g test) same ∙ is.is;
    state = is.state;
    small = omega (arith, size, is.small);
    below = below;
    known = subst (λ n. IsKnown (search_problem g) (search_round g) s n (sets next.groups.items)) (sym size)
        (known_serves.live (search_problem g) (search_round g) s at.size (sets at.groups.items) (sets next.groups.items) input.wide is.known
        (subst (λ z. AreThose g.round.now.order (IsLive (search_problem g) z) (sets at.groups.items) (sets next.groups.items)) is.is
        (subst (λ o. AreThose o (IsLive (search_problem g) (search_state g test at.state)) (sets at.groups.items) (sets next.groups.items)) input.order those))).1;
    larger = subst (λ o. MatchOption o ⊤ (IsLargerAt test g s next.size)) (sym kept) (subst (λ n. MatchOption at.larger ⊤ (IsLargerAt test g s n)) (sym size) is.larger);
  }

  pub sized_at : (next : Position C) → at.groups.items ≡ [] → next.state ≡ at.state → next.size ≡ at.size + 1 → at.size < g.round.now.limit → AreBelow (length g.graph.now.ordered.now.order) test next.groups.items
      → AreGroupsOf (search_problem g) (search_round g) s (at.size + 1) (codes_of_sets g.graph.now.ordered.now.order test next.groups.items) → next.larger ≡ None → IsPositionAt test g s next
  sized_at next empty same size less below groups none = record {
    placed = subst (λ z. IsPlaced (length g.graph.now.ordered.now.order) test z) (sym same) is.placed;
    is = ap (search_state g test) same ∙ is.is;
    state = is.state;
    small = omega (arith, size, less);
    below = below;
    known = subst (λ n. IsKnown (search_problem g) (search_round g) s n (sets next.groups.items)) (sym size)
        (known_serves.next (search_problem g) (search_round g) s at.size (sets next.groups.items) (subst (IsOrder (search_problem g)) input.order order)
        (subst (λ z. IsKnown (search_problem g) (search_round g) s at.size (codes_of_sets g.graph.now.ordered.now.order test z)) empty is.known) groups);
    larger = subst (λ o. MatchOption o ⊤ (IsLargerAt test g s next.size)) (sym none) tt;
  }

  -- the live ones of the candidates of one county more are the groups that fit
  pub larger_fit : (l : Larger C) (those : List (List ℕ)) → IsLargerAt test g s at.size l
      → AreThose g.graph.now.ordered.now.order (IsLive (search_problem g) (search_state g test at.state)) (codes_of_sets g.graph.now.ordered.now.order test l.groups.items) those → AreGroupsOf (search_problem g) (search_round g) s (at.size + 1) those
  larger_fit l those larger lives =
      candidates_fit (search_problem g) (search_round g) s (at.size + 1) (sets l.groups.items) those input.wide larger.known
      (subst (λ z. AreThose g.round.now.order (IsLive (search_problem g) z) (sets l.groups.items) those) is.is
      (subst (λ o. AreThose o (IsLive (search_problem g) (search_state g test at.state)) (sets l.groups.items) those) input.order lives))

  -- all groups of one county more that fit are candidates
  pub listed_at : (l : Larger C) → AreBelow (length g.graph.now.ordered.now.order) test l.groups.items
      → AreGroupsOf (search_problem g) (search_round g) s (at.size + 1) (codes_of_sets g.graph.now.ordered.now.order test l.groups.items) → IsLargerAt test g s at.size l
  listed_at l below groups = record { below = below; known = candidates_listed (search_problem g) (search_round g) s (at.size + 1) (sets l.groups.items) groups }

  -- groups that are known have a county at least
  pub some_size : 1 ≤ length at.groups.items → 1 ≤ at.size
  some_size some = let e = some_element at.groups.items some in let c = known_candidate e.0 e.1 in omega (arith, c.size, c.lawful.connected.some_county)

  pub no_choice : 1 ≤ length at.groups.items → All (λ set. (x : ℕ) → test set x ≡ false) at.groups.items → ⊥
  no_choice some none =
      let e = some_element at.groups.items some in
      let m = some_member (codes_of_set g.graph.now.ordered.now.order test e.0) (known_candidate e.0 e.1).lawful.connected.some_county in
      let there = place_in C test g.graph.now.ordered.now.order (order_once (search_problem g) g.graph.now.ordered.now.order order) e.0 m.0 m.1 in
      false≢true (sym (has_all (λ set. (x : ℕ) → test set x ≡ false) at.groups.items none e.0 e.1 (place g.graph.now.ordered.now.order m.0)) ∙ there.1)

  pub choice_at : (i : ℕ) (set : C) → Contains at.groups.items set → test set i ≡ true → IsChoice test g.graph.now.ordered.now.order at.groups.items i
  choice_at i set known e =
      let below = has_all (λ set. (x : ℕ) → test set x ≡ true → x < length g.graph.now.ordered.now.order) at.groups.items is.below set (has_from_contains at.groups.items set known) i e in
      record {
        below = below;
        group = codes_of_set g.graph.now.ordered.now.order test set;
        known = contains_mapped (codes_of_set g.graph.now.ordered.now.order test) at.groups.items set known;
        has = code_in C test g.graph.now.ordered.now.order (order_once (search_problem g) g.graph.now.ordered.now.order order) set i below ∙ e;
      }
