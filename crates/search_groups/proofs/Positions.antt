-- The positions of a search: what is known at one goes with it.
use Rattle.std.proofs.Common.{◌≡◌, ℕ, ◌+◌, ◌<◌, ◌≤◌, Bool, true, List, length, Option, Some, None, MatchOption, refl, sym, ap, ◌∙◌, subst, arith}
use Rattle.std.specs.Prelude.{⊤}
use Rattle.grouping_laws.specs.Problem.{IsProblem}
use Rattle.grouping_laws.specs.GroupsFrom.{IsOrder}
use Rattle.connected_laws.specs.Listing.{AreBelow}
use Rattle.county_problem.specs.OrderedValue.{code_at}
use Rattle.certificate_laws.specs.State.{State, close, raise}
use Rattle.certificate_laws.specs.Fitting.{IsLive}
use Rattle.certificate_laws.specs.Groups.{IsGroupAt, AreGroupsAt}
use Rattle.certificate_laws.specs.Proving.{CanBranch}
use Rattle.certificate_laws.proofs.Branches.{branch_keeps_state}
use Rattle.certificate_laws.proofs.Completion.{open_least}
use Rattle.state_groups.specs.PlacedValues.{codes_of_set, codes_of_sets, IsPlaced, IsClosable}
use Rattle.search_groups.specs.KnownGroups.{IsCandidateGroup, IsKnown, AreThose, IsApart, Lacks, Has}
use Rattle.search_groups.proofs.KnownGroups.{known_serves, candidates_closed, candidates_raised}
use Rattle.search_groups.proofs.Closing.{candidate_closable}
use Rattle.search_groups.specs.Positions.{search_problem, search_round, search_state, IsSearchInput, IsLargerAt, IsPositionAt, IsChoice}
use Rattle.search_groups.specs.declared.input.SearchInput.{SearchInput}
use Rattle.search_groups.specs.declared.position.Larger.{Larger}
use Rattle.search_groups.specs.declared.position.Position.{Position}

module _ (C : Type 0) (test : C → ℕ → Bool) (places : ℕ) (g : SearchInput C) (input : IsSearchInput places test g) where
  abbrev sets : List C → List (List ℕ)
  sets = codes_of_sets g.graph.now.ordered.now.order test

  pub taken_groups : (s : State) (at : Position C) (c : ℕ) (those found : List (List ℕ)) → IsPositionAt test g s at → AreThose g.graph.now.ordered.now.order (Has c) (codes_of_sets g.graph.now.ordered.now.order test at.groups.items) those
      → AreThose g.graph.now.ordered.now.order (IsLive (search_problem g) (search_state g test at.state)) those found → AreGroupsAt (search_problem g) (search_round g) s c at.size found
  taken_groups s at c those found is has live =
      known_serves.takes (search_problem g) (search_round g) s at.size c (sets at.groups.items) those found input.wide is.known (subst (λ o. AreThose o (Has c) (sets at.groups.items) those) input.order has)
      (subst (λ z. AreThose g.round.now.order (IsLive (search_problem g) z) those found) is.is (subst (λ o. AreThose o (IsLive (search_problem g) (search_state g test at.state)) those found) input.order live))

  pub closable : (s : State) (at : Position C) (c : ℕ) (group : C) → IsOrder (search_problem g) g.graph.now.ordered.now.order → ((x : ℕ) → test group x ≡ true → x < length g.graph.now.ordered.now.order) → IsPositionAt test g s at → IsGroupAt (search_problem g) (search_round g) s c at.size (codes_of_set g.graph.now.ordered.now.order test group)
      → IsClosable test at.state group
  closable s at c group order below is fits =
      let codes = codes_of_set g.graph.now.ordered.now.order test group in
      let here : IsCandidateGroup (search_problem g) (search_round g) (search_state g test at.state) (length codes) codes =
      subst (λ z. IsCandidateGroup (search_problem g) (search_round g) z (length codes) codes) (sym is.is) (record { lawful = fits.fits.lawful; inside = fits.fits.inside; in_order = fits.in_order; size = refl }) in
      candidate_closable C test g.graph.now.ordered.now.order (search_problem g) order (search_round g) at.state is.placed (length codes) group below here

  -- what is known of the groups of one county more, where a group is closed
  pub closed_larger : (s : State) (at : Position C) (c : ℕ) (group : C) (l next : Larger C) → IsProblem (search_problem g) → IsPositionAt test g s at → IsGroupAt (search_problem g) (search_round g) s c at.size (codes_of_set g.graph.now.ordered.now.order test group)
      → IsLargerAt test g s at.size l → AreBelow (length g.graph.now.ordered.now.order) test next.groups.items
      → AreThose g.graph.now.ordered.now.order (IsApart (codes_of_set g.graph.now.ordered.now.order test group)) (codes_of_sets g.graph.now.ordered.now.order test l.groups.items) (codes_of_sets g.graph.now.ordered.now.order test next.groups.items)
      → IsLargerAt test g (close (codes_of_set g.graph.now.ordered.now.order test group) s) at.size next
  closed_larger s at c group l next problem is fits known below those =
      let codes = codes_of_set g.graph.now.ordered.now.order test group in
      record {
        below = below;
        known = candidates_closed (search_problem g) (search_round g) s (at.size + 1) codes (sets l.groups.items) (sets next.groups.items) problem is.state fits.fits known.known
            (subst (λ o. AreThose o (IsApart codes) (sets l.groups.items) (sets next.groups.items)) input.order those);
      }

  -- and where a county is raised past the size
  raised_larger : (s : State) (size c : ℕ) → CanBranch (search_round g) s c size → (o : Option (Larger C)) → MatchOption o ⊤ (IsLargerAt test g s size) → MatchOption o ⊤ (IsLargerAt test g (raise c size s) size)
  raised_larger s size c can None known = tt
  raised_larger s size c can (Some l) known = record {
    below = known.below;
    known = candidates_raised (search_problem g) (search_round g) s size c (sets l.groups.items) (omega (arith, open_least s size c can.is_open)) known.known;
  }

  pub closed_at : (s : State) (at next : Position C) (c : ℕ) (group : C) → IsProblem (search_problem g) → IsPositionAt test g s at → IsGroupAt (search_problem g) (search_round g) s c at.size (codes_of_set g.graph.now.ordered.now.order test group)
      → IsPlaced (length g.graph.now.ordered.now.order) test next.state → search_state g test next.state ≡ close (codes_of_set g.graph.now.ordered.now.order test group) (search_state g test at.state) → next.size ≡ at.size → AreBelow (length g.graph.now.ordered.now.order) test next.groups.items
      → AreThose g.graph.now.ordered.now.order (IsApart (codes_of_set g.graph.now.ordered.now.order test group)) (codes_of_sets g.graph.now.ordered.now.order test at.groups.items) (codes_of_sets g.graph.now.ordered.now.order test next.groups.items)
      → MatchOption next.larger ⊤ (IsLargerAt test g (close (codes_of_set g.graph.now.ordered.now.order test group) s) at.size)
      → IsPositionAt test g (close (codes_of_set g.graph.now.ordered.now.order test group) s) next
  closed_at s at next c group problem is fits placed value size below those larger =
      let codes = codes_of_set g.graph.now.ordered.now.order test group in
      record {
        placed = placed;
        is = value ∙ ap (close codes) is.is;
        state = (branch_keeps_state).closed_state (search_problem g) (search_round g) s codes is.state fits.fits (omega (arith, fits.small, is.small));
        small = omega (arith, size, is.small);
        below = below;
        known = subst (λ n. IsKnown (search_problem g) (search_round g) (close codes s) n (sets next.groups.items)) (sym size)
            (known_serves.closed (search_problem g) (search_round g) s at.size codes (sets at.groups.items) (sets next.groups.items) problem is.state fits.fits is.known
            (subst (λ o. AreThose o (IsApart codes) (sets at.groups.items) (sets next.groups.items)) input.order those));
        larger = subst (λ n. MatchOption next.larger ⊤ (IsLargerAt test g (close codes s) n)) (sym size) larger;
      }

  pub raised_at : (s : State) (at next : Position C) (c : ℕ) → IsPositionAt test g s at → CanBranch (search_round g) s c at.size → IsPlaced (length g.graph.now.ordered.now.order) test next.state → search_state g test next.state ≡ raise c at.size (search_state g test at.state) → next.size ≡ at.size
      → AreBelow (length g.graph.now.ordered.now.order) test next.groups.items → AreThose g.graph.now.ordered.now.order (Lacks c) (codes_of_sets g.graph.now.ordered.now.order test at.groups.items) (codes_of_sets g.graph.now.ordered.now.order test next.groups.items)
      → next.larger ≡ at.larger → IsPositionAt test g (raise c at.size s) next
  raised_at s at next c is can placed value size below those kept = record {
    placed = placed;
    is = value ∙ ap (raise c at.size) is.is;
    state = (branch_keeps_state).raised_state (search_problem g) (search_round g) s c at.size is.state can;
    small = omega (arith, size, is.small);
    below = below;
    known = subst (λ n. IsKnown (search_problem g) (search_round g) (raise c at.size s) n (sets next.groups.items)) (sym size)
        (known_serves.raised (search_problem g) (search_round g) s at.size c (sets at.groups.items) (sets next.groups.items) (omega (arith, open_least s at.size c can.is_open)) is.known
        (subst (λ o. AreThose o (Lacks c) (sets at.groups.items) (sets next.groups.items)) input.order those));
    larger = subst (λ o. MatchOption o ⊤ (IsLargerAt test g (raise c at.size s) next.size)) (sym kept)
        (subst (λ n. MatchOption at.larger ⊤ (IsLargerAt test g (raise c at.size s) n)) (sym size) (raised_larger s at.size c can at.larger is.larger));
  }

  -- one may branch at a county of a group that is known
  pub choice_can : (s : State) (at : Position C) (place : ℕ) → IsPositionAt test g s at → IsChoice test g.graph.now.ordered.now.order at.groups.items place → CanBranch (search_round g) s (code_at g.graph.now.ordered.now.order place) at.size
  choice_can s at place is choice =
      known_serves.can (search_problem g) (search_round g) s at.size (code_at g.graph.now.ordered.now.order place) choice.group input.wide is.small (is.known.each choice.group choice.known) choice.has

  -- and such a group has a county
  pub choice_some : (s : State) (at : Position C) (place : ℕ) → IsPositionAt test g s at → IsChoice test g.graph.now.ordered.now.order at.groups.items place → 1 ≤ at.size
  choice_some s at place is choice = let candidate = is.known.each choice.group choice.known in omega (arith, candidate.size, candidate.lawful.connected.some_county)
