-- The grouping of the sets of a finished state with their seats.
use Rattle.std.proofs.Common.{◌≡◌, ℕ, ◌≤◌, Bool, List, filter, length, sym, ap, ◌∙◌, subst, All, AllPairs}
use Rattle.county_codes.specs.Limits.{most_counties}
use Rattle.grouping_laws.specs.Sets.{sum_by, contains}
use Rattle.grouping_laws.specs.Problem.{Problem}
use Rattle.grouping_laws.specs.Grouping.{Grouping, sets_of}
use Rattle.grouping_laws.specs.GroupsFrom.{IsOrder, IsBefore}
use Rattle.grouping_laws.specs.Ranges.{seated, SuitAll}
use Rattle.county_codes.specs.declared.group.Group.{Group}
use Rattle.grouping_laws.proofs.Elements.{Has, all_from_has, has_set}
use Rattle.grouping_laws.proofs.PlaceCodes.{has_mapped}
use Rattle.grouping_laws.proofs.PlaceProblem.{order_once}
use Rattle.grouping_laws.proofs.Seated.{seated_sets}
use Rattle.certificate_data.specs.Round.{Round}
use Rattle.certificate_laws.specs.State.{State}
use Rattle.certificate_laws.specs.Search.{IsFound}
use Rattle.certificate_text.specs.TreeItems.{HasTargetLines}
use Rattle.state_groups.specs.PlacedValues.{codes_of_set, codes_of_sets}
use Rattle.search_ends.specs.FinishedStates.{AreFinished, CoverOnce, HasNumbers}
use Rattle.search_ends.proofs.Covering.{all_differ}
use Rattle.search_ends.proofs.Finishing.{IsEnd, cover_once, found, some_county}
use Rattle.search_ends.proofs.SetLemmas.{codes_ordered}
use Rattle.search_ends.proofs.GroupLemmas.{lines_of_groups}

module _ {C : Type 0} (test : C → ℕ → Bool) (p : Problem) (round : Round) (s : State) (order : List ℕ) (whole : IsOrder p order) (end : IsEnd p round s) (sets : List C) (are : AreFinished p s (codes_of_sets order test sets)) where
  abbrev codes : List (List ℕ)
  codes = codes_of_sets order test sets

  -- sets that differ stand in turn
  pub sets_differ : AllPairs (λ g h. g ≡ h → ⊥) codes
  sets_differ = all_differ p codes (some_county p round s codes end are) (cover_once p round s codes end are)

  module _ (ks : List ℕ) (groups : Grouping) (suit : SuitAll p codes ks) (e : groups ≡ seated codes ks) where
    same_sets : sets_of groups ≡ codes
    same_sets = ap sets_of e ∙ seated_sets p codes ks suit

    pub groups_found : sum_by (λ k. k) ks ≡ p.seats_left → IsFound p round s groups
    groups_found sum = subst (IsFound p round s) (sym e) (found p round s codes end are ks suit sum)

    pub groups_in_turn : AllPairs (IsBefore order) codes → AllPairs (IsBefore order) (sets_of groups)
    groups_in_turn turn = subst (AllPairs (IsBefore order)) (sym same_sets) turn

    pub groups_in_order : All (λ m. filter (contains m.codes) order ≡ m.codes) groups
    groups_in_order = all_from_has (λ (m : Group). filter (contains m.codes) order ≡ m.codes) groups one
      where
        one : (m : Group) → Has groups m → filter (contains m.codes) order ≡ m.codes
        one m h =
            let r : (x : C) × Has sets x × (codes_of_set order test x ≡ m.codes) = has_mapped (codes_of_set order test) sets m.codes (subst (λ z. Has z m.codes) same_sets (has_set groups m h)) in
            subst (λ z. filter (contains z) order ≡ z) r.2 (codes_ordered test order (order_once p order whole) p r.0)

    pub groups_lines : length order ≤ most_counties → All HasNumbers groups → HasTargetLines groups
    groups_lines small numbers =
        lines_of_groups p order groups whole small (subst (CoverOnce p) (sym same_sets) (cover_once p round s codes end are))
        (λ g h. some_county p round s codes end are g (subst (λ z. Has z g) same_sets h)) numbers
