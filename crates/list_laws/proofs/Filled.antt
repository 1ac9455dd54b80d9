-- If no county is left in a state, a lawful grouping agrees with the state exactly if it has the sets of the closed
-- groups.
use Rattle.std.proofs.Common.{◌≡◌, ℕ, ◌≤◌, false, List, [], ◌∷◌, length, refl, sym, ap, ◌∙◌, subst, arith, inl, Contains}
use Rattle.std.proofs.lemmas.Bool.{false≢true}
use Rattle.county_codes.specs.declared.group.Group.{Group}
use Rattle.grouping_laws.specs.Sets.{indicator, count_in, contains, SameSet}
use Rattle.grouping_laws.specs.Problem.{Problem, Connected, LawfulGroup}
use Rattle.grouping_laws.specs.Grouping.{Grouping, Lawful, counts, sets_of}
use Rattle.grouping_laws.specs.Ranges.{seated}
use Rattle.place_sets.proofs.Sums.{digit_one}
use Rattle.grouping_laws.proofs.Elements.{Has, has_all, all_from_has, has_from_contains, contains_from_has, has-map, has_set}
use Rattle.grouping_laws.proofs.Digits.{false_digit}
use Rattle.grouping_laws.proofs.Sizes.{stands_some}
use Rattle.grouping_laws.proofs.Seated.{set_from_stands, first_code, seated_sets, seated_lawful}
use Rattle.certificate_data.specs.Round.{Round}
use Rattle.certificate_laws.specs.State.{State, IsState}
use Rattle.certificate_laws.specs.Agreement.{Agrees}
use Rattle.certificate_laws.proofs.Agreement.{peeled, peeled_completes, one_group}
use Rattle.list_laws.specs.AllBest.{HasSet, SameSets}
use Rattle.list_laws.specs.Completeness.{IsFilled}
use Rattle.list_laws.proofs.Same.{same_self}

-- groups that no county lies in
no_counts : (j : ℕ) (opens : Grouping) → ((m : Group) → Has opens m → 1 ≤ length m.codes) → ((c : ℕ) → count_in c (sets_of opens) ≡ 0) → counts (sets_of opens) j ≡ 0
no_counts j [] some none = refl
no_counts j (m ∷ opens) some none =
    let y = first_code m.codes (some m (inl refl)) in
    absurd (omega (arith, none y.0, stands_some y.0 (sets_of (m ∷ opens)) m.codes (has_set (m ∷ opens) m (inl refl)) y.1))

module _ (p : Problem) (round : Round) (s : State) (state : IsState p round s) (none_left : (c : ℕ) → s.rest c ≡ false) where
  closed_cover : (c : ℕ) → count_in c s.closed ≡ indicator (contains p.counties c)
  closed_cover c = omega (arith, state.once c, false_digit (s.rest c) (none_left c))

  module _ (g : Grouping) (lawful : Lawful p g) where
    some_county : (m : Group) → Has g m → 1 ≤ length m.codes
    some_county m h = (has_all (λ s. Connected p s.codes) g lawful.connected m h).some_county

    pub agrees_from_same : SameSets (sets_of g) s.closed → Agrees s g
    agrees_from_same same = record {
      closed = all_from_has (λ k. (m : Group) × Contains g m × SameSet m.codes k) s.closed (λ k h.
          let r = has_all (HasSet (sets_of g)) s.closed same.back k h in
          let m = has-map g r.0 (has_from_contains (sets_of g) r.0 r.1) in
          (m.0, contains_from_has g m.0 m.1, λ c. ap (λ z. contains z c) m.2 ∙ r.2 c));
      large = λ c e. absurd (false≢true (sym (none_left c) ∙ e));
    }

    pub same_from_agrees : Agrees s g → SameSets (sets_of g) s.closed
    same_from_agrees agrees = record {
      there = all_from_has (HasSet s.closed) (sets_of g) (λ x h. let m = has-map g x h in among m.0 m.1 x m.2);
      back = all_from_has (HasSet (sets_of g)) s.closed (λ k h.
          let r = has_all (λ k. (m : Group) × Contains g m × SameSet m.codes k) s.closed agrees.closed k h in
          (r.0.codes, contains_from_has (sets_of g) r.0.codes (has_set g r.0 (has_from_contains g r.0 r.1)), r.2));
    }
      where
        among : (m : Group) → Has g m → (x : List ℕ) → m.codes ≡ x → HasSet s.closed x
        among m h x e =
            let y = first_code m.codes (some_county m h) in
            let k = set_from_stands y.0 s.closed (omega (arith, closed_cover y.0, lawful.once y.0, stands_some y.0 (sets_of g) m.codes (has_set g m h) y.1)) in
            let r = has_all (λ k. (m : Group) × Contains g m × SameSet m.codes k) s.closed agrees.closed k.0 k.1 in
            let one = one_group y.0 g m r.0 h (has_from_contains g r.0 r.1) y.1 (r.2 y.0 ∙ k.2) (omega (arith, lawful.once y.0, digit_one (contains p.counties y.0))) in
            (k.0, contains_from_has s.closed k.0 k.1, λ c. sym (r.2 c) ∙ (ap (λ (z : Group). contains z.codes c) (sym one) ∙ ap (λ z. contains z c) e))

    pub counts_same : Agrees s g → (j : ℕ) → counts s.closed j ≡ counts (sets_of g) j
    counts_same agrees j =
        let rest = peeled p round s state g lawful agrees in
        let whole = peeled_completes p round s state g lawful agrees in
        omega (arith, rest.sizes j, no_counts j rest.opens (λ m h. (whole.connected m h).some_county) (λ c. omega (arith, whole.once c, false_digit (s.rest c) (none_left c))))

pub filled_lawful : (p : Problem) (round : Round) (s : State) → IsState p round s → (f : IsFilled p s) → (g : Grouping) × Lawful p g × SameSets (sets_of g) s.closed
filled_lawful p round s state f = (
  seated s.closed f.seats_of_closed,
  seated_lawful p s.closed f.seats_of_closed (closed_cover p round s state f.none_left) (λ g h. (has_all (LawfulGroup p) s.closed state.lawful g h).connected) f.suit f.add_up,
  subst (λ z. SameSets z s.closed) (sym (seated_sets p s.closed f.seats_of_closed f.suit)) (same_self s.closed),
)
