-- The closed groups and the parts of a finished state, moved about and seated, are a grouping that is found.
use Rattle.std.proofs.Common.{◌≡◌, ℕ, ◌≤◌, true, ◌==◌, List, [], ◌∷◌, ◌++◌, map, length, refl, sym, ap, ◌∙◌, subst, arith, inl, inr, Contains, Option, Some, None}
use Rattle.std.specs.List.Sorted.{IsPermutation}
use Rattle.county_codes.specs.declared.group.Group.{Group}
use Rattle.grouping_laws.specs.Sets.{indicator, sum_by, count, contains, SameSet}
use Rattle.grouping_laws.specs.Problem.{Problem, Suits, people_of, Connected, IsProblem}
use Rattle.grouping_laws.specs.Grouping.{Grouping, Lawful, counts, sets_of}
use Rattle.grouping_laws.specs.Ranges.{seated, SuitAll}
use Rattle.place_sets.proofs.Sums.{sum_by-map}
use Rattle.grouping_laws.proofs.Elements.{Has, has_all, all_from_has, has_from_contains, contains_from_has, has-map, has_set}
use Rattle.grouping_laws.proofs.Ranges.{people_have_ranges}
use Rattle.grouping_laws.proofs.Seated.{seated_sets, seated_find, seated_lawful}
use Rattle.certificate_data.specs.Round.{Round}
use Rattle.certificate_laws.specs.State.{State, IsState}
use Rattle.certificate_laws.specs.Fitting.{NoGroupFits}
use Rattle.certificate_laws.specs.Leaves.{IsStuck, IsOffSeats}
use Rattle.certificate_laws.specs.Certificate.{Beats}
use Rattle.certificate_laws.specs.Search.{FinishedBeats, IsFound}
use Rattle.certificate_laws.proofs.Ends.{finished_state_beats}
use Rattle.search_groups.specs.Standing.{StandsAhead}
use Rattle.search_ends.specs.FinishedStates.{AreFinished, CoverOnce, CanSeat}
use Rattle.search_ends.proofs.Moving.{has_moved, has_back, total_moved, moved_along}
use Rattle.search_ends.proofs.Ahead.{no_leaf}

-- the seats of groups that suit them
own_seats : (p : Problem) (groups : Grouping) → ((m : Group) → Has groups m → Suits p (people_of p m.codes) m.seats) → SuitAll p (sets_of groups) (map (λ (m : Group). m.seats) groups)
own_seats p [] suits = tt
own_seats p (m ∷ groups) suits = (suits m (inl refl), own_seats p groups (λ k h. suits k (inr h)))

-- seats for sets serve them in another order
pub seats_moved : (p : Problem) (sets others : List (List ℕ)) → IsPermutation sets others → (ks : List ℕ) → SuitAll p sets ks → Lawful p (seated sets ks) → CanSeat p others
seats_moved p sets others moved ks suit lawful =
    let groups = seated sets ks in
    let r : (ws : Grouping) × IsPermutation groups ws × (sets_of ws ≡ others) = moved_along (λ (m : Group). m.codes) groups others (subst (λ z. IsPermutation z others) (sym (seated_sets p sets ks suit)) moved) in
    let seats = map (λ (m : Group). m.seats) r.0 in (
      seats,
      subst (λ z. SuitAll p z seats) r.2 (own_seats p r.0 (λ m h. has_all (λ k. Suits p (people_of p k.codes) k.seats) groups lawful.suits m (has_back groups r.0 r.1 m h))),
      sum_by-map (λ k. k) (λ (m : Group). m.seats) r.0 ∙ (total_moved (λ (m : Group). m.seats) groups r.0 r.1 ∙ lawful.seats),
    )

beats_same : (target : Option Grouping) (f g : ℕ → ℕ) → ((i : ℕ) → g i ≡ f i) → Beats target f → Beats target g
beats_same None f g same b = tt
beats_same (Some t) f g same b = record {
  size = b.size;
  some_county = b.some_county;
  same_before = λ j l m. same j ∙ b.same_before j l m;
  more = omega (arith, b.more, same b.size);
}

-- sets that are those of a grouping that is found, moved about, are found with any seats that suit and add up
pub found_moved : (p : Problem) (round : Round) (s : State) (g : Grouping) (sets : List (List ℕ)) (ks : List ℕ) → IsFound p round s g → IsPermutation (sets_of g) sets → SuitAll p sets ks → sum_by (λ k. k) ks ≡ p.seats_left
    → IsFound p round s (seated sets ks)
found_moved p round s g sets ks found moved suit sum = (
  seated_lawful p sets ks (λ c. total_moved (count c) (sets_of g) sets moved ∙ found.0.once c) connected suit sum,
  record { closed = all_from_has (λ k. (m : Group) × Contains (seated sets ks) m × SameSet m.codes k) s.closed closed; large = large },
  beats_same round.target (counts (sets_of g)) (counts (sets_of (seated sets ks))) (λ i. ap (λ z. counts z i) (seated_sets p sets ks suit) ∙ total_moved (λ x. indicator (length x == i)) (sets_of g) sets moved) found.2,
)
  where
    connected : (x : List ℕ) → Has sets x → Connected p x
    connected x h =
        let r = has-map g x (has_back (sets_of g) sets moved x h) in
        subst (Connected p) r.2 (has_all (λ m. Connected p m.codes) g found.0.connected r.0 r.1)

    -- each group of the grouping stands among the sets
    there : (m : Group) → Contains g m → (k : Group) × Contains (seated sets ks) k × (k.codes ≡ m.codes)
    there m h =
        let r = seated_find p sets ks suit m.codes (has_moved (sets_of g) sets moved m.codes (has_set g m (has_from_contains g m h))) in
        (r.0, contains_from_has (seated sets ks) r.0 r.1, r.2)

    closed : (x : List ℕ) → Has s.closed x → (m : Group) × Contains (seated sets ks) m × SameSet m.codes x
    closed x h =
        let a = has_all (λ k. (m : Group) × Contains g m × SameSet m.codes k) s.closed found.1.closed x h in
        let r = there a.0 a.1 in
        (r.0, r.1, λ c. ap (λ z. contains z c) r.2 ∙ a.2 c)

    large : (c : ℕ) → s.rest c ≡ true → (m : Group) × Contains (seated sets ks) m × (contains m.codes c ≡ true) × (s.least c ≤ length m.codes)
    large c e =
        let a = found.1.large c e in
        let r = there a.0 a.1 in
        (r.0, r.1, ap (λ z. contains z c) r.2 ∙ a.2, omega (arith, a.3, ap length r.2))

-- a state that a search can't go on from
pub record IsEnd (p : Problem) (round : Round) (s : State) : Type 0 where
  pub is_problem : IsProblem p
  pub state : IsState p round s
  pub none : NoGroupFits p round s
  pub ahead : StandsAhead round s
  pub no_stuck : (c : ℕ) → IsStuck p s c → ⊥
  pub no_seats : IsOffSeats p s → ⊥

module _ (p : Problem) (round : Round) (s : State) (sets : List (List ℕ)) (end : IsEnd p round s) (are : AreFinished p s sets) where
  beats : FinishedBeats p round s are.parts
  beats = finished_state_beats p round s are.parts (people_have_ranges p end.is_problem.some_people end.is_problem.tolerated) end.state end.none (no_leaf p round s round.limit end.ahead end.no_stuck end.no_seats) are.are_parts

  same_sets : sets_of (seated (s.closed ++ are.parts) beats.some.0) ≡ s.closed ++ are.parts
  same_sets = seated_sets p (s.closed ++ are.parts) beats.some.0 beats.some.1

  first : IsFound p round s (seated (s.closed ++ are.parts) beats.some.0)
  first =
      let r = beats.all beats.some.0 beats.some.1 beats.some.2 in
      (r.0, r.1, subst (λ z. Beats round.target (counts z)) (sym same_sets) r.2)

  -- some seats suit the sets and add up
  pub can_seat : CanSeat p sets
  can_seat = seats_moved p (s.closed ++ are.parts) sets are.moved beats.some.0 beats.some.1 first.0

  moved : IsPermutation (sets_of (seated (s.closed ++ are.parts) beats.some.0)) sets
  moved = subst (λ z. IsPermutation z sets) (sym same_sets) are.moved

  -- each county lies in one of them
  pub cover_once : CoverOnce p sets
  cover_once c = total_moved (count c) (sets_of (seated (s.closed ++ are.parts) beats.some.0)) sets moved ∙ first.0.once c

  -- and whichever seats do so make a grouping that is found
  pub found : (ks : List ℕ) → SuitAll p sets ks → sum_by (λ k. k) ks ≡ p.seats_left → IsFound p round s (seated sets ks)
  found ks suit sum = found_moved p round s (seated (s.closed ++ are.parts) beats.some.0) sets ks first moved suit sum

  -- no set is empty
  pub some_county : (g : List ℕ) → Has sets g → 1 ≤ length g
  some_county g h =
      let r = has-map (seated (s.closed ++ are.parts) beats.some.0) g (has_back (sets_of (seated (s.closed ++ are.parts) beats.some.0)) sets moved g h) in
      subst (λ z. 1 ≤ length z) r.2 (has_all (λ m. Connected p m.codes) (seated (s.closed ++ are.parts) beats.some.0) first.0.connected r.0 r.1).some_county
