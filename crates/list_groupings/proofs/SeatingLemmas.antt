-- Closed groups that have each county: their codes in the order of the problem, sorted, and seated.
use Rattle.std.proofs.Common.{◌≡◌, ℕ, ◌≤◌, ◌<◌, Bool, true, false, cond, List, [], ◌∷◌, map, filter, length, refl, sym, ap, ◌∙◌, subst, arith, inl, inr, ◌⊎◌, AllPairs, All}
use Rattle.std.specs.Ordering.{is_lt}
use Rattle.std.specs.List.Sorted.{IsPermutation, IsSortedBy, IsStrictlyIncreasing}
use Rattle.std.proofs.lemmas.List.Sorted.{IsPermutation-sym}
use Rattle.std.proofs.lemmas.List.Kept.{IsStrictlyIncreasing-filter}
use Rattle.grouping_laws.specs.Sets.{sum_by, count, count_in, contains, SameSet}
use Rattle.grouping_laws.specs.Problem.{Problem, Connected, LawfulGroup, people_of}
use Rattle.grouping_laws.specs.Grouping.{Grouping, Lawful, sets_of}
use Rattle.grouping_laws.specs.GroupsFrom.{IsOrder, IsLesser}
use Rattle.grouping_laws.specs.Ranges.{seated, SuitAll}
use Rattle.grouping_laws.proofs.Alike.{Alike, connected_alike, in_order_alike}
use Rattle.grouping_laws.proofs.Digits.{often_member}
use Rattle.grouping_laws.proofs.Elements.{Has, has_all, all_from_has, contains_from_has}
use Rattle.grouping_laws.proofs.PlaceCodes.{mapped_has, has_mapped}
use Rattle.grouping_laws.proofs.Seated.{seated_lawful}
use Rattle.place_sets.proofs.Sums.{sum_by-map, total_alike, often_some, often_none}
use Rattle.place_sets.proofs.PlaceSets.{often_tested}
use Rattle.connected_laws.proofs.Distinct.{distinct_from_pairs}
use Rattle.connected_laws.proofs.Sorting.{sorted_before}
use Rattle.county_problem.specs.Allotting.{SuitEach}
use Rattle.search_ends.specs.FinishedStates.{CoverOnce, CanSeat}
use Rattle.search_ends.proofs.Moving.{has_moved, has_back, total_moved}
use Rattle.search_ends.proofs.Covering.{total_covered, all_differ}
use Rattle.search_ends.proofs.Finishing.{seats_moved}
use Rattle.list_laws.specs.AllBest.{HasSet, SameSets}
use Rattle.list_groupings.specs.Keys.{set_order}
use Rattle.list_groupings.specs.ListOrder.{IsInOrder}

-- seats that suit the people suit the sets
pub suit_sets : (p : Problem) (sets : List (List ℕ)) (ks : List ℕ) → SuitEach p (map (people_of p) sets) ks → SuitAll p sets ks
suit_sets p [] [] h = tt
suit_sets p [] (k ∷ ks) h = absurd h
suit_sets p (s ∷ sets) [] h = absurd h
suit_sets p (s ∷ sets) (k ∷ ks) h = (h.0, suit_sets p sets ks h.1)

pub suit_people : (p : Problem) (sets : List (List ℕ)) (ks : List ℕ) → SuitAll p sets ks → SuitEach p (map (people_of p) sets) ks
suit_people p [] [] h = tt
suit_people p [] (k ∷ ks) h = absurd h
suit_people p (s ∷ sets) [] h = absurd h
suit_people p (s ∷ sets) (k ∷ ks) h = (h.0, suit_people p sets ks h.1)

module _ (p : Problem) (once_listed : (c : ℕ) → count c p.counties ≤ 1) where
  -- the codes of a group in the order of the problem
  abbrev pub ascending : List ℕ → List ℕ
  ascending g = filter (contains g) p.counties

  whole : IsOrder p p.counties
  whole c = often_member p.counties c (once_listed c)

  pub ascending_once : (g : List ℕ) (c : ℕ) → count c (ascending g) ≤ 1
  ascending_once g c = go (contains g c) (often_tested c (contains g) p.counties)
    where
      go : (b : Bool) → count c (ascending g) ≡ cond b (count c p.counties) 0 → count c (ascending g) ≤ 1
      go true e = omega (arith, e, once_listed c)
      go false e = omega (arith, e)

  ascending_alike : (g : List ℕ) → LawfulGroup p g → Alike g (ascending g)
  ascending_alike g l = in_order_alike p.counties p.counties g whole l.once l.listed

  ascending_same : (g : List ℕ) → LawfulGroup p g → SameSet (ascending g) g
  ascending_same g l c = go (contains g c) refl (contains (ascending g) c) refl
    where
      go : (a : Bool) → contains g c ≡ a → (b : Bool) → contains (ascending g) c ≡ b → contains (ascending g) c ≡ contains g c
      go true e true f = f ∙ sym e
      go false e false f = f ∙ sym e
      go true e false f = absurd (omega (arith, often_some c g e, ascending_alike g l c, often_none c (ascending g) f))
      go false e true f = absurd (omega (arith, often_none c g e, ascending_alike g l c, often_some c (ascending g) f))

  people_ascending : (g : List ℕ) → LawfulGroup p g → people_of p (ascending g) ≡ people_of p g
  people_ascending g l = total_alike p.people (ascending g) g (λ c. sym (ascending_alike g l c))

  suit_ascending : (closed : List (List ℕ)) (ks : List ℕ) → ((g : List ℕ) → Has closed g → LawfulGroup p g) → SuitAll p closed ks → SuitAll p (map ascending closed) ks
  suit_ascending [] [] l h = tt
  suit_ascending [] (k ∷ ks) l h = absurd h
  suit_ascending (g ∷ closed) [] l h = absurd h
  suit_ascending (g ∷ closed) (k ∷ ks) l h = (rw (people_ascending g (l g (inl refl))) h.0, suit_ascending closed ks (λ x i. l x (inr i)) h.1)

  suit_back : (closed : List (List ℕ)) (ks : List ℕ) → ((g : List ℕ) → Has closed g → LawfulGroup p g) → SuitAll p (map ascending closed) ks → SuitAll p closed ks
  suit_back [] [] l h = tt
  suit_back [] (k ∷ ks) l h = absurd h
  suit_back (g ∷ closed) [] l h = absurd h
  suit_back (g ∷ closed) (k ∷ ks) l h = (rw (people_ascending g (l g (inl refl))) at h.0, suit_back closed ks (λ x i. l x (inr i)) h.1)

  stands_ascending : (closed : List (List ℕ)) (c : ℕ) → ((g : List ℕ) → Has closed g → LawfulGroup p g) → count_in c (map ascending closed) ≡ count_in c closed
  stands_ascending [] c l = refl
  stands_ascending (g ∷ closed) c l = omega (arith, ascending_alike g (l g (inl refl)) c, stands_ascending closed c (λ x i. l x (inr i)))

  module _ (closed sets : List (List ℕ)) (once : CoverOnce p closed) (lawful : All (LawfulGroup p) closed) (moved : IsPermutation (map ascending closed) sets) where
    each : (g : List ℕ) → Has closed g → LawfulGroup p g
    each = has_all (LawfulGroup p) closed lawful

    pub cover : CoverOnce p sets
    cover c = total_moved (count c) (map ascending closed) sets moved ∙ (stands_ascending closed c each ∙ once c)

    from : (x : List ℕ) → Has sets x → (g : List ℕ) × Has closed g × (ascending g ≡ x)
    from x h = has_mapped ascending closed x (has_back (map ascending closed) sets moved x h)

    pub sets_once : All (λ g. (c : ℕ) → count c g ≤ 1) sets
    sets_once = all_from_has (λ g. (c : ℕ) → count c g ≤ 1) sets (λ x h. let r = from x h in subst (λ z. (c : ℕ) → count c z ≤ 1) r.2 (ascending_once r.0))

    pub all_people : sum_by (λ n. n) (map (people_of p) sets) ≡ sum_by p.people p.counties
    all_people = sum_by-map (λ n. n) (people_of p) sets ∙ total_covered p p.counties sets p.people whole cover

    are_connected : (x : List ℕ) → Has sets x → Connected p x
    are_connected x h = let r = from x h in subst (Connected p) r.2 (connected_alike p r.0 (ascending r.0) (ascending_alike r.0 (each r.0 r.1)) (each r.0 r.1).connected)

    pub seated_is_lawful : (ks : List ℕ) → SuitAll p sets ks → sum_by (λ k. k) ks ≡ p.seats_left → Lawful p (seated sets ks)
    seated_is_lawful ks suit sum = seated_lawful p sets ks cover are_connected suit sum

    pub can_seat : (ks : List ℕ) → SuitAll p sets ks → sum_by (λ k. k) ks ≡ p.seats_left → CanSeat p closed
    can_seat ks suit sum =
        let r : CanSeat p (map ascending closed) = seats_moved p sets (map ascending closed) (IsPermutation-sym (map ascending closed) sets moved) ks suit (seated_is_lawful ks suit sum) in
        (r.0, suit_back closed r.0 each r.1, r.2)

    pub same_sets : SameSets sets closed
    same_sets = record {
      there = all_from_has (HasSet closed) sets (λ x h.
          let r = from x h in
          (r.0, contains_from_has closed r.0 r.1, λ c. sym (ascending_same r.0 (each r.0 r.1) c) ∙ ap (λ z. contains z c) r.2));
      back = all_from_has (HasSet sets) closed (λ g h.
          (ascending g, contains_from_has sets (ascending g) (has_moved (map ascending closed) sets moved (ascending g) (mapped_has ascending closed g h)), ascending_same g (each g h)));
    }

    pub are_in_order : IsStrictlyIncreasing p.counties → IsSortedBy (λ g h. is_lt (set_order g h)) sets → (g : Grouping) → sets_of g ≡ sets → IsInOrder g
    are_in_order up sorted g e = record {
      codes = subst (λ z. All (λ x. IsStrictlyIncreasing x) z) (sym e)
          (all_from_has (λ x. IsStrictlyIncreasing x) sets (λ x h. let r = from x h in subst IsStrictlyIncreasing r.2 (IsStrictlyIncreasing-filter (contains r.0) p.counties up)));
      groups = subst (AllPairs (λ x y. (length x < length y) ⊎ ((length x ≡ length y) × IsLesser x y))) (sym e)
          (sorted_before sets sorted (distinct_from_pairs sets (all_differ p sets (λ x h. (are_connected x h).some_county) cover)));
    }

    pub none_suit : ((ks : List ℕ) → SuitEach p (map (people_of p) sets) ks → sum_by (λ k. k) ks ≡ p.seats_left → ⊥) → (ks : List ℕ) → SuitAll p closed ks → sum_by (λ k. k) ks ≡ p.seats_left → ⊥
    none_suit none ks suit sum =
        let own = suit_ascending closed ks each suit in
        let lawful_now : Lawful p (seated (map ascending closed) ks) = seated_lawful p (map ascending closed) ks (λ c. stands_ascending closed c each ∙ once c)
        (λ x h. let r = has_mapped ascending closed x h in subst (Connected p) r.2 (connected_alike p r.0 (ascending r.0) (ascending_alike r.0 (each r.0 r.1)) (each r.0 r.1).connected)) own sum in
        let r : CanSeat p sets = seats_moved p (map ascending closed) sets moved ks own lawful_now in
        none r.0 (suit_people p sets r.0 r.1) r.2

pub mapped_same : (xs : List (List ℕ)) → map (λ (g : List ℕ). g) xs ≡ xs
mapped_same [] = refl
mapped_same (x ∷ xs) = ap (λ l. x ∷ l) (mapped_same xs)
