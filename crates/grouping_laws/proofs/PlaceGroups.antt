-- The groups from a place of an order, by places and by codes.
use Rattle.std.proofs.Common.{◌≡◌, ℕ, ◌≤◌, ◌<◌, ◌≢◌, Bool, true, false, List, [], map, filter, length, get_or, refl, sym, ap, ◌∙◌, subst, arith, inl, inr, ⊎_elim, Contains, AllPairs}
use Rattle.std.proofs.lemmas.List.{length-map, get_or-map}
use Rattle.std.proofs.lemmas.List.Elements.{Contains-get_or}
use Rattle.grouping_laws.specs.Sets.{indicator, count, contains}
use Rattle.grouping_laws.specs.Problem.{Problem, Suits, people_of}
use Rattle.grouping_laws.specs.GroupsFrom.{IsOrder, place, IsLesser, IsBefore, IsGroupFrom, AreGroupsFrom, IsSetFrom}
use Rattle.grouping_laws.specs.Places.{places_below, codes_at}
use Rattle.grouping_laws.specs.PlaceProblem.{code_at, at_places}
use Rattle.place_sets.proofs.Sums.{often_some, member_from_often, total_within}
use Rattle.grouping_laws.proofs.Digits.{digit_true}
use Rattle.grouping_laws.proofs.Elements.{Has, has_get, has_from_contains, contains_from_has}
use Rattle.grouping_laws.proofs.Places.{has_member}
use Rattle.place_sets.proofs.PlaceSets.{often_below}
use Rattle.grouping_laws.proofs.PlaceCodes.{Below, member_has, mapped_has, has_mapped, places_here, code_place, places_back, codes_injective}
use Rattle.grouping_laws.proofs.PlaceProblem.{below_ordered, often_kept, below_once, order_once, people_codes, suits_codes, suits_places, ordered_codes, places_for, codes_for, set_codes, set_places}

-- The order of sets, and lists of sets that stand once, stay through the codes.
module _ (order : List ℕ) (once : (c : ℕ) → count c order ≤ 1) where
  pub before_codes : (g h : List ℕ) → Below (length order) g → Below (length order) h → IsBefore (places_below (length order)) g h → IsBefore order (codes_at order g) (codes_at order h)
  before_codes g h below within =
      ⊎_elim
      (λ l. inl (subst (λ z. z < length (codes_at order h)) (sym (size g)) (subst (λ z. length g < z) (sym (size h)) l)))
      (λ r. inr (size g ∙ (r.0 ∙ sym (size h)), subst (λ z. IsLesser z (map (place order) (codes_at order h))) (same g below) (subst (IsLesser (map (place (places_below (length order))) g)) (same h within) r.1)))
    where
      size : (x : List ℕ) → length (codes_at order x) ≡ length x
      size x = length-map x (code_at order)

      same : (x : List ℕ) → Below (length order) x → map (place (places_below (length order))) x ≡ map (place order) (codes_at order x)
      same x b = places_here (length order) x b ∙ sym (places_back order once x b)

  pub codes_pairs : (R S : List ℕ → List ℕ → Type 0) (groups : List (List ℕ)) → ((g : List ℕ) → Contains groups g → Below (length order) g)
      → ((g h : List ℕ) → Below (length order) g → Below (length order) h → R g h → S (codes_at order g) (codes_at order h)) → AllPairs R groups → AllPairs S (map (codes_at order) groups)
  codes_pairs R S groups below step pairs i j d l m =
      let inside : j < length groups = omega (arith, m, length-map groups (codes_at order)) in
      let before : i < length groups = omega (arith, inside, l) in
      subst
      (λ z. S z (get_or (map (codes_at order) groups) j d))
      (sym (get_or-map (codes_at order) groups i [] d before))
      (subst (S (codes_at order (get_or groups i []))) (sym (get_or-map (codes_at order) groups j [] d inside))
      (step (get_or groups i []) (get_or groups j []) (below (get_or groups i []) (Contains-get_or groups i [] before)) (below (get_or groups j []) (Contains-get_or groups j [] inside)) (pairs i j [] l inside)))

  -- lists of places that stand once have lists of codes that stand once
  pub codes_distinct : (groups : List (List ℕ)) → ((g : List ℕ) → Contains groups g → Below (length order) g) → AllPairs (λ g h. g ≢ h) groups → AllPairs (λ g h. g ≢ h) (map (codes_at order) groups)
  codes_distinct groups below = codes_pairs (λ g h. g ≢ h) (λ g h. g ≢ h) groups below (λ g h b w differ e. differ (codes_injective order once g h b w e))

  pub codes_has : (groups : List (List ℕ)) → ((g : List ℕ) → Has groups g → Below (length order) g) → (g : List ℕ) → Below (length order) g → Has (map (codes_at order) groups) (codes_at order g) → Has groups g
  codes_has groups below g within h =
      let r : (x : List ℕ) × Has groups x × (codes_at order x ≡ codes_at order g) = has_mapped (codes_at order) groups (codes_at order g) h in
      subst (Has groups) (codes_injective order once r.0 g (below r.0 r.1) within r.2) r.1

module _ (p : Problem) (order : List ℕ) (whole : IsOrder p order) where
  once : (c : ℕ) → count c order ≤ 1
  once = order_once p order whole

  listed_codes : (g : List ℕ) → Below (length order) g → (c : ℕ) → contains (codes_at order g) c ≡ true → contains p.counties c ≡ true
  listed_codes g below c e =
      let x = code_place order once g below c e in
      let here : contains order c ≡ true = has_member order c (subst (Has order) x.2 (has_get order (place order c) 0 x.0)) in
      digit_true (contains p.counties c) (omega (arith, whole c, often_some c order here))

  listed_places : (g : List ℕ) → Below (length order) g → (i : ℕ) → contains g i ≡ true → contains (places_below (length order)) i ≡ true
  listed_places g below i e = member_from_often i (places_below (length order)) (omega (arith, often_below (length order) i (below i (member_has g i e))))

  -- a list of places has no more people than all counties
  pub people_places : (g : List ℕ) → filter (contains g) (places_below (length order)) ≡ g → people_of (at_places p order) g ≤ people_of p p.counties
  people_places g e = omega (arith, people_codes p order g, total_within p.people (codes_at order g) p.counties few)
    where
      known : (c : ℕ) → indicator (contains p.counties c) ≤ count c p.counties
      known c = go (contains p.counties c) refl
        where
          go : (b : Bool) → contains p.counties c ≡ b → indicator b ≤ count c p.counties
          go true k = often_some c p.counties k
          go false k = omega arith

      few : (c : ℕ) → count c (codes_at order g) ≤ count c p.counties
      few c = omega (arith, ap (count c) (ordered_codes p order once g e), often_kept c (contains (codes_at order g)) order, whole c, known c)

  -- a group of places from a place is a group of codes from the code there
  pub group_codes : (limit at : ℕ) (g : List ℕ) → IsGroupFrom (at_places p order) (places_below (length order)) limit at (λ x. true) g → IsGroupFrom p order limit (code_at order at) (λ x. true) (codes_at order g)
  group_codes limit at g x = record {
    lawful = record {
      once = λ c. subst (λ z. count c z ≤ 1) set.in_order (omega (arith, once c, often_kept c (contains (codes_at order g)) order));
      listed = listed_codes g (below_ordered (length order) g x.in_order);
      connected = set.connected;
      seats = x.lawful.seats;
      suits = suits_codes p order g x.lawful.seats x.lawful.suits;
    };
    in_order = set.in_order;
    first = set.first;
    small = set.small;
    inside = λ c e. refl;
  }
    where
      set : IsSetFrom p order limit (code_at order at) (codes_at order g)
      set = set_codes p order once limit at g (record { connected = x.lawful.connected; in_order = x.in_order; first = x.first; small = x.small })

  -- and each group of codes from there is one of places
  pub group_places : (limit at : ℕ) (h : List ℕ) → at < length order → IsGroupFrom p order limit (code_at order at) (λ x. true) h
      → (g : List ℕ) × IsGroupFrom (at_places p order) (places_below (length order)) limit at (λ x. true) g × (codes_at order g ≡ h)
  group_places limit at h l x = (g, group, same)
    where
      g : List ℕ
      g = places_for p order once h

      same : codes_at order g ≡ h
      same = codes_for p order once h x.in_order

      set : IsSetFrom (at_places p order) (places_below (length order)) limit at g
      set = set_places p order once limit at h l (record { connected = x.lawful.connected; in_order = x.in_order; first = x.first; small = x.small })

      group : IsGroupFrom (at_places p order) (places_below (length order)) limit at (λ x. true) g
      group = record {
        lawful = record {
          once = λ i. subst (λ z. count i z ≤ 1) set.in_order (omega (arith, below_once (length order) i, often_kept i (contains g) (places_below (length order))));
          listed = listed_places g (below_ordered (length order) g set.in_order);
          connected = set.connected;
          seats = x.lawful.seats;
          suits = suits_places p order g x.lawful.seats (subst (λ z. Suits p (people_of p z) x.lawful.seats) (sym same) x.lawful.suits);
        };
        in_order = set.in_order;
        first = set.first;
        small = set.small;
        inside = λ c e. refl;
      }

  -- all groups from a place, sorted, by places and by codes
  pub groups_codes : (limit at : ℕ) (groups : List (List ℕ)) → at < length order → AreGroupsFrom (at_places p order) (places_below (length order)) limit at (λ x. true) groups
      → AreGroupsFrom p order limit (code_at order at) (λ x. true) (map (codes_at order) groups)
  groups_codes limit at groups l are = record {
    each = λ h. (there h, back h);
    sorted = codes_pairs order once (IsBefore (places_below (length order))) (IsBefore order) groups below (before_codes order once) are.sorted;
  }
    where
      below : (g : List ℕ) → Contains groups g → Below (length order) g
      below g c = let x : IsGroupFrom (at_places p order) (places_below (length order)) limit at (λ x. true) g = (are.each g).0 c in below_ordered (length order) g x.in_order

      there : (h : List ℕ) → Contains (map (codes_at order) groups) h → IsGroupFrom p order limit (code_at order at) (λ x. true) h
      there h c =
          let r : (g : List ℕ) × Has groups g × (codes_at order g ≡ h) = has_mapped (codes_at order) groups h (has_from_contains (map (codes_at order) groups) h c) in
          subst (IsGroupFrom p order limit (code_at order at) (λ x. true)) r.2 (group_codes limit at r.0 ((are.each r.0).0 (contains_from_has groups r.0 r.1)))

      back : (h : List ℕ) → IsGroupFrom p order limit (code_at order at) (λ x. true) h → Contains (map (codes_at order) groups) h
      back h x =
          let r : (g : List ℕ) × IsGroupFrom (at_places p order) (places_below (length order)) limit at (λ x. true) g × (codes_at order g ≡ h) = group_places limit at h l x in
          contains_from_has (map (codes_at order) groups) h (subst (Has (map (codes_at order) groups)) r.2 (mapped_has (codes_at order) groups r.0 (has_from_contains groups r.0 ((are.each r.0).1 r.1))))

  -- sets from a place, by places and by codes
  pub sets_codes : (limit at : ℕ) (sets : List (List ℕ)) → ((g : List ℕ) → Has sets g → IsSetFrom (at_places p order) (places_below (length order)) limit at g)
      → (h : List ℕ) → Has (map (codes_at order) sets) h → IsSetFrom p order limit (code_at order at) h
  sets_codes limit at sets are h i =
      let r : (g : List ℕ) × Has sets g × (codes_at order g ≡ h) = has_mapped (codes_at order) sets h i in
      subst (IsSetFrom p order limit (code_at order at)) r.2 (set_codes p order once limit at r.0 (are r.0 r.1))
