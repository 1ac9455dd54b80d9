-- A problem by the places of an order, and the problem by codes: their sets and groups from a place are the same.
use Rattle.std.proofs.Common.{◌≡◌, ℕ, ◌≤◌, ◌<◌, Bool, true, false, cond, nat_lt, ◌&&◌, List, [], ◌∷◌, filter, length, refl, sym, ap, ◌∙◌, subst, arith, inl}
use Rattle.std.proofs.lemmas.Bool.{ltb-true, ltb-false}
use Rattle.std.proofs.lemmas.List.{length-map}
use Rattle.grouping_laws.specs.Sets.{count, contains}
use Rattle.grouping_laws.specs.Problem.{Problem, Suits, people_of, Connected, HasBorder, IsProblem}
use Rattle.grouping_laws.specs.GroupsFrom.{IsOrder, place, BeginsWith, IsSetFrom}
use Rattle.grouping_laws.specs.Places.{places_below, codes_at}
use Rattle.place_sets.specs.PlaceSets.{places_of}
use Rattle.grouping_laws.specs.PlaceProblem.{code_at, at_places}
use Rattle.place_sets.proofs.Sums.{often_some, digit_one, sum_by-map}
use Rattle.grouping_laws.proofs.Digits.{often_member}
use Rattle.grouping_laws.proofs.Alike.{head_same}
use Rattle.grouping_laws.proofs.Elements.{Has}
use Rattle.grouping_laws.proofs.Places.{has_member, filter_members, place_at, places_are_codes}
use Rattle.grouping_laws.proofs.Parts.{has-filter}
use Rattle.place_sets.proofs.PlaceSets.{often_below, often_above, often_tested, contains-places_of}
use Rattle.grouping_laws.proofs.PlaceCodes.{Below, member_has, mapped_has, member_code, code_place}

-- the places below n, and what a list in their order has
pub place_below : (n i : ℕ) → Has (places_below n) i → i < n
place_below n i h = go (nat_lt i n) refl
  where
    go : (b : Bool) → nat_lt i n ≡ b → i < n
    go true e = ltb-true i n e
    go false e = absurd (omega (arith, often_above n i (ltb-false i n e), often_some i (places_below n) (has_member (places_below n) i h)))

pub below_ordered : (n : ℕ) (g : List ℕ) → filter (contains g) (places_below n) ≡ g → Below n g
below_ordered n g e i h = place_below n i (has-filter (contains g) (places_below n) i (subst (λ z. Has z i) (sym e) h)).0

-- the places that a test keeps stand in their order
pub places_ordered : (n : ℕ) (t : ℕ → Bool) → filter (contains (places_of n t)) (places_below n) ≡ places_of n t
places_ordered n t = filter_members (contains (places_of n t)) t (places_below n) (λ i h. contains-places_of n i t ∙ below i (place_below n i h))
  where
    below : (i : ℕ) → i < n → (nat_lt i n && t i) ≡ t i
    below i l = go (nat_lt i n) refl
      where
        go : (b : Bool) → nat_lt i n ≡ b → (b && t i) ≡ t i
        go true e = refl
        go false e = absurd (omega (arith, l, ltb-false i n e))

-- a test keeps none more often
pub often_kept : (c : ℕ) (q : ℕ → Bool) (xs : List ℕ) → count c (filter q xs) ≤ count c xs
often_kept c q xs = go (q c) (often_tested c q xs)
  where
    go : (b : Bool) → count c (filter q xs) ≡ cond b (count c xs) 0 → count c (filter q xs) ≤ count c xs
    go true e = omega (arith, e)
    go false e = omega (arith, e)

-- each place below n stands at most once
pub below_once : (n i : ℕ) → count i (places_below n) ≤ 1
below_once n i = go (nat_lt i n) refl
  where
    go : (b : Bool) → nat_lt i n ≡ b → count i (places_below n) ≤ 1
    go true e = omega (arith, often_below n i (ltb-true i n e))
    go false e = omega (arith, often_above n i (ltb-false i n e))

-- an order names each code at most once
pub order_once : (p : Problem) (order : List ℕ) → IsOrder p order → (c : ℕ) → count c order ≤ 1
order_once p order whole c = omega (arith, whole c, digit_one (contains p.counties c))

codes_member : (order g : List ℕ) (i : ℕ) → contains g i ≡ true → contains (codes_at order g) (code_at order i) ≡ true
codes_member order g i e = has_member (codes_at order g) (code_at order i) (mapped_has (code_at order) g i (member_has g i e))

-- the people of places are those of their codes, and the same numbers of seats suit them
pub people_codes : (p : Problem) (order g : List ℕ) → people_of p (codes_at order g) ≡ people_of (at_places p order) g
people_codes p order g = sum_by-map p.people (code_at order) g

pub suits_codes : (p : Problem) (order g : List ℕ) (k : ℕ) → Suits (at_places p order) (people_of (at_places p order) g) k → Suits p (people_of p (codes_at order g)) k
suits_codes p order g k s = subst (λ z. Suits p z k) (sym (people_codes p order g)) (record { some_seat = s.some_seat; enough = s.enough; not_more = s.not_more })

pub suits_places : (p : Problem) (order g : List ℕ) (k : ℕ) → Suits p (people_of p (codes_at order g)) k → Suits (at_places p order) (people_of (at_places p order) g) k
suits_places p order g k s = let t : Suits p (people_of (at_places p order) g) k = subst (λ z. Suits p z k) (people_codes p order g) s in record { some_seat = t.some_seat; enough = t.enough; not_more = t.not_more }

-- the problem by places keeps what every problem keeps, and the places below n are an order of it
pub places_problem : (p : Problem) (order : List ℕ) → IsProblem p → IsProblem (at_places p order)
places_problem p order is = record {
  once = below_once (length order);
  symmetric = λ i j. is.symmetric (code_at order i) (code_at order j);
  some_people = is.some_people;
  some_seats = is.some_seats;
  tolerated = is.tolerated;
}

pub places_order : (p : Problem) (order : List ℕ) → IsOrder (at_places p order) (places_below (length order))
places_order p order c = often_member (places_below (length order)) c (below_once (length order) c)

module _ (p : Problem) (order : List ℕ) (once : (c : ℕ) → count c order ≤ 1) where
  pub connected_codes : (g : List ℕ) → Below (length order) g → Connected (at_places p order) g → Connected p (codes_at order g)
  connected_codes g below h = record {
    some_county = subst (λ z. 1 ≤ z) (sym (length-map g (code_at order))) h.some_county;
    joined = λ part q.
        let x = code_place order once g below q.0 q.2 in
        let y = code_place order once g below q.1 q.3 in
        let r : HasBorder (at_places p order) g (λ i. part (code_at order i)) = h.joined (λ i. part (code_at order i)) (place order q.0, place order q.1, x.1, y.1, ap part x.2 ∙ q.4, ap part y.2 ∙ q.5) in
        (code_at order r.0, code_at order r.1, codes_member order g r.0 r.2, codes_member order g r.1 r.3, r.4, r.5, r.6);
  }

  pub connected_places : (g : List ℕ) → Below (length order) g → Connected p (codes_at order g) → Connected (at_places p order) g
  connected_places g below h = record {
    some_county = subst (λ z. 1 ≤ z) (length-map g (code_at order)) h.some_county;
    joined = λ part q.
        let here = λ (k : ℕ) (m : contains g k ≡ true). place_at order once k (below k (member_has g k m)) in
        let r : HasBorder p (codes_at order g) (λ c. part (place order c)) =
        h.joined (λ c. part (place order c)) (code_at order q.0, code_at order q.1, codes_member order g q.0 q.2, codes_member order g q.1 q.3, ap part (here q.0 q.2) ∙ q.4, ap part (here q.1 q.3) ∙ q.5) in
        let x = code_place order once g below r.0 r.2 in
        let y = code_place order once g below r.1 r.3 in
        (place order r.0, place order r.1, x.1, y.1, r.4, r.5, ap (λ z. p.adjacent z (code_at order (place order r.1))) x.2 ∙ (ap (p.adjacent r.0) y.2 ∙ r.6));
  }

  -- a list in the order of places stands in the order of codes
  pub ordered_codes : (g : List ℕ) → filter (contains g) (places_below (length order)) ≡ g → filter (contains (codes_at order g)) order ≡ codes_at order g
  ordered_codes g e = filter_members (contains (codes_at order g)) (λ c. contains g (place order c)) order agree ∙ (sym (places_are_codes.kept order once (contains g)) ∙ ap (codes_at order) e)
    where
      agree : (c : ℕ) → Has order c → contains (codes_at order g) c ≡ contains g (place order c)
      agree c h =
          let t = places_are_codes.there order c (has_member order c h) in
          ap (contains (codes_at order g)) (sym t.1) ∙ member_code order once g (below_ordered (length order) g e) (place order c) t.0

  -- the places of a list in the order of codes
  abbrev pub places_for : List ℕ → List ℕ
  places_for h = places_of (length order) (λ i. contains h (code_at order i))

  pub codes_for : (h : List ℕ) → filter (contains h) order ≡ h → codes_at order (places_for h) ≡ h
  codes_for h e = places_are_codes.kept order once (λ i. contains h (code_at order i)) ∙ (filter_members (λ c. contains h (code_at order (place order c))) (contains h) order agree ∙ e)
    where
      agree : (c : ℕ) → Has order c → contains h (code_at order (place order c)) ≡ contains h c
      agree c i = ap (contains h) (places_are_codes.there order c (has_member order c i)).1

  begins_place : (at : ℕ) (g : List ℕ) → at < length order → Below (length order) g → BeginsWith (code_at order at) (codes_at order g) → BeginsWith at g
  begins_place at [] l below b = let e = b.1 in cc
  begins_place at (x ∷ g) l below b =
      let e : code_at order x ≡ code_at order at = head_same (code_at order x) (code_at order at) (codes_at order g) b.0 b.1 in
      (g, ap (λ z. z ∷ g) (sym (place_at order once x (below x (inl refl))) ∙ (ap (place order) e ∙ place_at order once at l)))

  -- a set of places from a place is a set of codes from the code there
  pub set_codes : (limit at : ℕ) (g : List ℕ) → IsSetFrom (at_places p order) (places_below (length order)) limit at g → IsSetFrom p order limit (code_at order at) (codes_at order g)
  set_codes limit at g s = record {
    connected = connected_codes g (below_ordered (length order) g s.in_order) s.connected;
    in_order = ordered_codes g s.in_order;
    first = (codes_at order s.first.0, ap (codes_at order) s.first.1);
    small = subst (λ z. z ≤ limit) (sym (length-map g (code_at order))) s.small;
  }

  -- and each set of codes from there is one of places
  pub set_places : (limit at : ℕ) (h : List ℕ) → at < length order → IsSetFrom p order limit (code_at order at) h → IsSetFrom (at_places p order) (places_below (length order)) limit at (places_for h)
  set_places limit at h l s = record {
    connected = connected_places (places_for h) below (subst (Connected p) (sym same) s.connected);
    in_order = ordered;
    first = begins_place at (places_for h) l below (subst (BeginsWith (code_at order at)) (sym same) s.first);
    small = subst (λ z. z ≤ limit) (ap length (sym same) ∙ length-map (places_for h) (code_at order)) s.small;
  }
    where
      same : codes_at order (places_for h) ≡ h
      same = codes_for h s.in_order

      ordered : filter (contains (places_for h)) (places_below (length order)) ≡ places_for h
      ordered = places_ordered (length order) (λ i. contains h (code_at order i))

      below : Below (length order) (places_for h)
      below = below_ordered (length order) (places_for h) ordered
