-- What is found by the places of an order holds of the codes.
use Rattle.std.proofs.Common.{◌≡◌, ℕ, ◌≤◌, ◌<◌, Bool, true, false, cond, not, ◌&&◌, List, [], ◌∷◌, map, filter, length, refl, sym, ap, ◌∙◌, subst, arith, inl, inr, Contains}
use Rattle.std.proofs.lemmas.Bool.{false≢true}
use Rattle.std.proofs.lemmas.List.{length-map}
use Rattle.grouping_laws.specs.Sets.{indicator, sum_by, count, count_in, contains}
use Rattle.grouping_laws.specs.Problem.{Problem, IsProblem}
use Rattle.grouping_laws.specs.Parts.{IsPart, AreParts}
use Rattle.grouping_laws.specs.GroupsFrom.{IsOrder, IsBefore, place}
use Rattle.grouping_laws.specs.Places.{places_below, codes_at}
use Rattle.place_sets.specs.PlaceSets.{places_of}
use Rattle.county_problem.specs.OrderedValue.{code_at, at_places}
use Rattle.place_sets.proofs.Sums.{often_none, often_some, member_from_often, total_alike, sum_by-map}
use Rattle.grouping_laws.proofs.Elements.{Has, has_get, has_all, all_from_has, has_from_contains, contains_from_has}
use Rattle.grouping_laws.proofs.Digits.{digit_true, often_member}
use Rattle.grouping_laws.proofs.Places.{has_member, places_are_codes, filter_members}
use Rattle.place_sets.proofs.PlaceSets.{often_below, often_tested}
use Rattle.grouping_laws.proofs.PlaceCodes.{Below, member_has, mapped_has, has_mapped, often_code, member_code, code_place}
use Rattle.grouping_laws.proofs.PlaceProblem.{below_ordered, places_ordered, order_once, suits_codes, suits_places, connected_codes, connected_places, ordered_codes, places_for, codes_for}
use Rattle.grouping_laws.proofs.PlaceGroups.{before_codes, codes_pairs}
use Rattle.certificate_data.specs.declared.format.Format.{Format}
use Rattle.certificate_data.specs.declared.format.Format.TheVariants.{Plain, Wide}
use Rattle.certificate_data.specs.Round.{Round}
use Rattle.certificate_laws.specs.Regions.{without, listed}
use Rattle.certificate_laws.specs.State.{State}
use Rattle.certificate_laws.specs.StuckParts.{CannotFill}
use Rattle.certificate_laws.specs.Fitting.{IsDead, IsKept, Fits}
use Rattle.certificate_laws.specs.Groups.{IsGroupAt, AreGroupsAt, IsGroupOf, AreGroupsOf}
use Rattle.certificate_laws.specs.Places.{IsRegionAt, IsStateAt, round_at, PlacesServe}
use Rattle.certificate_laws.proofs.Completion.{open_rest, open_least, is_open}
use Rattle.certificate_laws.proofs.WithoutGroup.{without_in}

-- codes of an order are the codes at their places
codes_back : (order : List ℕ) (ys : List ℕ) → ((c : ℕ) → Has ys c → contains order c ≡ true) → codes_at order (map (place order) ys) ≡ ys
codes_back order [] known = refl
codes_back order (y ∷ ys) known = both (places_are_codes.there order y (known y (inl refl))).1 (codes_back order ys (λ c h. known c (inr h)))
  where
    both : code_at order (place order y) ≡ y → codes_at order (map (place order) ys) ≡ ys → code_at order (place order y) ∷ codes_at order (map (place order) ys) ≡ y ∷ ys
    both e k = cc

places_inside : (order : List ℕ) (ys : List ℕ) → ((c : ℕ) → Has ys c → contains order c ≡ true) → Below (length order) (map (place order) ys)
places_inside order ys known i h =
    let r : (c : ℕ) × Has ys c × (place order c ≡ i) = has_mapped (place order) ys i h in
    subst (λ z. z < length order) r.2 (places_are_codes.there order r.0 (known r.0 r.1)).0

module _ (p : Problem) (order : List ℕ) (whole : IsOrder p order) where
  abbrev n : ℕ
  n = length order

  once : (c : ℕ) → count c order ≤ 1
  once = order_once p order whole

  once_codes : (xs : List ℕ) → Below n xs → ((i : ℕ) → count i xs ≤ 1) → (c : ℕ) → count c (codes_at order xs) ≤ 1
  once_codes xs below single c = go (contains (codes_at order xs) c) refl
    where
      go : (b : Bool) → contains (codes_at order xs) c ≡ b → count c (codes_at order xs) ≤ 1
      go true e = let r = code_place order once xs below c e in subst (λ z. count z (codes_at order xs) ≤ 1) r.2 (omega (arith, often_code order once xs below (place order c) r.0, single (place order c)))
      go false e = omega (arith, often_none c (codes_at order xs) e)

  once_places : (xs : List ℕ) → Below n xs → ((c : ℕ) → count c (codes_at order xs) ≤ 1) → (i : ℕ) → count i xs ≤ 1
  once_places xs below single i = go (contains xs i) refl
    where
      go : (b : Bool) → contains xs i ≡ b → count i xs ≤ 1
      go true e = omega (arith, often_code order once xs below i (below i (member_has xs i e)), single (code_at order i))
      go false e = omega (arith, often_none i xs e)

  module _ (region places : ℕ → Bool) (at : IsRegionAt order region places) where
    kept_codes : codes_at order (places_of n places) ≡ filter region order
    kept_codes = places_are_codes.kept order once places ∙ filter_members (λ c. places (place order c)) region order agree
      where
        agree : (c : ℕ) → Has order c → places (place order c) ≡ region c
        agree c h = let r = places_are_codes.there order c (has_member order c h) in at.same (place order c) r.0 ∙ ap region r.1

    sums_codes : (f : ℕ → ℕ) → IsProblem p → sum_by f (listed p region) ≡ sum_by (λ i. f (code_at order i)) (places_of n places)
    sums_codes f is = total_alike f (listed p region) (filter region order) alike ∙ (ap (sum_by f) (sym kept_codes) ∙ sum_by-map f (code_at order) (places_of n places))
      where
        alike : (c : ℕ) → count c (listed p region) ≡ count c (filter region order)
        alike c = omega (arith, often_tested c region p.counties, often_tested c region order, ap (λ k. cond (region c) k 0) (often_member p.counties c (is.once c) ∙ sym (whole c)))

    inside_below : (xs : List ℕ) → ((i : ℕ) → contains xs i ≡ true → places i ≡ true) → Below n xs
    inside_below xs inside i h = at.below i (inside i (has_member xs i h))

    -- a county of the region is at its place
    place_of : (c : ℕ) → region c ≡ true → (place order c < n) × (code_at order (place order c) ≡ c) × (places (place order c) ≡ true)
    place_of c e =
        let r = places_are_codes.there order c (at.known c e) in
        (r.0, r.1, at.same (place order c) r.0 ∙ (ap region r.1 ∙ e))

    part_codes : (xs : List ℕ) → IsPart (at_places p order) places xs → IsPart p region (codes_at order xs)
    part_codes xs a = record {
      once = once_codes xs below a.once;
      connected = connected_codes p order once xs below a.connected;
      inside = λ c e. let r = code_place order once xs below c e in ap region (sym r.2) ∙ (sym (at.same (place order c) r.0) ∙ a.inside (place order c) r.1);
      whole = λ x y m r t.
          let i = code_place order once xs below x m in
          let j = place_of y r in
          let touch : p.adjacent (code_at order (place order x)) (code_at order (place order y)) ≡ true = ap (λ z. p.adjacent z (code_at order (place order y))) i.2 ∙ (ap (p.adjacent x) j.1 ∙ t) in
          let h = a.whole (place order x) (place order y) i.1 j.2 touch in
          ap (contains (codes_at order xs)) (sym j.1) ∙ (member_code order once xs below (place order y) j.0 ∙ h);
    }
      where
        below : Below n xs
        below = inside_below xs a.inside

    part_places : (xs : List ℕ) → Below n xs → IsPart p region (codes_at order xs) → IsPart (at_places p order) places xs
    part_places xs below a = record {
      once = once_places xs below a.once;
      connected = connected_places p order once xs below a.connected;
      inside = λ i e. let l = below i (member_has xs i e) in at.same i l ∙ a.inside (code_at order i) (member_code order once xs below i l ∙ e);
      whole = λ i j m r t.
          let k = below i (member_has xs i m) in
          let l = at.below j r in
          sym (member_code order once xs below j l) ∙ a.whole (code_at order i) (code_at order j) (member_code order once xs below i k ∙ m) (sym (at.same j l) ∙ r) t;
    }

    -- what a group leaves of a region
    without_at : (g : List ℕ) → Below n g → IsRegionAt order (without (codes_at order g) region) (without g places)
    without_at g below = record {
      same = λ i l. ap (λ b. b && not (contains g i)) (at.same i l) ∙ ap (λ b. region (code_at order i) && not b) (sym (member_code order once g below i l));
      below = λ i e. at.below i (without_in g places i e);
      known = λ c e. at.known c (without_in (codes_at order g) region c e);
    }

    parts_codes : (parts : List (List ℕ)) → AreParts (at_places p order) places parts → AreParts p region (map (codes_at order) parts)
    parts_codes parts are = record {
      each = all_from_has (IsPart p region) (map (codes_at order) parts) (λ xs h.
          let r : (g : List ℕ) × Has parts g × (codes_at order g ≡ xs) = has_mapped (codes_at order) parts xs h in
          subst (IsPart p region) r.2 (part_codes r.0 (part r.0 r.1)));
      once = λ c. go c (contains order c) refl;
    }
      where
        part : (xs : List ℕ) → Has parts xs → IsPart (at_places p order) places xs
        part = has_all (IsPart (at_places p order) places) parts are.each

        stand : (sets : List (List ℕ)) → ((g : List ℕ) → Has sets g → Below n g) → (i : ℕ) → i < n → count_in (code_at order i) (map (codes_at order) sets) ≡ count_in i sets
        stand [] below i l = refl
        stand (g ∷ sets) below i l = omega (arith, often_code order once g (below g (inl refl)) i l, stand sets (λ x h. below x (inr h)) i l)

        stand_none : (sets : List (List ℕ)) → ((g : List ℕ) → Has sets g → Below n g) → (c : ℕ) → contains order c ≡ false → count_in c (map (codes_at order) sets) ≡ 0
        stand_none [] below c e = refl
        stand_none (g ∷ sets) below c e = omega (arith, often_none c (codes_at order g) (off (contains (codes_at order g) c) refl), stand_none sets (λ x h. below x (inr h)) c e)
          where
            off : (b : Bool) → contains (codes_at order g) c ≡ b → b ≡ false
            off true k =
                let r = code_place order once g (below g (inl refl)) c k in
                absurd (false≢true (sym e ∙ subst (λ z. contains order z ≡ true) r.2 (has_member order (code_at order (place order c)) (has_get order (place order c) 0 r.0))))
            off false k = refl

        below : (g : List ℕ) → Has parts g → Below n g
        below g h = inside_below g (part g h).inside

        outside : (c : ℕ) → contains order c ≡ false → (b : Bool) → region c ≡ b → b ≡ false
        outside c e true k = absurd (false≢true (sym e ∙ at.known c k))
        outside c e false k = refl

        go : (c : ℕ) → (b : Bool) → contains order c ≡ b → count_in c (map (codes_at order) parts) ≡ indicator (region c)
        go c true e =
            let r = places_are_codes.there order c e in
            ap (λ z. count_in z (map (codes_at order) parts)) (sym r.1) ∙ (stand parts below (place order c) r.0 ∙ (are.once (place order c) ∙ ap indicator (at.same (place order c) r.0 ∙ ap region r.1)))
        go c false e = stand_none parts below c e ∙ sym (ap indicator (outside c e (region c) refl))

  module _ (s t : State) (at : IsStateAt order s t) where
    cannot_codes : (xs : List ℕ) → Below n xs → CannotFill (at_places p order) t xs → CannotFill p s (codes_at order xs)
    cannot_codes xs below (inl none) = inl (λ k h. none k (suits_places p order xs k h))
    cannot_codes xs below (inr few) =
        let l = below few.0 (member_has xs few.0 few.1) in
        inr (code_at order few.0, member_code order once xs below few.0 l ∙ few.1, omega (arith, few.2, at.least few.0 l, length-map xs (code_at order)))

    cannot_places : (xs : List ℕ) → Below n xs → CannotFill p s (codes_at order xs) → CannotFill (at_places p order) t xs
    cannot_places xs below (inl none) = inl (λ k h. none k (suits_codes p order xs k h))
    cannot_places xs below (inr few) =
        let r = code_place order once xs below few.0 few.1 in
        inr (place order few.0, r.1, omega (arith, few.2, at.least (place order few.0) r.0, ap s.least r.2, length-map xs (code_at order)))

    dead_codes : (g : List ℕ) → Below n g → IsDead (at_places p order) t g → IsDead p s (codes_at order g)
    dead_codes g below d =
        let left = without_at s.rest t.rest at.rest g below in
        record {
          part = codes_at order d.part;
          is_part = part_codes (without (codes_at order g) s.rest) (without g t.rest) left d.part d.is_part;
          stuck = cannot_codes d.part (inside_below (without (codes_at order g) s.rest) (without g t.rest) left d.part d.is_part.inside) d.stuck;
        }

    dead_places : (g : List ℕ) → Below n g → IsDead p s (codes_at order g) → IsDead (at_places p order) t g
    dead_places g below d = record {
      part = xs;
      is_part = part_places (without (codes_at order g) s.rest) (without g t.rest) (without_at s.rest t.rest at.rest g below) xs low (subst (IsPart p (without (codes_at order g) s.rest)) (sym same) d.is_part);
      stuck = cannot_places xs low (subst (CannotFill p s) (sym same) d.stuck);
    }
      where
        known : (c : ℕ) → Has d.part c → contains order c ≡ true
        known c h = at.rest.known c (without_in (codes_at order g) s.rest c (d.is_part.inside c (has_member d.part c h)))

        xs : List ℕ
        xs = map (place order) d.part

        low : Below n xs
        low = places_inside order d.part known

        same : codes_at order xs ≡ d.part
        same = codes_back order d.part known

    fits_codes : (format : Format) (g : List ℕ) → Below n g → Fits format (at_places p order) t g → Fits format p s (codes_at order g)
    fits_codes format g below f = record {
      lawful = record {
        once = once_codes g below f.lawful.once;
        listed = λ c e. let r = code_place order once g below c e in in_order c (subst (λ z. contains order z ≡ true) r.2 (has_member order (code_at order (place order c)) (has_get order (place order c) 0 r.0)));
        connected = connected_codes p order once g below f.lawful.connected;
        seats = f.lawful.seats;
        suits = suits_codes p order g f.lawful.seats f.lawful.suits;
      };
      inside = λ c e.
          let r = code_place order once g below c e in
          let o = f.inside (place order c) r.1 in
          is_open s (length (codes_at order g)) c
          (ap s.rest (sym r.2) ∙ (sym (at.rest.same (place order c) r.0) ∙ open_rest t (length g) (place order c) o))
          (omega (arith, open_least t (length g) (place order c) o, at.least (place order c) r.0, ap s.least r.2, length-map g (code_at order)));
      kept = left format f.kept;
    }
      where
        in_order : (c : ℕ) → contains order c ≡ true → contains p.counties c ≡ true
        in_order c e = digit_true (contains p.counties c) (omega (arith, whole c, often_some c order e))

        left : (format : Format) → IsKept format (at_places p order) t g → IsKept format p s (codes_at order g)
        left Plain k = tt
        left Wide k = λ d. k (dead_places g below d)

    fits_places : (format : Format) (g : List ℕ) → Below n g → Fits format p s (codes_at order g) → Fits format (at_places p order) t g
    fits_places format g below f = record {
      lawful = record {
        once = once_places g below f.lawful.once;
        listed = λ i e. member_from_often i (places_below n) (omega (arith, often_below n i (below i (member_has g i e))));
        connected = connected_places p order once g below f.lawful.connected;
        seats = f.lawful.seats;
        suits = suits_places p order g f.lawful.seats f.lawful.suits;
      };
      inside = λ i e.
          let l = below i (member_has g i e) in
          let o = f.inside (code_at order i) (member_code order once g below i l ∙ e) in
          is_open t (length g) i
          (at.rest.same i l ∙ open_rest s (length (codes_at order g)) (code_at order i) o)
          (omega (arith, open_least s (length (codes_at order g)) (code_at order i) o, at.least i l, length-map g (code_at order)));
      kept = left format f.kept;
    }
      where
        left : (format : Format) → IsKept format p s (codes_at order g) → IsKept format (at_places p order) t g
        left Plain k = tt
        left Wide k = λ d. k (dead_codes g below d)

module _ (p : Problem) (round : Round) (whole : IsOrder p round.order) (s t : State) (at : IsStateAt round.order s t) where
  -- a list of groups by places has all that there are by codes
  to_places : (h : List ℕ) → Fits round.format p s h → filter (contains h) round.order ≡ h → (g : List ℕ) × (codes_at round.order g ≡ h) × Below (length round.order) g × Fits round.format (at_places p round.order) t g × (filter (contains g) (places_below (length round.order)) ≡ g)
  to_places h f ordered =
      let same = codes_for p round.order (order_once p round.order whole) h ordered in
      let kept = places_ordered (length round.order) (λ i. contains h (code_at round.order i)) in
      let g = places_for p round.order (order_once p round.order whole) h in
      let below = below_ordered (length round.order) g kept in
      (g, same, below, fits_places p round.order whole s t at round.format g below (subst (Fits round.format p s) (sym same) f), kept)

  size_same : (g : List ℕ) → length (codes_at round.order g) ≡ length g
  size_same g = length-map g (code_at round.order)

  groups_at_codes : (i j : ℕ) (groups : List (List ℕ)) → i < length round.order → AreGroupsAt (at_places p round.order) (round_at round) t i j groups → AreGroupsAt p round s (code_at round.order i) j (map (codes_at round.order) groups)
  groups_at_codes i j groups l are = record {
    each = λ h. (there h, back h);
    sorted = codes_pairs round.order (order_once p round.order whole) (IsBefore (places_below (length round.order))) (IsBefore round.order) groups low (before_codes round.order (order_once p round.order whole)) are.sorted;
  }
    where
      low : (g : List ℕ) → Contains groups g → Below (length round.order) g
      low g c = let x : IsGroupAt (at_places p round.order) (round_at round) t i j g = (are.each g).0 c in below_ordered (length round.order) g x.in_order

      one : (g : List ℕ) → IsGroupAt (at_places p round.order) (round_at round) t i j g → IsGroupAt p round s (code_at round.order i) j (codes_at round.order g)
      one g x =
          let below = below_ordered (length round.order) g x.in_order in
          record {
            fits = fits_codes p round.order whole s t at round.format g below x.fits;
            in_order = ordered_codes p round.order (order_once p round.order whole) g x.in_order;
            has = member_code round.order (order_once p round.order whole) g below i l ∙ x.has;
            small = omega (arith, x.small, size_same g);
          }

      there : (h : List ℕ) → Contains (map (codes_at round.order) groups) h → IsGroupAt p round s (code_at round.order i) j h
      there h c =
          let r : (g : List ℕ) × Has groups g × (codes_at round.order g ≡ h) = has_mapped (codes_at round.order) groups h (has_from_contains (map (codes_at round.order) groups) h c) in
          subst (IsGroupAt p round s (code_at round.order i) j) r.2 (one r.0 ((are.each r.0).0 (contains_from_has groups r.0 r.1)))

      back : (h : List ℕ) → IsGroupAt p round s (code_at round.order i) j h → Contains (map (codes_at round.order) groups) h
      back h x =
          let r = to_places h x.fits x.in_order in
          let g : IsGroupAt (at_places p round.order) (round_at round) t i j r.0 = record {
            fits = r.3;
            in_order = r.4;
            has = sym (member_code round.order (order_once p round.order whole) r.0 r.2 i l) ∙ (ap (λ z. contains z (code_at round.order i)) r.1 ∙ x.has);
            small = omega (arith, x.small, size_same r.0, ap length r.1);
          } in
          contains_from_has (map (codes_at round.order) groups) h (subst (Has (map (codes_at round.order) groups)) r.1 (mapped_has (codes_at round.order) groups r.0 (has_from_contains groups r.0 ((are.each r.0).1 g))))

  groups_of_codes : (i : ℕ) (groups : List (List ℕ)) → AreGroupsOf (at_places p round.order) (round_at round) t i groups → AreGroupsOf p round s i (map (codes_at round.order) groups)
  groups_of_codes i groups are = record {
    each = λ h. (there h, back h);
    sorted = codes_pairs round.order (order_once p round.order whole) (IsBefore (places_below (length round.order))) (IsBefore round.order) groups low (before_codes round.order (order_once p round.order whole)) are.sorted;
  }
    where
      low : (g : List ℕ) → Contains groups g → Below (length round.order) g
      low g c = let x : IsGroupOf (at_places p round.order) (round_at round) t i g = (are.each g).0 c in below_ordered (length round.order) g x.in_order

      one : (g : List ℕ) → IsGroupOf (at_places p round.order) (round_at round) t i g → IsGroupOf p round s i (codes_at round.order g)
      one g x = record {
        fits = fits_codes p round.order whole s t at round.format g (below_ordered (length round.order) g x.in_order) x.fits;
        in_order = ordered_codes p round.order (order_once p round.order whole) g x.in_order;
        size = size_same g ∙ x.size;
      }

      there : (h : List ℕ) → Contains (map (codes_at round.order) groups) h → IsGroupOf p round s i h
      there h c =
          let r : (g : List ℕ) × Has groups g × (codes_at round.order g ≡ h) = has_mapped (codes_at round.order) groups h (has_from_contains (map (codes_at round.order) groups) h c) in
          subst (IsGroupOf p round s i) r.2 (one r.0 ((are.each r.0).0 (contains_from_has groups r.0 r.1)))

      back : (h : List ℕ) → IsGroupOf p round s i h → Contains (map (codes_at round.order) groups) h
      back h x =
          let r = to_places h x.fits x.in_order in
          let g : IsGroupOf (at_places p round.order) (round_at round) t i r.0 = record { fits = r.3; in_order = r.4; size = sym (size_same r.0) ∙ (ap length r.1 ∙ x.size) } in
          contains_from_has (map (codes_at round.order) groups) h (subst (Has (map (codes_at round.order) groups)) r.1 (mapped_has (codes_at round.order) groups r.0 (has_from_contains groups r.0 ((are.each r.0).1 g))))

pub places_serve : PlacesServe
places_serve = record {
  kept = λ p order region places whole at. kept_codes p order whole region places at;
  sums = λ p order region places f is whole at. sums_codes p order whole region places at f is;
  part = λ p order region places xs whole at a. part_codes p order whole region places at xs a;
  parts = λ p order region places parts whole at are. parts_codes p order whole region places at parts are;
  cannot_fill = λ p order s t xs whole at below. (cannot_codes p order whole s t at xs (λ i h. below i (has_member xs i h)), cannot_places p order whole s t at xs (λ i h. below i (has_member xs i h)));
  fits = λ p round s t g whole at below. (fits_codes p round.order whole s t at round.format g (λ i h. below i (has_member g i h)), fits_places p round.order whole s t at round.format g (λ i h. below i (has_member g i h)));
  groups_at = λ p round s t i j groups whole at l are. groups_at_codes p round whole s t at i j groups l are;
  groups_of_size = λ p round s t i groups whole at are. groups_of_codes p round whole s t at i groups are;
}
