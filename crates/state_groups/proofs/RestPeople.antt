-- A live group leaves connected parts of the rest, and the people of each suit some number of seats. The windows of
-- sets apart add up. So all people that the group leaves suit some number of seats, if any place is left.
use Rattle.std.proofs.Common.{◌≡◌, ℕ, ◌+◌, ◌-◌, ◌≤◌, ◌<◌, ◌==◌, Bool, true, false, ◌||◌, ◌&&◌, not, nat_le, List, [], ◌∷◌, filter, length, refl, sym, ap, ◌∙◌, subst, arith, inl, ⊎_elim, Some}
use Rattle.std.proofs.lemmas.Bool.{and_parts}
use Rattle.place_sets.specs.PlaceSets.{places_of}
use Rattle.place_sets.proofs.Sums.{total_alike, total_ones}
use Rattle.place_sets.proofs.PlaceSets.{total_union, often_in, often_out}
use Rattle.grouping_laws.specs.Sets.{indicator, sum_by, count, contains, Inside}
use Rattle.grouping_laws.specs.Places.{places_below}
use Rattle.grouping_laws.specs.Problem.{Problem, Suits, people_of, IsProblem}
use Rattle.grouping_laws.specs.Parts.{IsPart, AreParts}
use Rattle.grouping_laws.specs.Ranges.{SuitAll}
use Rattle.grouping_laws.proofs.Elements.{Has, has_all}
use Rattle.grouping_laws.proofs.Sizes.{flat, every, sum_by-flat}
use Rattle.certificate_laws.specs.Regions.{without}
use Rattle.certificate_laws.specs.State.{State}
use Rattle.certificate_laws.specs.Fitting.{IsLive, IsKept, Fits}
use Rattle.certificate_data.specs.declared.format.Format.{Format}
use Rattle.certificate_laws.proofs.Narrowing.{all_suit}
use Rattle.certificate_laws.proofs.Regions.{parts_exist}
use Rattle.certificate_laws.proofs.WithoutGroup.{without_in}
use Rattle.state_groups.proofs.FitLemmas.{below_listed}
use Rattle.state_groups.specs.People.{HasSeatWindow, AreWindows, IsDivided}

-- a sum over the parts of a region is that over the region
parts_total : (f : ℕ → ℕ) (p : Problem) (n : ℕ) (region : ℕ → Bool) (parts : List (List ℕ)) → ((x : ℕ) → region x ≡ true → x < n) → AreParts p region parts → sum_by (λ g. sum_by f g) parts ≡ sum_by f (places_of n region)
parts_total f p n region parts below are = sym (sum_by-flat f every parts) ∙ total_alike f (flat every parts) (places_of n region) each
  where
    each : (c : ℕ) → count c (flat every parts) ≡ count c (places_of n region)
    each c = sum_by-flat (λ x. indicator (x == c)) every parts ∙ (are.once c ∙ go (region c) refl)
      where
        go : (b : Bool) → region c ≡ b → indicator b ≡ count c (places_of n region)
        go true e = sym (often_in n c region (below c e) e)
        go false e = sym (often_out n c region e)

-- the windows of two sets add up
suits_both : (p : Problem) (a b j k : ℕ) → Suits p a j → Suits p b k → Suits p (a + b) (j + k)
suits_both p a b j k s t = record {
  some_seat = omega (arith, s.some_seat);
  enough = omega (arith, s.enough, t.enough);
  not_more = omega (arith, s.not_more, t.not_more);
}

-- parts that each suit some number of seats suit some number together
parts_suit : (p : Problem) (parts : List (List ℕ)) (ks : List ℕ) → SuitAll p parts ks → 1 ≤ length parts → (k : ℕ) × Suits p (sum_by (λ g. people_of p g) parts) k
parts_suit p [] ks h l = absurd (omega (arith, l))
parts_suit p (g ∷ parts) [] h l = absurd h
parts_suit p (g ∷ []) (k ∷ ks) h l = let e : people_of p g + 0 ≡ people_of p g = omega arith in (k, subst (λ z. Suits p z k) (sym e) h.0)
parts_suit p (g ∷ x ∷ parts) (k ∷ ks) h l = let r = parts_suit p (x ∷ parts) ks h.1 (omega arith) in (k + r.0, suits_both p (people_of p g) (sum_by (λ z. people_of p z) (x ∷ parts)) k r.0 h.0 r.1)

module _ (p : Problem) (is : IsProblem p) (n : ℕ) (all : p.counties ≡ places_below n) (s : State) (below : (x : ℕ) → s.rest x ≡ true → x < n) (g : List ℕ) (in_order : filter (contains g) (places_below n) ≡ g) (inside : Inside s.rest g) where
  -- what the group leaves of the rest
  abbrev left : ℕ → Bool
  left = without g s.rest

  left_below : (x : ℕ) → left x ≡ true → x < n
  left_below x e = below x (without_in g s.rest x e)

  both : (x : ℕ) → s.rest x ≡ (contains g x || left x)
  both x = go (contains g x) refl
    where
      one : (b : Bool) → b ≡ (b && true)
      one true = refl
      one false = refl

      go : (b : Bool) → contains g x ≡ b → s.rest x ≡ (b || (s.rest x && not b))
      go true e = inside x e
      go false e = one (s.rest x)

  apart : (x : ℕ) → contains g x ≡ true → left x ≡ false
  apart x e = ap (λ z. s.rest x && not z) e ∙ none (s.rest x)
    where
      none : (b : Bool) → (b && false) ≡ false
      none true = refl
      none false = refl

  -- a sum over the rest is that over the group and over what it leaves
  pub rest_split : (f : ℕ → ℕ) → sum_by f (places_of n s.rest) ≡ sum_by f g + sum_by f (places_of n left)
  rest_split f = omega (arith, total_union f n (contains g) left s.rest apart both, ap (sum_by f) in_order)

  pub left_suits : IsLive p s g → length g < length (places_of n s.rest) → (k : ℕ) × Suits p (people_of p (places_of n s.rest) - people_of p g) k
  left_suits live few = ⊎_elim suit dead (all_suit p is parts.0)
    where
      parts : (parts : List (List ℕ)) × AreParts p left parts
      parts = parts_exist p is left (λ x e. subst (λ z. contains z x ≡ true) (sym all) (below_listed n x (left_below x e)))

      people : sum_by (λ z. people_of p z) parts.0 ≡ people_of p (places_of n s.rest) - people_of p g
      people = omega (arith, parts_total p.people p n left parts.0 left_below parts.1, rest_split p.people)

      some : 1 ≤ length parts.0
      some = go parts.0 (parts_total (λ x. 1) p n left parts.0 left_below parts.1)
        where
          go : (xs : List (List ℕ)) → sum_by (λ z. sum_by (λ x. 1) z) xs ≡ sum_by (λ x. 1) (places_of n left) → 1 ≤ length xs
          go [] e = absurd (omega (arith, e, few, rest_split (λ x. 1), total_ones g, total_ones (places_of n s.rest)))
          go (x ∷ xs) e = omega arith

      suit : (ks : List ℕ) × SuitAll p parts.0 ks → (k : ℕ) × Suits p (people_of p (places_of n s.rest) - people_of p g) k
      suit r = let t = parts_suit p parts.0 r.0 r.1 some in (t.0, subst (λ z. Suits p z t.0) people t.1)

      dead : (xs : List ℕ) × Has parts.0 xs × ((k : ℕ) → Suits p (people_of p xs) k → ⊥) → (k : ℕ) × Suits p (people_of p (places_of n s.rest) - people_of p g) k
      dead r = absurd (live (record { part = r.0; is_part = has_all (IsPart p left) parts.0 parts.1.each r.0 r.1; stuck = inl r.2 }))

  module _ (format : Format) (fits : Fits format p s g) (windows : List (ℕ × ℕ)) (are : AreWindows p (people_of p (places_of n s.rest)) windows) where
    -- the people of a group that fits are in a window
    pub group_window : HasSeatWindow windows (people_of p g)
    group_window = are (people_of p g) fits.lawful.seats (omega (arith, rest_split p.people)) fits.lawful.suits

    -- and so is what it leaves, in a wide format where it can't have all of the rest
    pub left_window : (limit all : ℕ) → length g ≤ limit → IsDivided format p n limit s.rest (Some all) → HasSeatWindow windows (all - people_of p g)
    left_window limit all small d =
        let live : IsLive p s g = subst (λ z. IsKept z p s g) d.0 fits.kept in
        let r = left_suits live (omega (arith, small, d.2)) in
        subst (λ z. HasSeatWindow windows (z - people_of p g)) (sym d.1) (are (people_of p (places_of n s.rest) - people_of p g) r.0 (omega arith) r.1)

-- a group that fits is in the rest
pub fits_rest : (format : Format) (p : Problem) (s : State) (g : List ℕ) → Fits format p s g → Inside s.rest g
fits_rest format p s g fits c m = (and_parts (s.rest c) (nat_le (s.least c) (length g)) (fits.inside c m)).0
