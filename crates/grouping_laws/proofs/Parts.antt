-- A connected part of a region is a union of the groups that fill the region.
use Rattle.std.proofs.Common.{◌≡◌, ℕ, ◌+◌, ◌≤◌, Bool, true, false, cond, not, ◌||◌, ◌==◌, List, [], ◌∷◌, filter, length, refl, sym, ap, ◌∙◌, subst, arith, inl, inr}
use Rattle.std.proofs.lemmas.Bool.{eqb-true, eq-eqb, false≢true}
use Rattle.grouping_laws.specs.Sets.{indicator, sum_by, count, count_in, contains, Inside}
use Rattle.grouping_laws.specs.Problem.{Problem, Suits, people_of, Connected, HasBorder}
use Rattle.county_codes.specs.declared.group.Group.{Group}
use Rattle.grouping_laws.specs.Grouping.{Grouping, sets_of, seats_of}
use Rattle.grouping_laws.specs.Parts.{IsPart}
use Rattle.place_sets.proofs.Sums.{sum_by-map, total_alike, often_none, often_some}
use Rattle.grouping_laws.proofs.Elements.{Has, has-map}
use Rattle.grouping_laws.proofs.Sizes.{flat, every, sum_by-flat}
use Rattle.grouping_laws.proofs.Windows.{suits_sum}

-- whether the lists have a code in common
abbrev pub hits : List ℕ → List ℕ → Bool
hits xs [] = false
hits xs (y ∷ ys) = contains xs y || hits xs ys

pub member_head : (y : ℕ) (ys : List ℕ) → contains (y ∷ ys) y ≡ true
member_head y ys = rw (eq-eqb y y refl) refl

pub member_tail : (y : ℕ) (ys : List ℕ) (z : ℕ) → contains ys z ≡ true → contains (y ∷ ys) z ≡ true
member_tail y ys z e = go (y == z)
  where
    go : (b : Bool) → (b || contains ys z) ≡ true
    go true = refl
    go false = e

pub hit : (xs ys : List ℕ) → hits xs ys ≡ true → (y : ℕ) × (contains ys y ≡ true) × (contains xs y ≡ true)
hit xs [] h = absurd (false≢true h)
hit xs (y ∷ ys) h = go (contains xs y) refl h (hit xs ys)
  where
    go : (b : Bool) → contains xs y ≡ b → (b || hits xs ys) ≡ true → (hits xs ys ≡ true → (z : ℕ) × (contains ys z ≡ true) × (contains xs z ≡ true)) → (z : ℕ) × (contains (y ∷ ys) z ≡ true) × (contains xs z ≡ true)
    go true e o next = (y, member_head y ys, e)
    go false e o next = let r = next o in (r.0, member_tail y ys r.0 r.1, r.2)

pub has_hit : (xs ys : List ℕ) (y : ℕ) → contains ys y ≡ true → contains xs y ≡ true → hits xs ys ≡ true
has_hit xs [] y h e = absurd (false≢true h)
has_hit xs (z ∷ ys) y h e = go (z == y) refl (contains xs z) refl h (has_hit xs ys y)
  where
    go : (b : Bool) → (z == y) ≡ b → (d : Bool) → contains xs z ≡ d → (b || contains ys y) ≡ true → (contains ys y ≡ true → contains xs y ≡ true → hits xs ys ≡ true) → (d || hits xs ys) ≡ true
    go b k true l o next = refl
    go true k false l o next = absurd (false≢true (sym l ∙ (ap (contains xs) (eqb-true z y k) ∙ e)))
    go false k false l o next = next o e

pub has-filter : {X : Type 0} (q : X → Bool) (xs : List X) (y : X) → Has (filter q xs) y → Has xs y × (q y ≡ true)
has-filter q [] y h = absurd h
has-filter {X = X} q (x ∷ xs) y h = go (q x) refl h (has-filter q xs y)
  where
    go : (b : Bool) → q x ≡ b → Has (cond b (x ∷ filter q xs) (filter q xs)) y → (Has (filter q xs) y → Has xs y × (q y ≡ true)) → Has (x ∷ xs) y × (q y ≡ true)
    go true e (inl k) next = (inl k, ap q (sym k) ∙ e)
    go true e (inr k) next = let r = next k in (inr r.0, r.1)
    go false e k next = let r = next k in (inr r.0, r.1)

pub sum_by-split : {X : Type 0} (f : X → ℕ) (q : X → Bool) (xs : List X) → sum_by f xs ≡ sum_by f (filter q xs) + sum_by f (filter (λ x. not (q x)) xs)
sum_by-split f q [] = refl
sum_by-split {X = X} f q (x ∷ xs) = go (q x) (sum_by-split f q xs)
  where
    go : (b : Bool) → sum_by f xs ≡ sum_by f (filter q xs) + sum_by f (filter (λ x. not (q x)) xs)
        → f x + sum_by f xs ≡ sum_by f (cond b (x ∷ filter q xs) (filter q xs)) + sum_by f (cond (not b) (x ∷ filter (λ x. not (q x)) xs) (filter (λ x. not (q x)) xs))
    go true e = omega (arith, e)
    go false e = omega (arith, e)

pub stands_none : (c : ℕ) (sets : List (List ℕ)) → ((g : List ℕ) → Has sets g → contains g c ≡ true → ⊥) → count_in c sets ≡ 0
stands_none c [] h = refl
stands_none c (g ∷ sets) h = omega (arith, often_none c g (no_member (contains g c) refl), stands_none c sets (λ x i. h x (inr i)))
  where
    no_member : (b : Bool) → contains g c ≡ b → b ≡ false
    no_member true e = absurd (h g (inl refl) e)
    no_member false e = refl

pub has_from_stands : (c : ℕ) (opens : Grouping) → 1 ≤ count_in c (sets_of opens) → (m : Group) × Has opens m × (contains m.codes c ≡ true)
has_from_stands c [] h = absurd (omega arith)
has_from_stands c (m ∷ ms) h = go (contains m.codes c) refl (has_from_stands c ms)
  where
    go : (b : Bool) → contains m.codes c ≡ b → (1 ≤ count_in c (sets_of ms) → (x : Group) × Has ms x × (contains x.codes c ≡ true)) → (x : Group) × Has (m ∷ ms) x × (contains x.codes c ≡ true)
    go true e next = (m, inl refl, e)
    go false e next = let r = next (omega (arith, often_none c m.codes e)) in (r.0, inr r.1, r.2)

-- groups that are connected, suit their seats and lie inside a region
pub record FillRegion (p : Problem) (region : ℕ → Bool) (opens : Grouping) : Type 0 where
  pub inside : (m : Group) → Has opens m → Inside region m.codes
  pub connected : (m : Group) → Has opens m → Connected p m.codes
  pub suits : (m : Group) → Has opens m → Suits p (people_of p m.codes) m.seats

-- a connected group that has a county of a connected part lies inside it
pub within_part : (p : Problem) (region : ℕ → Bool) (xs codes : List ℕ) → IsPart p region xs → Inside region codes → Connected p codes → hits xs codes ≡ true → (y : ℕ) → contains codes y ≡ true → contains xs y ≡ true
within_part p region xs codes part inside connected h y e = go (contains xs y) refl
  where
    go : (b : Bool) → contains xs y ≡ b → b ≡ true
    go true k = refl
    go false k =
        let one = hit xs codes h in
        let border : HasBorder p codes (contains xs) = connected.joined (contains xs) (one.0, y, one.1, e, one.2, k) in
        absurd (false≢true (sym border.5 ∙ part.whole border.0 border.1 border.4 (inside border.1 border.3) border.6))

module _ (p : Problem) (region : ℕ → Bool) (xs : List ℕ) (part : IsPart p region xs) (opens : Grouping) (fill : FillRegion p region opens) where
  abbrev pub inner : Grouping
  inner = filter (λ m. hits xs m.codes) opens

  abbrev pub outer : Grouping
  outer = filter (λ m. not (hits xs m.codes)) opens

  pub inner_inside : (m : Group) → Has inner m → (y : ℕ) → contains m.codes y ≡ true → contains xs y ≡ true
  inner_inside m h =
      let r = has-filter (λ m. hits xs m.codes) opens m h in
      within_part p region xs m.codes part (fill.inside m r.0) (fill.connected m r.0) r.1

  pub stands_inner : (c : ℕ) → contains xs c ≡ false → count_in c (sets_of inner) ≡ 0
  stands_inner c e = stands_none c (sets_of inner) (λ g h k. let r = has-map inner g h in false≢true (sym e ∙ inner_inside r.0 r.1 c (subst (λ z. contains z c ≡ true) (sym r.2) k)))

  pub stands_outer : (c : ℕ) → contains xs c ≡ true → count_in c (sets_of outer) ≡ 0
  stands_outer c e = stands_none c (sets_of outer) (λ g h k.
      let r = has-map outer g h in
      let o = has-filter (λ m. not (hits xs m.codes)) opens r.0 r.1 in
      false≢true (sym (ap not (has_hit xs r.0.codes c (subst (λ z. contains z c ≡ true) (sym r.2) k) e)) ∙ o.1))

  pub stands_split : (c : ℕ) → count_in c (sets_of opens) ≡ count_in c (sets_of inner) + count_in c (sets_of outer)
  stands_split c = omega (arith, sum_by-map (count c) (λ (m : Group). m.codes) opens, sum_by-map (count c) (λ (m : Group). m.codes) inner, sum_by-map (count c) (λ (m : Group). m.codes) outer, sum_by-split (λ (m : Group). count c m.codes) (λ m. hits xs m.codes) opens)

  pub outer_fill : FillRegion p region outer
  outer_fill = record {
    inside = λ m h. fill.inside m (has-filter (λ m. not (hits xs m.codes)) opens m h).0;
    connected = λ m h. fill.connected m (has-filter (λ m. not (hits xs m.codes)) opens m h).0;
    suits = λ m h. fill.suits m (has-filter (λ m. not (hits xs m.codes)) opens m h).0;
  }

  module _ (covered : (c : ℕ) → contains xs c ≡ true → count_in c (sets_of opens) ≡ 1) where
    pub part_alike : (c : ℕ) → count c xs ≡ count_in c (sets_of inner)
    part_alike c = go (contains xs c) refl
      where
        go : (b : Bool) → contains xs c ≡ b → count c xs ≡ count_in c (sets_of inner)
        go true e = omega (arith, stands_outer c e, stands_split c, covered c e, often_some c xs e, part.once c)
        go false e = omega (arith, stands_inner c e, often_none c xs e)

    pub part_people : people_of p xs ≡ sum_by (λ m. people_of p m.codes) inner
    part_people =
        total_alike p.people xs (flat every (sets_of inner)) (λ c. part_alike c ∙ sym (sum_by-flat (λ x. indicator (x == c)) every (sets_of inner)))
        ∙ (sum_by-flat p.people every (sets_of inner) ∙ sum_by-map (λ g. sum_by p.people g) (λ (m : Group). m.codes) inner)

    -- A connected part that is a union of groups suits the sum of their seats.
    pub part_suits : Suits p (people_of p xs) (seats_of inner)
    part_suits = subst (λ z. Suits p z (seats_of inner)) (sym part_people) (go inner refl)
      where
        first_code : (zs : List ℕ) → 1 ≤ length zs → (y : ℕ) × (contains zs y ≡ true)
        first_code [] h = absurd (omega arith)
        first_code (z ∷ zs) h = (z, member_head z zs)

        go : (ms : Grouping) → inner ≡ ms → Suits p (sum_by (λ m. people_of p m.codes) ms) (seats_of ms)
        go [] e = let y = first_code xs part.connected.some_county in absurd (omega (arith, part_alike y.0, often_some y.0 xs y.1, ap (λ z. count_in y.0 (sets_of z)) e))
        go (m ∷ ms) e = suits_sum p m ms (λ x h. fill.suits x (has-filter (λ m. hits xs m.codes) opens x (subst (λ z. Has z x) (sym e) h)).0)
