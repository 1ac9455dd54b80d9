-- Lists with the same codes, each equally often.
use Rattle.std.proofs.Common.{◌≡◌, ℕ, ◌≤◌, Bool, true, false, cond, ◌==◌, List, [], ◌∷◌, filter, length, refl, sym, ap, ◌∙◌, subst, arith}
use Rattle.std.proofs.lemmas.Bool.{eqb-true, false≢true}
use Rattle.grouping_laws.specs.Sets.{indicator, count, contains, Inside, SameSet}
use Rattle.grouping_laws.specs.Problem.{Problem, Suits, Connected, HasBorder, LawfulGroup}
use Rattle.std.proofs.lemmas.List.Elements.{filter_agree}
use Rattle.grouping_laws.specs.GroupsFrom.{BeginsWith, IsGroupFrom}
use Rattle.place_sets.proofs.Sums.{often_none, often_some, member_from_often, total_alike, total_ones}
use Rattle.grouping_laws.proofs.Sizes.{count-filter}
use Rattle.grouping_laws.proofs.Digits.{true_digit}

-- two lists in which each code stands equally often
abbrev pub Alike : List ℕ → List ℕ → Type 0
Alike xs ys = (x : ℕ) → count x xs ≡ count x ys

pub length_alike : (xs ys : List ℕ) → Alike xs ys → length xs ≡ length ys
length_alike xs ys h = sym (total_ones xs) ∙ (total_alike (λ x. 1) xs ys h ∙ total_ones ys)

pub member_alike : (xs ys : List ℕ) → Alike xs ys → (x : ℕ) → contains xs x ≡ true → contains ys x ≡ true
member_alike xs ys h x e = member_from_often x ys (omega (arith, h x, often_some x xs e))

pub member_same : (xs ys : List ℕ) → Alike xs ys → (x : ℕ) → contains xs x ≡ contains ys x
member_same xs ys h x = go (contains xs x) refl
  where
    go : (b : Bool) → contains xs x ≡ b → b ≡ contains ys x
    go true e = sym (member_alike xs ys h x e)
    go false e = other (contains ys x) refl
      where
        other : (d : Bool) → contains ys x ≡ d → false ≡ d
        other false k = refl
        other true k = absurd (omega (arith, h x, often_none x xs e, often_some x ys k))

pub connected_alike : (p : Problem) (xs ys : List ℕ) → Alike xs ys → Connected p xs → Connected p ys
connected_alike p xs ys h c = record {
  some_county = rw (← (length_alike xs ys h)) c.some_county;
  joined = λ part q.
      let r : HasBorder p xs part = c.joined part (q.0, q.1, back q.0 q.2, back q.1 q.3, q.4, q.5) in
      (r.0, r.1, there r.0 r.2, there r.1 r.3, r.4, r.5, r.6);
}
  where
    there : (x : ℕ) → contains xs x ≡ true → contains ys x ≡ true
    there = member_alike xs ys h

    back : (x : ℕ) → contains ys x ≡ true → contains xs x ≡ true
    back = member_alike ys xs (λ x. sym (h x))

pub lawful_alike : (p : Problem) (xs ys : List ℕ) → Alike xs ys → LawfulGroup p xs → LawfulGroup p ys
lawful_alike p xs ys h l = record {
  once = λ x. omega (arith, h x, l.once x);
  listed = λ x e. l.listed x (member_alike ys xs (λ y. sym (h y)) x e);
  connected = connected_alike p xs ys h l.connected;
  seats = l.seats;
  suits = subst (λ z. Suits p z l.seats) (total_alike p.people xs ys h) l.suits;
}

pub count-filter_none : (c : ℕ) (region : ℕ → Bool) (xs : List ℕ) → region c ≡ false → count c (filter region xs) ≡ 0
count-filter_none c region [] h = refl
count-filter_none c region (x ∷ xs) h = go (region x) refl (x == c) refl (count-filter_none c region xs h)
  where
    go : (b : Bool) → region x ≡ b → (d : Bool) → (x == c) ≡ d → count c (filter region xs) ≡ 0 → count c (cond b (x ∷ filter region xs) (filter region xs)) ≡ 0
    go true e true f k = absurd (false≢true (sym h ∙ ap region (sym (eqb-true x c f)) ∙ e))
    go true e false f k = omega (arith, k, ap indicator f)
    go false e d f k = k

-- the codes of a set in the order's order
pub in_order_alike : (order counties codes : List ℕ) → ((x : ℕ) → count x order ≡ indicator (contains counties x)) → ((x : ℕ) → count x codes ≤ 1) → ((x : ℕ) → contains codes x ≡ true → contains counties x ≡ true) → Alike codes (filter (contains codes) order)
in_order_alike order counties codes whole once known x = go (contains codes x) refl
  where
    go : (b : Bool) → contains codes x ≡ b → count x codes ≡ count x (filter (contains codes) order)
    go true e = omega (arith, count-filter x (contains codes) order e, whole x, true_digit (contains counties x) (known x e), often_some x codes e, once x)
    go false e = omega (arith, count-filter_none x (contains codes) order e, often_none x codes e)

pub head_same : (x y : ℕ) (xs ys : List ℕ) → x ∷ xs ≡ y ∷ ys → x ≡ y
head_same x y xs ys e = cc

-- a set inside a region that has the region's first county begins with it
pub begins : (region part : ℕ → Bool) (c : ℕ) (order : List ℕ) → ((x : ℕ) → part x ≡ true → region x ≡ true) → part c ≡ true → BeginsWith c (filter region order) → BeginsWith c (filter part order)
begins region part c [] inside has b = b
begins region part c (x ∷ xs) inside has b = go (region x) refl (part x) refl b (begins region part c xs inside has)
  where
    go : (d : Bool) → region x ≡ d → (e : Bool) → part x ≡ e → BeginsWith c (cond d (x ∷ filter region xs) (filter region xs)) → (BeginsWith c (filter region xs) → BeginsWith c (filter part xs)) → BeginsWith c (cond e (x ∷ filter part xs) (filter part xs))
    go true k true l h next = (filter part xs, ap (λ z. z ∷ filter part xs) (head_same x c (filter region xs) h.0 h.1))
    go true k false l h next = absurd (false≢true (sym l ∙ (ap part (head_same x c (filter region xs) h.0 h.1) ∙ has)))
    go false k true l h next = absurd (false≢true (sym k ∙ inside x l))
    go false k false l h next = next h

pub group_from : (p : Problem) (order : List ℕ) (limit county : ℕ) (region : ℕ → Bool) (codes : List ℕ)
    → ((x : ℕ) → count x order ≡ indicator (contains p.counties x)) → BeginsWith county (filter region order)
    → LawfulGroup p codes → Inside region codes → contains codes county ≡ true → length codes ≤ limit
    → IsGroupFrom p order limit county region (filter (contains codes) order)
group_from p order limit county region codes whole first lawful inside has small = record {
  lawful = lawful_alike p codes (filter (contains codes) order) same lawful;
  in_order = filter_agree (contains (filter (contains codes) order)) (contains codes) (λ x. sym (member_same codes (filter (contains codes) order) same x)) order;
  first = begins region (contains codes) county order inside has first;
  small = omega (arith, length_alike codes (filter (contains codes) order) same);
  inside = λ x e. inside x (member_alike (filter (contains codes) order) codes (λ y. sym (same y)) x e);
}
  where
    same : Alike codes (filter (contains codes) order)
    same = in_order_alike order p.counties codes whole lawful.once lawful.listed

-- sets with the same codes, each once
-- sets that have each code at most once are alike if they have the same codes
pub alike_from_same : (xs ys : List ℕ) → ((c : ℕ) → count c xs ≤ 1) → ((c : ℕ) → count c ys ≤ 1) → SameSet xs ys → Alike xs ys
alike_from_same xs ys h k same c = go (contains xs c) refl
  where
    go : (b : Bool) → contains xs c ≡ b → count c xs ≡ count c ys
    go true e = omega (arith, h c, k c, often_some c xs e, often_some c ys (sym (same c) ∙ e))
    go false e = omega (arith, often_none c xs e, often_none c ys (sym (same c) ∙ e))
