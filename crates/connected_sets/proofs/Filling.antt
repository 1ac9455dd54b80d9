-- A part of a region that grows around a place.
use Rattle.std.proofs.Common.{◌≡◌, ℕ, zero, suc, ◌+◌, ◌≤◌, ◌<◌, Bool, true, false, ◌||◌, ◌&&◌, not, ◌==◌, length, refl, sym, ap, ◌∙◌, arith}
use Rattle.std.proofs.lemmas.Bool.{and_parts, and_from, false≢true, eqb-true, eq-eqb}
use Rattle.std.proofs.lemmas.List.{length-map}
use Rattle.place_sets.specs.Lists.{places_below}
use Rattle.place_sets.specs.PlaceSets.{places_of}
use Rattle.place_sets.proofs.Sums.{total_ones}
use Rattle.grouping_laws.specs.Sets.{contains}
use Rattle.grouping_laws.specs.Problem.{Problem}
use Rattle.grouping_laws.specs.Parts.{IsPart}
use Rattle.connected_laws.specs.Growing.{IsGrowth, IsCandidate, IsMove, IsFront, IsStart}
use Rattle.connected_laws.proofs.Growing.{grown_growth}
use Rattle.connected_laws.proofs.Fronts.{grown_front, empty_front}
use Rattle.connected_laws.proofs.PlaceLists.{often_placed, placed, placed_test}
use Rattle.connected_laws.proofs.Starts.{start_growth}
use Rattle.connected_laws.specs.Growing.{later}
use Rattle.connected_laws.proofs.StartSets.{starts_as}
use Rattle.place_sets.proofs.PlaceSums.{total_all}

length_below : (n : ℕ) → length (places_below n) ≡ n
length_below zero = refl
length_below (suc n) = ap suc (length-map (places_below n) suc ∙ length_below n)

pub few : (n : ℕ) (t : ℕ → Bool) → length (places_of n t) ≤ n
few n t = omega (arith, total_all (λ x. 1) n t, total_ones (places_of n t), total_ones (places_below n), length_below n)

-- what the loop keeps: the part is connected, the front is what may join it, the rest is the region without it
pub record IsFilled (p : Problem) (n : ℕ) (region part rest front : ℕ → Bool) : Type 0 where
  pub growth : IsGrowth p n (n + 1) part rest
  pub fringe : IsFront p part rest front
  pub left : (x : ℕ) → rest x ≡ (region x && not (part x))
  pub inside : (x : ℕ) → part x ≡ true → region x ≡ true

-- the place alone
pub filled_start : (p : Problem) (n at : ℕ) (region part rest row front : ℕ → Bool) → ((x : ℕ) → region x ≡ true → x < n) → region at ≡ true → ((x : ℕ) → part x ≡ (x == at)) → ((x : ℕ) → rest x ≡ (region x && not (x == at)))
    → ((y : ℕ) → y < n → row y ≡ p.adjacent at y) → ((x : ℕ) → front x ≡ (row x && rest x)) → IsFilled p n region part rest front
filled_start p n at region part rest row front below there s r a b = record {
  growth = record { connected = g.connected; small = g.small; below = g.below; free_below = free_below; apart = apart };
  fringe = record { each = each; all = all };
  left = λ x. r x ∙ ap (λ z. region x && not z) (sym (s x));
  inside = λ x e. ap region (is_at x e) ∙ there;
}
  where
    is_at : (x : ℕ) → part x ≡ true → x ≡ at
    is_at x e = eqb-true x at (sym (s x) ∙ e)

    h : IsStart n at part (later n at)
    h = starts_as n at part (later n at) (below at there) s (λ x. refl)

    g : IsGrowth p n (n + 1) part (later n at)
    g = start_growth p n (n + 1) at part (later n at) (omega arith) h

    free_below : (x : ℕ) → rest x ≡ true → x < n
    free_below x e = below x (and_parts (region x) (not (x == at)) (sym (r x) ∙ e)).0

    apart : (x : ℕ) → part x ≡ true → rest x ≡ false
    apart x e = r x ∙ (ap (λ z. region x && not z) (sym (s x) ∙ e) ∙ none (region x))
      where
        none : (c : Bool) → (c && false) ≡ false
        none true = refl
        none false = refl

    each : (x : ℕ) → front x ≡ true → IsCandidate p part rest x
    each x e =
        let q = and_parts (row x) (rest x) (sym (b x) ∙ e) in
        record { is_free = q.1; from = at; from_set = s at ∙ eq-eqb at at refl; touch = sym (a x (free_below x q.1)) ∙ q.0 }

    all : (x y : ℕ) → part x ≡ true → rest y ≡ true → p.adjacent x y ≡ true → front y ≡ true
    all x y e k t = b y ∙ and_from (row y) (rest y) (a y (free_below y k) ∙ (ap (λ z. p.adjacent z y) (sym (is_at x e)) ∙ t)) k

-- a place of the front joins
pub filled_step : (p : Problem) (n : ℕ) (region part rest front more less row beside : ℕ → Bool) (c : ℕ) → ((x y : ℕ) → p.adjacent x y ≡ true → p.adjacent y x ≡ true) → IsFilled p n region part rest front → front c ≡ true → IsMove part rest more less c
    → ((y : ℕ) → y < n → row y ≡ p.adjacent c y) → ((x : ℕ) → beside x ≡ ((front x || row x) && less x)) → IsFilled p n region more less beside
filled_step p n region part rest front more less row beside c symmetric h is m a b =
    let candidate = h.fringe.each c is in
    let small : length (places_of n part) < n + 1 = omega (arith, few n part) in
    record {
      growth = grown_growth p n (n + 1) part rest more less c symmetric h.growth candidate small m;
      fringe = grown_front p n (n + 1) part rest front more less row beside c h.growth candidate.is_free m h.fringe a b;
      left = λ x. m.without x ∙ (ap (λ z. z && not (x == c)) (h.left x) ∙ (both (region x) (part x) (x == c) ∙ ap (λ z. region x && not z) (sym (m.with x))));
      inside = λ x e. joined x (part x) refl (x == c) refl (sym (m.with x) ∙ e);
    }
  where
    both : (r s t : Bool) → ((r && not s) && not t) ≡ (r && not (s || t))
    both true true t = refl
    both true false t = refl
    both false s t = refl

    joined : (x : ℕ) → (s : Bool) → part x ≡ s → (t : Bool) → (x == c) ≡ t → (s || t) ≡ true → region x ≡ true
    joined x true i t j e = h.inside x i
    joined x false i true j e = ap region (eqb-true x c j) ∙ (and_parts (region c) (not (part c)) (sym (h.left c) ∙ (h.fringe.each c is).is_free)).0
    joined x false i false j e = absurd (false≢true e)

-- and with no such place the part is whole
pub filled_part : (p : Problem) (n : ℕ) (region part rest front : ℕ → Bool) → IsFilled p n region part rest front → ((x : ℕ) → front x ≡ false) → IsPart p region (places_of n part)
filled_part p n region part rest front h none = record {
  once = λ c. often_placed n c part;
  connected = h.growth.connected;
  inside = λ c e. h.inside c (placed_test n c part e);
  whole = λ x y e k t. whole x y (placed_test n x part e) k t (part y) refl;
}
  where
    whole : (x y : ℕ) → part x ≡ true → region y ≡ true → p.adjacent x y ≡ true → (s : Bool) → part y ≡ s → contains (places_of n part) y ≡ true
    whole x y e k t true i = placed n y part (h.growth.below y i) i
    whole x y e k t false i = absurd (false≢true (sym (empty_front p part rest front h.fringe none x y e (h.left y ∙ and_from (region y) (not (part y)) k (ap not i))) ∙ t))
