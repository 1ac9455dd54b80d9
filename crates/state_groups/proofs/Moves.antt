-- Which places a connected set reaches by a number of moves through free places. A connected set that has all of it,
-- and at most as many free places more, has no other free place: while it has a place farther off, each move meets one
-- of its places more.
use Rattle.std.proofs.Common.{◌≡◌, ℕ, ◌+◌, ◌≤◌, ◌==◌, ◌<◌, Bool, true, false, ◌||◌, List, [], ◌∷◌, length, refl, sym, ap, ◌∙◌, subst, arith, inl, inr}
use Rattle.std.specs.Prelude.{◌⊎◌, Option, Some, None, not}
use Rattle.std.specs.Option.{is_some}
use Rattle.std.proofs.lemmas.Bool.{false≢true, cases_lt, or_left, or_right, or_cases, eq-eqb, eqb-true}
use Rattle.place_sets.specs.PlaceSets.{places_of, IsNext}
use Rattle.place_sets.proofs.Sums.{take_out, total_le, total_ones, sum_by-take_out, digit_one}
use Rattle.grouping_laws.specs.Sets.{indicator, sum_by, contains}
use Rattle.grouping_laws.specs.Problem.{Problem, Connected}
use Rattle.connected_laws.specs.Growing.{IsExtension, IsGrowth, IsFront}
use Rattle.connected_laws.proofs.PlaceLists.{placed_test, some_member}
use Rattle.state_groups.proofs.PeopleBounds.{joins_split}

-- a place of a set below the next one, or the next one: it was looked at before, or its row is looked at now
pub first_from : (p : Problem) (set found near : ℕ → Bool) (from next x y : ℕ) → (x < from → found y ≡ true) → (x ≡ next → near y ≡ true) → ((z : ℕ) → from ≤ z → z < next → set z ≡ false) → set x ≡ true → x < next + 1 → (found y || near y) ≡ true
first_from p set found near from next x y old new none e l = go (cases_lt x from) (cases_lt x next)
  where
    go : (x < from) ⊎ (from ≤ x) → (x < next) ⊎ (next ≤ x) → (found y || near y) ≡ true
    go (inl k) r = or_left (found y) (near y) (old k)
    go (inr k) (inl j) = absurd (false≢true (sym (none x k j) ∙ e))
    go (inr k) (inr j) = or_right (found y) (near y) (new (omega (arith, j, l)))

-- no place is next: the set has none
pub none_next : (set : ℕ → Bool) (next : Option ℕ) (none : Bool) → is_some next ≡ not none → none ≡ true → IsNext set 0 next → (y : ℕ) → set y ≡ false
none_next set None none e k h y = h y (omega arith)
none_next set (Some c) none e k h y = absurd (false≢true (sym (ap not k) ∙ sym e))

-- how many places of a list pass a test
abbrev passing : (ℕ → Bool) → List ℕ → ℕ
passing t g = sum_by (λ x. indicator (t x)) g

-- each place of a list passes a test
abbrev pub AllPass : (ℕ → Bool) → List ℕ → Type 0
AllPass t g = (c : ℕ) → contains g c ≡ true → t c ≡ true

-- a place of the list does not pass a test
abbrev pub OneFails : (ℕ → Bool) → List ℕ → Type 0
OneFails t g = (c : ℕ) × (contains g c ≡ true) × (t c ≡ false)

member_first : (x : ℕ) (xs : List ℕ) → contains (x ∷ xs) x ≡ true
member_first x xs = ap (λ b. b || contains xs x) (eq-eqb x x refl)

pub all_or_one : (t : ℕ → Bool) (g : List ℕ) → AllPass t g ⊎ OneFails t g
all_or_one t [] = inl (λ c m. absurd (false≢true m))
all_or_one t (x ∷ xs) = go (t x) refl (all_or_one t xs)
  where
    each : t x ≡ true → AllPass t xs → (c : ℕ) (b : Bool) → (x == c) ≡ b → (b || contains xs c) ≡ true → t c ≡ true
    each e all c true same m = subst (λ z. t z ≡ true) (eqb-true x c same) e
    each e all c false other m = all c m

    go : (b : Bool) → t x ≡ b → AllPass t xs ⊎ OneFails t xs → AllPass t (x ∷ xs) ⊎ OneFails t (x ∷ xs)
    go false e r = inr (x, member_first x xs, e)
    go true e (inr r) = inr (r.0, or_right (x == r.0) (contains xs r.0) r.1, r.2)
    go true e (inl all) = inl (λ c m. each e all c (x == c) refl m)

passing_most : (t : ℕ → Bool) (g : List ℕ) → passing t g ≤ length g
passing_most t g = omega (arith, total_le (λ x. indicator (t x)) (λ x. 1) g (λ x. digit_one (t x)), total_ones g)

passing_all : (t : ℕ → Bool) (g : List ℕ) → AllPass t g → length g ≤ passing t g
passing_all t [] h = omega arith
passing_all t (x ∷ xs) h = omega (arith, ap indicator (h x (member_first x xs)), passing_all t xs (λ c m. h c (or_right (x == c) (contains xs c) m)))

all_pass : (t : ℕ → Bool) (g : List ℕ) → length g ≤ passing t g → AllPass t g
all_pass t g l = go (all_or_one t g)
  where
    go : AllPass t g ⊎ OneFails t g → AllPass t g
    go (inl all) = all
    go (inr r) =
        let most = passing_most t (take_out r.0 g) in
        let out = sum_by-take_out (λ x. indicator (t x)) r.0 g r.1 in
        let one = sum_by-take_out (λ x. 1) r.0 g r.1 in
        absurd (omega (arith, l, out, one, ap indicator r.2, most, total_ones g, total_ones (take_out r.0 g)))

digit_le : (a b : Bool) → (a ≡ true → b ≡ true) → indicator a ≤ indicator b
digit_le true b h = omega (arith, ap indicator (h refl))
digit_le false b h = omega arith

passing_more : (t more : ℕ → Bool) (g : List ℕ) → ((c : ℕ) → t c ≡ true → more c ≡ true) → (c : ℕ) → contains g c ≡ true → t c ≡ false → more c ≡ true → passing t g + 1 ≤ passing more g
passing_more t more g h c m off on =
    let rest = total_le (λ x. indicator (t x)) (λ x. indicator (more x)) (take_out c g) (λ x. digit_le (t x) (more x) (h x)) in
    omega (arith, sum_by-take_out (λ x. indicator (t x)) c g m, sum_by-take_out (λ x. indicator (more x)) c g m, ap indicator off, ap indicator on, rest)

-- where a place that passes is adjacent to one that does not, the further test passes it: then all pass, or one more
-- passes the further test
further : (p : Problem) (g : List ℕ) → Connected p g → (t more : ℕ → Bool) → ((c : ℕ) → t c ≡ true → more c ≡ true) → (a : ℕ) → contains g a ≡ true → t a ≡ true
    → ((x y : ℕ) → t x ≡ true → contains g y ≡ true → t y ≡ false → p.adjacent x y ≡ true → more y ≡ true) → AllPass t g ⊎ (passing t g + 1 ≤ passing more g)
further p g connected t more wider a there in_t move = go (all_or_one t g)
  where
    go : AllPass t g ⊎ OneFails t g → AllPass t g ⊎ (passing t g + 1 ≤ passing more g)
    go (inl all) = inl all
    go (inr r) =
        let b = connected.joined t (a, r.0, there, r.1, in_t, r.2) in
        inr (passing_more t more g wider b.1 b.3 b.5 (move b.0 b.1 b.4 b.3 b.5 b.6))

-- so far it has come: the places that are reached are free, and each free place is reached that is adjacent to the set
-- or to a place that is reached and off the edge; a set that grows has no other place, or `moves` places more than the
-- set among those that are reached
pub record IsReached (p : Problem) (n limit : ℕ) (set free reach edge : ℕ → Bool) (moves : ℕ) : Type 0 where
  pub reach_free : (x : ℕ) → reach x ≡ true → free x ≡ true
  pub edge_free : (x : ℕ) → edge x ≡ true → free x ≡ true
  pub near : (x y : ℕ) → (set x || reach x) ≡ true → edge x ≡ false → free y ≡ true → p.adjacent x y ≡ true → reach y ≡ true
  pub far : (g : List ℕ) → IsExtension p n limit set free g → AllPass (λ c. set c || reach c) g ⊎ (length (places_of n set) + moves ≤ passing (λ c. set c || reach c) g)

module _ (p : Problem) (n limit : ℕ) (set free : ℕ → Bool) (growth : IsGrowth p n limit set free) where
  -- a place of the set
  some_place : (a : ℕ) × (set a ≡ true)
  some_place = let r = some_member (places_of n set) growth.connected.some_county in (r.0, placed_test n r.0 set r.1)

  set_passes : (g : List ℕ) → IsExtension p n limit set free g → length (places_of n set) ≤ passing set g
  set_passes g x = omega (arith, joins_split p n limit set free g x (λ c. indicator (set c)), passing_all set (places_of n set) (λ c m. placed_test n c set m))

  is_free : (g : List ℕ) → IsExtension p n limit set free g → (reach : ℕ → Bool) (y : ℕ) → contains g y ≡ true → (set y || reach y) ≡ false → free y ≡ true
  is_free g x reach y m off = go (or_cases (set y) (free y) (x.within y m))
    where
      go : (set y ≡ true) ⊎ (free y ≡ true) → free y ≡ true
      go (inr e) = e
      go (inl e) = absurd (false≢true (sym off ∙ or_left (set y) (reach y) e))

  -- the front is reached by one move
  pub first_reached : (reach edge : ℕ → Bool) (front : ℕ → Bool) → IsFront p set free front → ((x : ℕ) → reach x ≡ front x) → ((x : ℕ) → edge x ≡ front x) → IsReached p n limit set free reach edge 1
  first_reached reach edge front is same edge_same = record {
    reach_free = λ x e. (is.each x (sym (same x) ∙ e)).is_free;
    edge_free = λ x e. (is.each x (sym (edge_same x) ∙ e)).is_free;
    near = λ x y e off f touch. reaches x y (in_set x e off) f touch;
    far = λ g x. go g x (further p g x.connected set (λ c. set c || reach c) (λ c e. or_left (set c) (reach c) e) some_place.0 (x.has some_place.0 some_place.1) some_place.1
        (λ a b e m off touch. or_right (set b) (reach b) (reaches a b e (is_free g x (λ c. false) b m (ap (λ z. z || false) off)) touch)));
  }
    where
      reaches : (x y : ℕ) → set x ≡ true → free y ≡ true → p.adjacent x y ≡ true → reach y ≡ true
      reaches x y e f touch = same y ∙ is.all x y e f touch

      in_set : (x : ℕ) → (set x || reach x) ≡ true → edge x ≡ false → set x ≡ true
      in_set x e off = pick (or_cases (set x) (reach x) e)
        where
          pick : (set x ≡ true) ⊎ (reach x ≡ true) → set x ≡ true
          pick (inl k) = k
          pick (inr k) = absurd (false≢true (sym off ∙ (edge_same x ∙ (sym (same x) ∙ k))))

      go : (g : List ℕ) → IsExtension p n limit set free g → AllPass set g ⊎ (passing set g + 1 ≤ passing (λ c. set c || reach c) g)
          → AllPass (λ c. set c || reach c) g ⊎ (length (places_of n set) + 1 ≤ passing (λ c. set c || reach c) g)
      go g x (inl all) = inl (λ c m. or_left (set c) (reach c) (all c m))
      go g x (inr more) = inr (omega (arith, more, set_passes g x))

  module _ (reach edge beyond : ℕ → Bool) (moves : ℕ) (h : IsReached p n limit set free reach edge moves) (all : (x y : ℕ) → edge x ≡ true → free y ≡ true → p.adjacent x y ≡ true → (reach y || beyond y) ≡ true) where
    -- what is adjacent to the set and the places that are reached is reached by one move more
    next_near : (x y : ℕ) → (set x || reach x) ≡ true → free y ≡ true → p.adjacent x y ≡ true → (reach y || beyond y) ≡ true
    next_near x y e f touch = go (edge x) refl
      where
        go : (b : Bool) → edge x ≡ b → (reach y || beyond y) ≡ true
        go true k = all x y k f touch
        go false k = or_left (reach y) (beyond y) (h.near x y e k f touch)

    next_far : (g : List ℕ) (x : IsExtension p n limit set free g) → AllPass (λ c. set c || reach c) g ⊎ (passing (λ c. set c || reach c) g + 1 ≤ passing (λ c. set c || (reach c || beyond c)) g)
    next_far g x = further p g x.connected (λ c. set c || reach c) (λ c. set c || (reach c || beyond c)) wider some_place.0 (x.has some_place.0 some_place.1) (or_left (set some_place.0) (reach some_place.0) some_place.1)
        (λ a b e m off touch. or_right (set b) (reach b || beyond b) (next_near a b e (is_free g x reach b m off) touch))
      where
        wider : (c : ℕ) → (set c || reach c) ≡ true → (set c || (reach c || beyond c)) ≡ true
        wider c e = pick (or_cases (set c) (reach c) e)
          where
            pick : (set c ≡ true) ⊎ (reach c ≡ true) → (set c || (reach c || beyond c)) ≡ true
            pick (inl k) = or_left (set c) (reach c || beyond c) k
            pick (inr k) = or_right (set c) (reach c || beyond c) (or_left (reach c) (beyond c) k)

    -- one move more
    pub next_reached : (next : ℕ → Bool) → ((y : ℕ) → beyond y ≡ true → free y ≡ true) → ((y : ℕ) → next y ≡ (reach y || beyond y)) → IsReached p n limit set free next beyond (moves + 1)
    next_reached next in_free same = record {
      reach_free = λ x e. pick_free x (or_cases (reach x) (beyond x) (sym (same x) ∙ e));
      edge_free = in_free;
      near = λ x y e off f touch. same y ∙ next_near x y (was x e off) f touch;
      far = λ g x. go g x (h.far g x) (next_far g x);
    }
      where
        pick_free : (x : ℕ) → (reach x ≡ true) ⊎ (beyond x ≡ true) → free x ≡ true
        pick_free x (inl k) = h.reach_free x k
        pick_free x (inr k) = in_free x k

        was : (x : ℕ) → (set x || next x) ≡ true → beyond x ≡ false → (set x || reach x) ≡ true
        was x e off = pick (or_cases (set x) (next x) e)
          where
            old : (reach x ≡ true) ⊎ (beyond x ≡ true) → reach x ≡ true
            old (inl k) = k
            old (inr k) = absurd (false≢true (sym off ∙ k))

            pick : (set x ≡ true) ⊎ (next x ≡ true) → (set x || reach x) ≡ true
            pick (inl k) = or_left (set x) (reach x) k
            pick (inr k) = or_right (set x) (reach x) (old (or_cases (reach x) (beyond x) (sym (same x) ∙ k)))

        now : (c : ℕ) → (set c || (reach c || beyond c)) ≡ true → (set c || next c) ≡ true
        now c e = ap (λ z. set c || z) (same c) ∙ e

        wide : (c : ℕ) → (set c || reach c) ≡ true → (set c || next c) ≡ true
        wide c e = pick (or_cases (set c) (reach c) e)
          where
            pick : (set c ≡ true) ⊎ (reach c ≡ true) → (set c || next c) ≡ true
            pick (inl k) = or_left (set c) (next c) k
            pick (inr k) = or_right (set c) (next c) (same c ∙ or_left (reach c) (beyond c) k)

        at_least : (g : List ℕ) → passing (λ c. set c || (reach c || beyond c)) g ≤ passing (λ c. set c || next c) g
        at_least g = total_le (λ c. indicator (set c || (reach c || beyond c))) (λ c. indicator (set c || next c)) g (λ c. digit_le (set c || (reach c || beyond c)) (set c || next c) (now c))

        go : (g : List ℕ) → IsExtension p n limit set free g → AllPass (λ c. set c || reach c) g ⊎ (length (places_of n set) + moves ≤ passing (λ c. set c || reach c) g)
            → AllPass (λ c. set c || reach c) g ⊎ (passing (λ c. set c || reach c) g + 1 ≤ passing (λ c. set c || (reach c || beyond c)) g)
            → AllPass (λ c. set c || next c) g ⊎ (length (places_of n set) + (moves + 1) ≤ passing (λ c. set c || next c) g)
        go g x (inl k) more = inl (λ c m. wide c (k c m))
        go g x (inr few) (inl k) = inl (λ c m. wide c (k c m))
        go g x (inr few) (inr more) = inr (omega (arith, few, more, at_least g))

    -- where no place lies beyond, nothing else is reached
    pub closed_reached : ((y : ℕ) → beyond y ≡ false) → (g : List ℕ) → IsExtension p n limit set free g → IsExtension p n limit set reach g
    closed_reached none g x = record {
      in_order = x.in_order;
      connected = x.connected;
      small = x.small;
      has = x.has;
      within = go (next_far g x);
    }
      where
        same : (c : ℕ) → (set c || (reach c || beyond c)) ≡ true → (set c || reach c) ≡ true
        same c e = pick (or_cases (set c) (reach c || beyond c) e)
          where
            old : (reach c ≡ true) ⊎ (beyond c ≡ true) → reach c ≡ true
            old (inl k) = k
            old (inr k) = absurd (false≢true (sym (none c) ∙ k))

            pick : (set c ≡ true) ⊎ ((reach c || beyond c) ≡ true) → (set c || reach c) ≡ true
            pick (inl k) = or_left (set c) (reach c) k
            pick (inr k) = or_right (set c) (reach c) (old (or_cases (reach c) (beyond c) k))

        go : AllPass (λ c. set c || reach c) g ⊎ (passing (λ c. set c || reach c) g + 1 ≤ passing (λ c. set c || (reach c || beyond c)) g) → AllPass (λ c. set c || reach c) g
        go (inl k) = k
        go (inr more) =
            let no_more = total_le (λ c. indicator (set c || (reach c || beyond c))) (λ c. indicator (set c || reach c)) g (λ c. digit_le (set c || (reach c || beyond c)) (set c || reach c) (same c)) in
            absurd (omega (arith, more, no_more))

  -- by as many moves as places may join, all of a set that grows is reached
  pub all_reached : (reach edge : ℕ → Bool) (moves : ℕ) → IsReached p n limit set free reach edge moves → limit ≤ length (places_of n set) + moves → (g : List ℕ) → IsExtension p n limit set free g → IsExtension p n limit set reach g
  all_reached reach edge moves h enough g x = record {
    in_order = x.in_order;
    connected = x.connected;
    small = x.small;
    has = x.has;
    within = go (h.far g x);
  }
    where
      go : AllPass (λ c. set c || reach c) g ⊎ (length (places_of n set) + moves ≤ passing (λ c. set c || reach c) g) → AllPass (λ c. set c || reach c) g
      go (inl k) = k
      go (inr more) = all_pass (λ c. set c || reach c) g (omega (arith, more, enough, x.small))
