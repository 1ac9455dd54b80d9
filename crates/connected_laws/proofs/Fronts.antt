-- The free places that are adjacent to a set, kept as the set grows.
use Rattle.std.proofs.Common.{◌≡◌, ℕ, ◌<◌, ◌≤◌, Bool, true, false, ◌||◌, ◌&&◌, not, ◌==◌, length, arith, refl, sym, ap, ◌∙◌, ◌⊎◌, inl, inr, ⊎_elim}
use Rattle.std.proofs.lemmas.Bool.{and_parts, and_from, false≢true, eqb-true, eq-eqb}
use Rattle.grouping_laws.specs.Problem.{Problem}
use Rattle.place_sets.specs.PlaceSets.{places_of}
use Rattle.connected_laws.specs.Growing.{IsGrowth, IsCandidate, IsWhole, IsMove, IsFront, only}

or_cases : (a b : Bool) → (a || b) ≡ true → (a ≡ true) ⊎ (b ≡ true)
or_cases true b e = inl refl
or_cases false b e = inr e

or_second : (a b : Bool) → b ≡ true → (a || b) ≡ true
or_second true b e = refl
or_second false b e = e

-- a place joins: its neighbours come in, and what isn't free any more goes out
pub grown_front : (p : Problem) (n limit : ℕ) (set free front more less row beside : ℕ → Bool) (c : ℕ) → IsGrowth p n limit set free → free c ≡ true → IsMove set free more less c → IsFront p set free front
    → ((y : ℕ) → y < n → row y ≡ p.adjacent c y) → ((x : ℕ) → beside x ≡ ((front x || row x) && less x)) → IsFront p more less beside
grown_front p n limit set free front more less row beside c h is m f at b = record { each = each; all = all }
  where
    still : (x : ℕ) → less x ≡ true → free x ≡ true
    still x e = (and_parts (free x) (not (x == c)) (sym (m.without x) ∙ e)).0

    each : (x : ℕ) → beside x ≡ true → IsCandidate p more less x
    each x e = ⊎_elim old new (or_cases (front x) (row x) q.0)
      where
        q : ((front x || row x) ≡ true) × (less x ≡ true)
        q = and_parts (front x || row x) (less x) (sym (b x) ∙ e)

        old : front x ≡ true → IsCandidate p more less x
        old k = let o = f.each x k in record { is_free = q.1; from = o.from; from_set = m.with o.from ∙ ap (λ z. z || (o.from == c)) o.from_set; touch = o.touch }

        new : row x ≡ true → IsCandidate p more less x
        new k = record { is_free = q.1; from = c; from_set = m.with c ∙ or_second (set c) (c == c) (eq-eqb c c refl); touch = sym (at x (h.free_below x (still x q.1))) ∙ k }

    all : (x y : ℕ) → more x ≡ true → less y ≡ true → p.adjacent x y ≡ true → beside y ≡ true
    all x y e k t = b y ∙ and_from (front y || row y) (less y) (⊎_elim old new (or_cases (set x) (x == c) (sym (m.with x) ∙ e))) k
      where
        old : set x ≡ true → (front y || row y) ≡ true
        old s = ap (λ z. z || row y) (f.all x y s (still y k) t)

        new : (x == c) ≡ true → (front y || row y) ≡ true
        new s = or_second (front y) (row y) (at y (h.free_below y (still y k)) ∙ (ap (λ z. p.adjacent z y) (sym (eqb-true x c s)) ∙ t))

-- a place is out for good
pub skipped_front : (p : Problem) (set free front more less beside : ℕ → Bool) (c : ℕ) → IsMove set free more less c → IsFront p set free front → ((x : ℕ) → beside x ≡ (front x && not (x == c))) → IsFront p set less beside
skipped_front p set free front more less beside c m f b = record { each = each; all = all }
  where
    each : (x : ℕ) → beside x ≡ true → IsCandidate p set less x
    each x e =
        let q = and_parts (front x) (not (x == c)) (sym (b x) ∙ e) in
        let o = f.each x q.0 in
        record { is_free = m.without x ∙ and_from (free x) (not (x == c)) o.is_free q.1; from = o.from; from_set = o.from_set; touch = o.touch }

    all : (x y : ℕ) → set x ≡ true → less y ≡ true → p.adjacent x y ≡ true → beside y ≡ true
    all x y e k t =
        let q = and_parts (free y) (not (y == c)) (sym (m.without y) ∙ k) in
        b y ∙ and_from (front y) (not (y == c)) (f.all x y e q.0 t) q.1

-- the free neighbours of a place alone
pub start_front : (p : Problem) (n at : ℕ) (set free row front : ℕ → Bool) → ((x : ℕ) → set x ≡ only at x) → ((x : ℕ) → free x ≡ true → x < n) → ((y : ℕ) → y < n → row y ≡ p.adjacent at y) → ((x : ℕ) → front x ≡ (row x && free x)) → IsFront p set free front
start_front p n at set free row front alone below r b = record { each = each; all = all }
  where
    each : (x : ℕ) → front x ≡ true → IsCandidate p set free x
    each x e =
        let q = and_parts (row x) (free x) (sym (b x) ∙ e) in
        record { is_free = q.1; from = at; from_set = alone at ∙ eq-eqb at at refl; touch = sym (r x (below x q.1)) ∙ q.0 }

    all : (x y : ℕ) → set x ≡ true → free y ≡ true → p.adjacent x y ≡ true → front y ≡ true
    all x y e k t = b y ∙ and_from (row y) (free y) (r y (below y k) ∙ (ap (λ z. p.adjacent z y) (sym (eqb-true x at (sym (alone x) ∙ e))) ∙ t)) k

-- with no such place, nothing free is adjacent to the set
pub empty_front : (p : Problem) (set free front : ℕ → Bool) → IsFront p set free front → ((x : ℕ) → front x ≡ false) → (x y : ℕ) → set x ≡ true → free y ≡ true → p.adjacent x y ≡ false
empty_front p set free front f none x y e k = go (p.adjacent x y) refl
  where
    go : (b : Bool) → p.adjacent x y ≡ b → b ≡ false
    go false t = refl
    go true t = absurd (false≢true (sym (none y) ∙ f.all x y e k t))

-- so the set is whole then, and where it is as large as may be
pub whole_front : (p : Problem) (n limit : ℕ) (set free front : ℕ → Bool) → IsGrowth p n limit set free → IsFront p set free front → ((x : ℕ) → front x ≡ false) ⊎ (limit ≤ length (places_of n set)) → IsWhole p n limit set free
whole_front p n limit set free front h f e = ⊎_elim (λ none. inl (empty_front p set free front f none)) (λ full. inr (omega (arith, h.small, full))) e
