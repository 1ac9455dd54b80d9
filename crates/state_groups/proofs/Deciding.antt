-- Whether a set is to be kept can be decided.
use Rattle.std.proofs.Common.{◌≡◌, ℕ, ◌≤◌, ◌<◌, ◌==◌, ◌||◌, Bool, true, false, Option, Some, None, List, [], ◌∷◌, filter, length, refl, sym, ap, ◌∙◌, subst, arith, ◌⊎◌, inl, inr, ⊎_elim}
use Rattle.std.proofs.lemmas.Bool.{false≢true, eqb-true, eq-eqb, cases_lt, cases_eq, cases_Bool}
use Rattle.place_sets.specs.Lists.{places_below}
use Rattle.grouping_laws.specs.Sets.{contains, count, Inside}
use Rattle.grouping_laws.specs.Problem.{Problem, Suits, people_of, Connected, IsProblem}
use Rattle.grouping_laws.specs.SeatWindow.{IsRun, seat_run}
use Rattle.grouping_laws.proofs.WindowLemmas.{window_law}
use Rattle.grouping_laws.proofs.Elements.{Has, has_from_contains, contains_from_has}
use Rattle.connected_laws.proofs.PlaceLists.{often_placed, placed_below}
use Rattle.certificate_data.specs.declared.format.Format.{Format}
use Rattle.certificate_data.specs.declared.format.Format.TheVariants.{Plain, Wide}
use Rattle.certificate_laws.specs.State.{State, open_to}
use Rattle.certificate_laws.specs.Regions.{without}
use Rattle.certificate_laws.specs.StuckParts.{CannotFill}
use Rattle.certificate_laws.specs.Fitting.{Fits, IsKept, IsLive}
use Rattle.certificate_laws.proofs.Decided.{leaves_are_decided}
use Rattle.certificate_laws.proofs.WithoutGroup.{without_in}
use Rattle.state_groups.proofs.FitLemmas.{below_listed}
use Rattle.state_groups.specs.Keeping.{IsAsked, Decides}

abbrev bit : {P : Type 0} → P ⊎ (P → ⊥) → Bool
bit (inl h) = true
bit (inr h) = false

bit_yes : {P : Type 0} (d : P ⊎ (P → ⊥)) → bit d ≡ true → P
bit_yes (inl h) e = h
bit_yes (inr h) e = absurd (false≢true e)

yes_bit : {P : Type 0} (d : P ⊎ (P → ⊥)) → P → bit d ≡ true
yes_bit (inl h) p = refl
yes_bit (inr h) p = absurd (h p)

both : {P Q : Type 0} → P ⊎ (P → ⊥) → Q ⊎ (Q → ⊥) → (P × Q) ⊎ ((P × Q) → ⊥)
both (inl a) (inl b) = inl (a, b)
both (inl a) (inr b) = inr (λ h. b h.1)
both (inr a) q = inr (λ h. a h.0)

some_seats : (p : Problem) → IsProblem p → (people : ℕ) → ((k : ℕ) × Suits p people k) ⊎ (((k : ℕ) × Suits p people k) → ⊥)
some_seats p is people = go (seat_run p people) (window_law p is.tolerated is.some_people people)
  where
    go : (r : Option (ℕ × ℕ)) → IsRun (Suits p people) r → ((k : ℕ) × Suits p people k) ⊎ (((k : ℕ) × Suits p people k) → ⊥)
    go None run = inr (λ h. run h.0 h.1)
    go (Some r) run = inl (r.0, (run.1 r.0).1 (omega arith, run.0))

all_inside : (q : ℕ → Bool) (g : List ℕ) → Inside q g ⊎ (Inside q g → ⊥)
all_inside q [] = inl (λ c m. absurd (false≢true m))
all_inside q (x ∷ xs) = ⊎_elim (λ is_in. ⊎_elim (λ rest. inl (λ c m. each c is_in rest (x == c) refl m)) (λ off. inr (λ h. off (λ c m. h c (later c m)))) (all_inside q xs)) (λ off. inr (λ h. false≢true (sym off ∙ h x (ap (λ b. b || contains xs x) (eq-eqb x x refl))))) (cases_Bool (q x))
  where
    each : (c : ℕ) → q x ≡ true → Inside q xs → (b : Bool) → (x == c) ≡ b → (b || contains xs c) ≡ true → q c ≡ true
    each c is_in rest true e m = subst (λ z. q z ≡ true) (eqb-true x c e) is_in
    each c is_in rest false e m = rest c m

    later : (c : ℕ) → contains xs c ≡ true → ((x == c) || contains xs c) ≡ true
    later c m = go (x == c)
      where
        go : (b : Bool) → (b || contains xs c) ≡ true
        go true = refl
        go false = m

asks_more : (s : State) (i : ℕ) (xs : List ℕ) → ((c : ℕ) × (contains xs c ≡ true) × (i < s.least c)) ⊎ (((c : ℕ) × (contains xs c ≡ true) × (i < s.least c)) → ⊥)
asks_more s i xs = go xs
  where
    go : (ys : List ℕ) → ((c : ℕ) × (contains ys c ≡ true) × (i < s.least c)) ⊎ (((c : ℕ) × (contains ys c ≡ true) × (i < s.least c)) → ⊥)
    go [] = inr (λ h. false≢true h.1)
    go (y ∷ ys) = ⊎_elim (λ l. inl (y, ap (λ b. b || contains ys y) (eq-eqb y y refl), l)) (λ l. ⊎_elim (λ h. inl (h.0, later h.0 (y == h.0) h.1, h.2)) (λ off. inr (λ h. each h.0 l off (y == h.0) refl h.1 h.2)) (go ys)) (cases_lt i (s.least y))
      where
        later : (c : ℕ) (b : Bool) → contains ys c ≡ true → (b || contains ys c) ≡ true
        later c true m = refl
        later c false m = m

        each : (c : ℕ) → s.least y ≤ i → (((c : ℕ) × (contains ys c ≡ true) × (i < s.least c)) → ⊥) → (b : Bool) → (y == c) ≡ b → (b || contains ys c) ≡ true → i < s.least c → ⊥
        each c l off true e m k = omega (arith, l, subst (λ z. i < s.least z) (sym (eqb-true y c e)) k)
        each c l off false e m k = off (c, m, k)

cannot : (p : Problem) → IsProblem p → (s : State) (xs : List ℕ) → CannotFill p s xs ⊎ (CannotFill p s xs → ⊥)
cannot p is s xs = ⊎_elim (λ some. ⊎_elim (λ more. inl (inr more)) (λ off. inr (λ h. ⊎_elim (λ none. none some.0 some.1) off h)) (asks_more s (length xs) xs)) (λ none. inl (inl (λ k t. none (k, t)))) (some_seats p is (people_of p xs))

some_cannot : (p : Problem) → IsProblem p → (s : State) (parts : List (List ℕ)) → ((part : List ℕ) × Has parts part × CannotFill p s part) ⊎ (((part : List ℕ) × Has parts part × CannotFill p s part) → ⊥)
some_cannot p is s [] = inr (λ h. h.1)
some_cannot p is s (x ∷ xs) = ⊎_elim (λ c. inl (x, inl refl, c)) (λ off. ⊎_elim (λ h. inl (h.0, inr h.1, h.2)) (λ none. inr (λ h. each h.0 off none h.1 h.2)) (some_cannot p is s xs)) (cannot p is s x)
  where
    each : (part : List ℕ) → (CannotFill p s x → ⊥) → (((part : List ℕ) × Has xs part × CannotFill p s part) → ⊥) → Has (x ∷ xs) part → CannotFill p s part → ⊥
    each part off none (inl e) c = off (subst (CannotFill p s) (sym e) c)
    each part off none (inr h) c = none (part, h, c)

module _ (p : Problem) (is : IsProblem p) (s : State) (known : (c : ℕ) → s.rest c ≡ true → contains p.counties c ≡ true) where
  live : (g : List ℕ) → IsLive p s g ⊎ (IsLive p s g → ⊥)
  live g =
      let parts = leaves_are_decided.parts p is (without g s.rest) (λ c e. known c (without_in g s.rest c e)) in
      let dead = leaves_are_decided.dead p s g parts.0 parts.1 in
      ⊎_elim
      (λ c. inr (λ l. l (dead.1 (c.0, contains_from_has parts.0 c.0 c.1, c.2))))
      (λ none. inl (λ d. let r = dead.0 d in none (r.0, has_from_contains parts.0 r.0 r.1, r.2)))
      (some_cannot p is s parts.0)

  left : (format : Format) (g : List ℕ) → IsKept format p s g ⊎ (IsKept format p s g → ⊥)
  left Plain g = inl tt
  left Wide g = live g

asked : (exact : Bool) (limit : ℕ) (g : List ℕ) → IsAsked exact limit g ⊎ (IsAsked exact limit g → ⊥)
asked true limit g = cases_eq (length g) limit
asked false limit g = inl tt

abbrev Whole : Format → Problem → ℕ → Bool → State → List ℕ → Type 0
Whole format p limit exact s g = (((k : ℕ) × Suits p (people_of p g) k) × Inside (open_to s (length g)) g) × (IsKept format p s g × IsAsked exact limit g)

-- there is a test that decides
pub decided : (format : Format) (p : Problem) (n limit : ℕ) (exact : Bool) (s : State) → IsProblem p → p.counties ≡ places_below n → ((c : ℕ) → s.rest c ≡ true → c < n) → (keep : List ℕ → Bool) × Decides format p n limit exact s keep
decided format p n limit exact s is all below = (λ g. bit (whole g), λ g connected order. (there g connected order, back g))
  where
    known : (c : ℕ) → s.rest c ≡ true → contains p.counties c ≡ true
    known c e = subst (λ z. contains z c ≡ true) (sym all) (below_listed n c (below c e))

    whole : (g : List ℕ) → Whole format p limit exact s g ⊎ (Whole format p limit exact s g → ⊥)
    whole g = both (both (some_seats p is (people_of p g)) (all_inside (open_to s (length g)) g)) (both (left p is s known format g) (asked exact limit g))

    there : (g : List ℕ) → Connected p g → filter (contains g) (places_below n) ≡ g → bit (whole g) ≡ true → Fits format p s g × IsAsked exact limit g
    there g connected order e =
        let h = bit_yes (whole g) e in (
          record {
            lawful = record {
              once = λ c. subst (λ z. count c z ≤ 1) order (often_placed n c (contains g));
              listed = λ c m. subst (λ z. contains z c ≡ true) (sym all) (below_listed n c (placed_below n c (contains g) (subst (λ z. contains z c ≡ true) (sym order) m)));
              connected = connected;
              seats = h.0.0.0;
              suits = h.0.0.1;
            };
            inside = h.0.1;
            kept = h.1.0;
          },
          h.1.1,
        )

    back : (g : List ℕ) → Fits format p s g × IsAsked exact limit g → bit (whole g) ≡ true
    back g f = yes_bit (whole g) (((f.0.lawful.seats, f.0.lawful.suits), f.0.inside), (f.0.kept, f.1))
