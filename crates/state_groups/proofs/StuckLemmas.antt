-- Parts that are passed one after another, none of them stuck.
use Rattle.std.proofs.Common.{◌≡◌, ℕ, ◌<◌, Bool, true, false, ◌&&◌, not, Option, Some, None, List, [], ◌∷◌, ◌++◌, length, refl, sym, ap, ◌∙◌, arith, inl, inr, ⊎_elim, subst}
use Rattle.std.specs.Prelude.{is_some, IsTrue, ◌↔◌}
use mathlib.Core.Path.{fun_ext}
use Rattle.place_sets.proofs.PlaceSets.{contains-places_of}
use Rattle.std.proofs.lemmas.Bool.{false≢true, lt-ltb}
use Rattle.place_sets.specs.PlaceSets.{places_of}
use Rattle.grouping_laws.specs.Sets.{contains, indicator}
use Rattle.grouping_laws.specs.Problem.{Problem, Suits, people_of}
use Rattle.grouping_laws.specs.Parts.{IsPart}
use Rattle.grouping_laws.specs.SeatWindow.{IsRun}
use Rattle.grouping_laws.proofs.Digits.{true_digit}
use Rattle.grouping_laws.proofs.Elements.{Has, has_append}
use Rattle.grouping_laws.proofs.Seated.{set_from_stands, first_code}
use Rattle.connected_laws.proofs.PlaceLists.{placed, placed_test}
use Rattle.connected_sets.proofs.PartLists.{IsParted, parted_start, parted_more, parted_part}
use Rattle.certificate_laws.specs.State.{State}
use Rattle.certificate_laws.specs.Regions.{without}
use Rattle.certificate_laws.specs.Fitting.{IsDead, IsLive}
use Rattle.certificate_laws.specs.StuckParts.{CannotFill}
use Rattle.certificate_laws.proofs.Decided.{cannot_either, part_same}
use Rattle.state_groups.specs.Cut.{CutOff}

-- the parts that were found and don't meet the free places can be filled
pub record IsPassed (p : Problem) (s : State) (region free rest : ℕ → Bool) : Type 0 where
  pub found : List (List ℕ)
  pub parted : IsParted p region rest found
  pub filled : (part : List ℕ) → Has found part → ((c : ℕ) → contains part c ≡ true → free c ≡ false) → ¬ CannotFill p s part

pub passed_start : (p : Problem) (s : State) (region free : ℕ → Bool) → IsPassed p s region free region
passed_start p s region free = record { found = []; parted = parted_start p region region (λ x. refl); filled = λ part h. absurd h }

pub passed_more : (p : Problem) (s : State) (n : ℕ) (region free rest part left : ℕ → Bool) → ((x y : ℕ) → p.adjacent x y ≡ true → p.adjacent y x ≡ true) → ((x : ℕ) → region x ≡ true → x < n) → IsPassed p s region free rest
    → IsPart p rest (places_of n part) → ((x : ℕ) → left x ≡ (rest x && not (part x))) → (((c : ℕ) → contains (places_of n part) c ≡ true → free c ≡ false) → ¬ CannotFill p s (places_of n part)) → IsPassed p s region free left
passed_more p s n region free rest part left symmetric below h is w passed = record {
  found = h.found ++ places_of n part ∷ [];
  parted = parted_more p n region rest part left h.found symmetric below h.parted is w;
  filled = filled;
}
  where
    filled : (xs : List ℕ) → Has (h.found ++ places_of n part ∷ []) xs → ((c : ℕ) → contains xs c ≡ true → free c ≡ false) → ¬ CannotFill p s xs
    filled xs k off = ⊎_elim
        (λ i. h.filled xs i off)
        (λ i. ⊎_elim (λ e. subst (λ z. ¬ CannotFill p s z) e (passed (λ c m. off c (subst (λ z. contains z c ≡ true) e m)))) (λ (j : ⊥). absurd j) i)
        (has_append h.found (places_of n part ∷ []) xs k)

-- a part that is stuck is found
pub passed_none : (p : Problem) (s : State) (region free rest : ℕ → Bool) → IsPassed p s region free rest → ((x : ℕ) → rest x ≡ false) → CutOff p s region free → ⊥
passed_none p s region free rest h none cut =
    let c = first_code cut.part cut.is_part.connected.some_county in
    let r = set_from_stands c.0 h.found (omega (arith, h.parted.once c.0, true_digit (region c.0) (cut.is_part.inside c.0 c.1), ap indicator (none c.0))) in
    let is = h.parted.each r.0 r.1 in
    h.filled r.0 r.1 (λ x m. cut.none_free x (sym (part_same p region r.0 cut.part c.0 is cut.is_part r.2 c.1 x) ∙ m)) (cannot_either p s region r.0 cut.part c.0 is cut.is_part r.2 c.1 cut.stuck)

-- a part of what is left that is stuck and meets no free place is such a part of the region
pub passed_cut : (p : Problem) (s : State) (region free rest : ℕ → Bool) (part : List ℕ) → IsPassed p s region free rest → IsPart p rest part → ((c : ℕ) → contains part c ≡ true → free c ≡ false) → CannotFill p s part → CutOff p s region free
passed_cut p s region free rest part h is off stuck = record { part = part; is_part = parted_part p region rest h.found part h.parted is; none_free = off; stuck = stuck }

-- a part that is stuck exactly where its people suit no number, or one of its counties asks for a larger group
pub stuck_by : (p : Problem) (s : State) (n size : ℕ) (t : ℕ → Bool) (more : Bool) (k : ℕ) → ((x : ℕ) → t x ≡ true → x < n) → size ≡ length (places_of n t) → Suits p (people_of p (places_of n t)) k
    → (IsTrue more ↔ ((c : ℕ) × (t c ≡ true) × (size < s.least c))) → IsTrue more ↔ CannotFill p s (places_of n t)
stuck_by p s n size t more k below sized suits asks = (λ e. let r = asks.0 e in inr (r.0, placed n r.0 t (below r.0 r.1) r.1, omega (arith, r.2, sized)), back)
  where
    back : CannotFill p s (places_of n t) → IsTrue more
    back (inl none) = absurd (none k suits)
    back (inr few) = asks.1 (few.0, placed_test n few.0 t few.1, omega (arith, few.2, sized))

-- a group is live exactly where no part of what it leaves is stuck
pub live_by : (p : Problem) (s : State) (n : ℕ) (group left none : ℕ → Bool) (stuck : Bool) → ((x : ℕ) → s.rest x ≡ true → x < n) → ((x : ℕ) → left x ≡ (s.rest x && not (group x))) → ((x : ℕ) → none x ≡ false)
    → (IsTrue stuck ↔ CutOff p s left none) → IsTrue (not stuck) ↔ IsLive p s (places_of n group)
live_by p s n group left none stuck below is empty test = (there stuck refl, back stuck refl)
  where
    same : (x : ℕ) → left x ≡ without (places_of n group) s.rest x
    same x = is x ∙ go (s.rest x) refl
      where
        go : (b : Bool) → s.rest x ≡ b → (b && not (group x)) ≡ (b && not (contains (places_of n group) x))
        go false e = refl
        go true e = ap not (sym (contains-places_of n x group ∙ ap (λ z. z && group x) (lt-ltb x n (below x e))))

    cut : IsDead p s (places_of n group) → CutOff p s left none
    cut d = record { part = d.part; is_part = subst (λ z. IsPart p z d.part) (sym (fun_ext same)) d.is_part; none_free = λ c m. empty c; stuck = d.stuck }

    dead : CutOff p s left none → IsDead p s (places_of n group)
    dead c = record { part = c.part; is_part = subst (λ z. IsPart p z c.part) (fun_ext same) c.is_part; stuck = c.stuck }

    there : (b : Bool) → stuck ≡ b → IsTrue (not b) → IsLive p s (places_of n group)
    there true e t = absurd (false≢true t)
    there false e t = λ d. absurd (false≢true (sym e ∙ test.1 (cut d)))

    back : (b : Bool) → stuck ≡ b → IsLive p s (places_of n group) → IsTrue (not b)
    back false e l = refl
    back true e l = absurd (l (dead (test.0 e)))

-- some number of seats, by the range of the people
pub one_suits : (p : Problem) (people : ℕ) (r : Option (ℕ × ℕ)) → IsRun (Suits p people) r → is_some r ≡ true → (k : ℕ) × Suits p people k
one_suits p people None run e = absurd (false≢true e)
one_suits p people (Some r) run e = (r.0, (run.1 r.0).1 (omega arith, run.0))

-- none suits where there is no run
pub none_suits : (p : Problem) (people : ℕ) (r : Option (ℕ × ℕ)) → IsRun (Suits p people) r → is_some r ≡ false → (k : ℕ) → Suits p people k → ⊥
none_suits p people None run e = run
none_suits p people (Some r) run e = absurd (false≢true (sym e))
