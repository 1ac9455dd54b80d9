-- Groups that fit.
use Rattle.std.proofs.Common.{◌≡◌, ℕ, ◌≤◌, ◌<◌, Bool, true, false, nat_le, not, length, refl, sym, ◌∙◌, arith, inl, inr, subst, Result, Ok, Err}
use Rattle.std.specs.Prelude.{IsTrue, IfOk, ◌↔◌, ◌⊎◌}
use Rattle.std.proofs.lemmas.Bool.{false≢true, and_parts, and_from, leb-true, le-leb, cases_lt}
use Rattle.place_sets.specs.PlaceSets.{places_of}
use Rattle.place_sets.specs.Lists.{places_below}
use Rattle.place_sets.proofs.PlaceSums.{every}
use Rattle.grouping_laws.specs.Sets.{contains, Inside}
use Rattle.grouping_laws.specs.Problem.{Problem, Suits, people_of, Connected}
use Rattle.connected_laws.proofs.PlaceLists.{placed, placed_test, placed_below, often_placed}
use Rattle.certificate_data.specs.declared.format.Format.{Format}
use Rattle.certificate_laws.specs.State.{State, open_to}
use Rattle.certificate_laws.specs.Fitting.{IsKept, Fits}

-- all places below the bound are listed
pub below_listed : (n x : ℕ) → x < n → contains (places_below n) x ≡ true
below_listed n x l = subst (λ z. contains z x ≡ true) (every (places_below n)) (placed n x (λ y. true) l refl)

-- a group of the rest is open where none of its counties asks for a larger one
pub open_by : (s : State) (n size : ℕ) (t : ℕ → Bool) (more : Bool) → ((x : ℕ) → t x ≡ true → x < n) → size ≡ length (places_of n t) → ((x : ℕ) → t x ≡ true → s.rest x ≡ true)
    → (IsTrue more ↔ ((c : ℕ) × (t c ≡ true) × (size < s.least c))) → IsTrue (not more) ↔ Inside (open_to s (length (places_of n t))) (places_of n t)
open_by s n size t more below sized inside asks = (there more refl, back more refl)
  where
    there : (b : Bool) → more ≡ b → IsTrue (not b) → Inside (open_to s (length (places_of n t))) (places_of n t)
    there true e k = absurd (false≢true k)
    there false e k = λ c m. and_from (s.rest c) (nat_le (s.least c) (length (places_of n t))) (inside c (placed_test n c t m)) (le-leb (s.least c) (length (places_of n t)) (small c (placed_test n c t m) (cases_lt size (s.least c))))
      where
        small : (c : ℕ) → t c ≡ true → (size < s.least c) ⊎ (s.least c ≤ size) → s.least c ≤ length (places_of n t)
        small c m (inl l) = absurd (false≢true (sym e ∙ asks.1 (c, m, l)))
        small c m (inr l) = omega (arith, l, sized)

    back : (b : Bool) → more ≡ b → Inside (open_to s (length (places_of n t))) (places_of n t) → IsTrue (not b)
    back false e k = refl
    back true e k =
        let r = asks.0 e in
        let q = and_parts (s.rest r.0) (nat_le (s.least r.0) (length (places_of n t))) (k r.0 (placed n r.0 t (below r.0 r.1) r.1)) in
        absurd (omega (arith, leb-true (s.least r.0) (length (places_of n t)) q.1, r.2, sized))

-- a group that isn't in the rest isn't open
pub shut_by : (s : State) (n i c : ℕ) (t : ℕ → Bool) → ((x : ℕ) → t x ≡ true → x < n) → t c ≡ true → s.rest c ≡ false → Inside (open_to s i) (places_of n t) → ⊥
shut_by s n i c t below has out k = false≢true (sym out ∙ (and_parts (s.rest c) (nat_le (s.least c) i) (k c (placed n c t (below c has) has))).0)

-- a connected group that suits and is open fits in a plain format, and in a wide one where it is live
pub fits_by : (format : Format) (p : Problem) (s : State) (n : ℕ) (t : ℕ → Bool) → p.counties ≡ places_below n → Connected p (places_of n t) → ((k : ℕ) × Suits p (people_of p (places_of n t)) k)
    → Inside (open_to s (length (places_of n t))) (places_of n t) → IsKept format p s (places_of n t) → Fits format p s (places_of n t)
fits_by format p s n t all connected suits inside kept = record {
  lawful = record {
    once = λ c. often_placed n c t;
    listed = λ c m. subst (λ z. contains z c ≡ true) (sym all) (below_listed n c (placed_below n c t m));
    connected = connected;
    seats = suits.0;
    suits = suits.1;
  };
  inside = inside;
  kept = kept;
}

-- what holds of an answer holds in other words
pub if_ok : {A E : Type 0} (r : Result A E) (P Q : A → Type 0) → ((x : A) → P x → Q x) → IfOk r P → IfOk r Q
if_ok (Ok x) P Q f h = f x h
if_ok (Err e) P Q f h = tt
