-- What is kept and what is passed over.
use Rattle.std.proofs.Common.{◌≡◌, ℕ, Bool, true, false, not, List, [], refl, sym, ◌∙◌}
use Rattle.std.specs.Prelude.{IsTrue, IfOk, Result, Ok, Err, ◌↔◌}
use Rattle.std.proofs.lemmas.Bool.{false≢true}
use Rattle.place_sets.specs.PlaceSets.{places_of}
use Rattle.grouping_laws.specs.Problem.{Problem}
use Rattle.connected_laws.specs.Growing.{IsExtension, IsGrowth, IsWhole, AreKept}
use Rattle.connected_laws.proofs.Growing.{none_kept, leaf_only}
use Rattle.certificate_data.specs.declared.format.Format.{Format}
use Rattle.certificate_laws.specs.State.{State}
use Rattle.certificate_laws.specs.Fitting.{Fits}
use Rattle.state_groups.specs.Stranding.{NoneFits}
use Rattle.state_groups.specs.Keeping.{IsAsked, Decides}

-- nothing is kept where nothing fits
pub none_fits : (format : Format) (p : Problem) (n limit : ℕ) (exact : Bool) (s : State) (keep : List ℕ → Bool) (set free : ℕ → Bool) → Decides format p n limit exact s keep → NoneFits format p n limit s set free → AreKept p n limit keep set free []
none_fits format p n limit exact s keep set free d none = none_kept p n limit keep set free (λ g x. go g x (keep g) refl)
  where
    go : (g : List ℕ) → IsExtension p n limit set free g → (b : Bool) → keep g ≡ b → b ≡ false
    go g x false e = refl
    go g x true e = absurd (none g x ((d g x.connected x.in_order).0 e).0)

-- the test of a whole set
pub kept_test : (format : Format) (p : Problem) (n limit : ℕ) (exact : Bool) (s : State) (keep : List ℕ → Bool) (set free : ℕ → Bool) (kept : Bool) → Decides format p n limit exact s keep → IsGrowth p n limit set free → IsWhole p n limit set free
    → (IsTrue kept ↔ (Fits format p s (places_of n set) × IsAsked exact limit (places_of n set))) → keep (places_of n set) ≡ kept
kept_test format p n limit exact s keep set free kept d h whole test = go kept refl (keep (places_of n set)) refl
  where
    x : IsExtension p n limit set free (places_of n set)
    x = (leaf_only p n limit set free h whole).0

    go : (a : Bool) → kept ≡ a → (b : Bool) → keep (places_of n set) ≡ b → keep (places_of n set) ≡ kept
    go true e b f = (d (places_of n set) x.connected x.in_order).1 (test.0 e) ∙ sym e
    go false e false f = f ∙ sym e
    go false e true f = absurd (false≢true (sym e ∙ test.1 ((d (places_of n set) x.connected x.in_order).0 f)))

-- nothing is kept where no set from the places in reach may grow into one that fits
pub none_grows : (format : Format) (p : Problem) (n limit : ℕ) (exact : Bool) (s : State) (keep : List ℕ → Bool) (set free reach : ℕ → Bool) (may : Bool) → Decides format p n limit exact s keep → not may ≡ true
    → ((g : List ℕ) → IsExtension p n limit set free g → IsExtension p n limit set reach g) → ((g : List ℕ) → IsExtension p n limit set reach g → IsAsked exact limit g → Fits format p s g → IsTrue may) → AreKept p n limit keep set free []
none_grows format p n limit exact s keep set free reach may d none all grows = none_kept p n limit keep set free (λ g x. go g x (keep g) refl)
  where
    off : (b : Bool) → not b ≡ true → b ≡ true → ⊥
    off true e k = false≢true e
    off false e k = false≢true k

    go : (g : List ℕ) → IsExtension p n limit set free g → (b : Bool) → keep g ≡ b → b ≡ false
    go g x false e = refl
    go g x true e = let f = (d g x.connected x.in_order).0 e in absurd (off may none (grows g (all g x) f.1 f.0))

-- the same, by the answer whether nothing fits
pub none_fits_ok : {E : Type 0} (format : Format) (p : Problem) (n limit : ℕ) (exact : Bool) (s : State) (set free : ℕ → Bool) (answer : Result Bool E) → IfOk answer (λ none. IsTrue none → (most : ℕ) → NoneFits format p n most s set free)
    → IfOk answer (λ none. IsTrue none → (keep : List ℕ → Bool) → Decides format p n limit exact s keep → AreKept p n limit keep set free [])
none_fits_ok format p n limit exact s set free (Ok none) h = λ yes keep d. none_fits format p n limit exact s keep set free d (h yes limit)
none_fits_ok format p n limit exact s set free (Err fault) h = tt
