-- Lists of the places that pass a test.
use Rattle.std.proofs.Common.{◌≡◌, ℕ, ◌≤◌, ◌<◌, Bool, true, false, nat_lt, ◌||◌, ◌&&◌, List, [], ◌∷◌, length, refl, sym, ap, ◌∙◌, arith}
use Rattle.std.proofs.lemmas.Bool.{and_parts, eq-eqb, ltb-true}
use Rattle.std.proofs.lemmas.Bool.Decides.{nat_tests}
use Rattle.grouping_laws.specs.Sets.{count, contains}
use Rattle.place_sets.specs.PlaceSets.{places_of}
use Rattle.place_sets.proofs.Sums.{digit_one}
use Rattle.place_sets.proofs.PlaceSets.{count-places_of, contains-places_of}

pub often_placed : (n c : ℕ) (t : ℕ → Bool) → count c (places_of n t) ≤ 1
often_placed n c t = omega (arith, count-places_of n c t, digit_one (nat_lt c n && t c))

pub placed : (n c : ℕ) (t : ℕ → Bool) → c < n → t c ≡ true → contains (places_of n t) c ≡ true
placed n c t l e = contains-places_of n c t ∙ (ap (λ b. b && t c) (true_lt c n l) ∙ e)
  where
    true_lt : (a b : ℕ) → a < b → nat_lt a b ≡ true
    true_lt a b e = grind (arith, nat_tests)

pub placed_test : (n c : ℕ) (t : ℕ → Bool) → contains (places_of n t) c ≡ true → t c ≡ true
placed_test n c t m = (and_parts (nat_lt c n) (t c) (sym (contains-places_of n c t) ∙ m)).1

pub placed_below : (n c : ℕ) (t : ℕ → Bool) → contains (places_of n t) c ≡ true → c < n
placed_below n c t m = ltb-true c n (and_parts (nat_lt c n) (t c) (sym (contains-places_of n c t) ∙ m)).0

pub same_tests : (a b : Bool) → (a ≡ true → b ≡ true) → (b ≡ true → a ≡ true) → a ≡ b
same_tests true true f g = refl
same_tests false false f g = refl
same_tests true false f g = sym (f refl)
same_tests false true f g = g refl

pub some_member : (xs : List ℕ) → 1 ≤ length xs → (x : ℕ) × (contains xs x ≡ true)
some_member [] h = absurd (omega arith)
some_member (x ∷ xs) h = (x, ap (λ b. b || contains xs x) (eq-eqb x x refl))
