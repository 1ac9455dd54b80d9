-- One place, and those after it, are a start.
use Rattle.std.proofs.Common.{◌≡◌, ℕ, ◌<◌, Bool, true, false, nat_lt, ◌&&◌, refl, sym, ap, ◌∙◌}
use Rattle.std.proofs.lemmas.Bool.{false≢true, eqb-true, eq-eqb, ltb-true}
use Rattle.std.proofs.lemmas.Bool.Decides.{nat_tests}
use Rattle.std.proofs.Common.{arith}
use Rattle.connected_laws.specs.Growing.{IsStart, only, later}

-- one place, and those after it
pub starts : (n at : ℕ) → at < n → IsStart n at (only at) (later n at)
starts n at l = record {
  there = l;
  set_is = λ x e. eqb-true x at e;
  set_has = eq-eqb at at refl;
  free_later = λ x e. (ltb-true at x (second (nat_lt x n) (nat_lt at x) e), ltb-true x n (first (nat_lt x n) (nat_lt at x) e));
  later_free = λ x a b. both x a b;
}
  where
    first : (a b : Bool) → (a && b) ≡ true → a ≡ true
    first true b e = refl
    first false b e = e

    second : (a b : Bool) → (a && b) ≡ true → b ≡ true
    second true b e = e
    second false b e = absurd (false≢true e)

    less : (a b : ℕ) → a < b → nat_lt a b ≡ true
    less a b e = grind (arith, nat_tests)

    both : (x : ℕ) → at < x → x < n → (nat_lt x n && nat_lt at x) ≡ true
    both x a b = ap (λ z. z && nat_lt at x) (less x n b) ∙ less at x a

-- the same by sets with those places
pub starts_as : (n at : ℕ) (set free : ℕ → Bool) → at < n → ((x : ℕ) → set x ≡ only at x) → ((x : ℕ) → free x ≡ later n at x) → IsStart n at set free
starts_as n at set free l s f =
    let h : IsStart n at (only at) (later n at) = starts n at l in
    record {
      there = l;
      set_is = λ x e. h.set_is x (sym (s x) ∙ e);
      set_has = s at ∙ h.set_has;
      free_later = λ x e. h.free_later x (sym (f x) ∙ e);
      later_free = λ x a b. f x ∙ h.later_free x a b;
    }
