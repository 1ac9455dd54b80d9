-- Sets of places made one place after another, and rows of them.
use Rattle.std.proofs.Common.{◌≡◌, ℕ, ◌+◌, ◌<◌, ◌⊎◌, inl, inr, ⊎_elim, Bool, true, false, nat_lt, ◌||◌, ◌&&◌, ◌==◌, refl, sym, ap, ◌∙◌, arith}
use Rattle.std.proofs.lemmas.Bool.{false≢true, eqb-true, ltb-true, ltb-false}
use Rattle.std.proofs.lemmas.Bool.Decides.{nat_tests}

next_lt : (x i : ℕ) → nat_lt x (i + 1) ≡ (nat_lt x i || (x == i))
next_lt x i = grind (arith, nat_tests)

here : (x i : ℕ) → (x == i) ≡ true → nat_lt x i ≡ false
here x i e = grind (arith, nat_tests)

-- the next place passes the test and is put in
pub put_next : (q old new : ℕ → Bool) (i : ℕ) → ((x : ℕ) → old x ≡ (nat_lt x i && q x)) → ((x : ℕ) → new x ≡ (old x || (x == i))) → q i ≡ true → (x : ℕ) → new x ≡ (nat_lt x (i + 1) && q x)
put_next q old new i before put e x = put x ∙ (ap (λ z. z || (x == i)) (before x) ∙ (go (nat_lt x i) (x == i) refl (q x) refl ∙ ap (λ z. z && q x) (sym (next_lt x i))))
  where
    go : (a b : Bool) → (x == i) ≡ b → (d : Bool) → q x ≡ d → ((a && d) || b) ≡ ((a || b) && d)
    go true true k true l = refl
    go true false k true l = refl
    go false true k true l = refl
    go false false k true l = refl
    go a true k false l = absurd (false≢true (sym l ∙ (ap q (eqb-true x i k) ∙ e)))
    go true false k false l = refl
    go false false k false l = refl

-- it doesn't pass and is left out
pub skip_next : (q old : ℕ → Bool) (i : ℕ) → ((x : ℕ) → old x ≡ (nat_lt x i && q x)) → q i ≡ false → (x : ℕ) → old x ≡ (nat_lt x (i + 1) && q x)
skip_next q old i before e x = before x ∙ (go (nat_lt x i) (x == i) refl (q x) refl ∙ ap (λ z. z && q x) (sym (next_lt x i)))
  where
    go : (a b : Bool) → (x == i) ≡ b → (d : Bool) → q x ≡ d → (a && d) ≡ ((a || b) && d)
    go true b k d l = refl
    go false true k true l = absurd (false≢true (sym (sym l ∙ (ap q (eqb-true x i k) ∙ e))))
    go false true k false l = refl
    go false false k d l = refl

-- no place is below 0
pub none_below : (q : ℕ → Bool) (x : ℕ) → (nat_lt x 0 && q x) ≡ false
none_below q x = ap (λ z. z && q x) (not_below x)
  where
    not_below : (x : ℕ) → nat_lt x 0 ≡ false
    not_below x = grind (arith, nat_tests)

below_or_here : (y i : ℕ) → y < i + 1 → (y < i) ⊎ (y ≡ i)
below_or_here y i l = go (nat_lt y i) refl
  where
    go : (b : Bool) → nat_lt y i ≡ b → (y < i) ⊎ (y ≡ i)
    go true e = inl (ltb-true y i e)
    go false e = inr (omega (arith, ltb-false y i e))

-- what holds of the places before one and of that one
pub one_more : (P : ℕ → Type 0) (i : ℕ) → ((y : ℕ) → y < i → P y) → P i → (y : ℕ) → y < i + 1 → P y
one_more P i before at y l = ⊎_elim (λ k. before y k) (λ e. by e) (below_or_here y i l)
  where
    by : y ≡ i → P y
    by e = rw e at
