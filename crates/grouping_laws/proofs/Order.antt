-- Greater orders counts.
use Rattle.std.proofs.Common.{◌≡◌, ℕ, zero, suc, ◌+◌, ◌*◌, ◌≤◌, ◌<◌, List, length, refl, sym, ◌∙◌, subst, arith, ◌⊎◌, inl, inr, ⊎_elim}
use Rattle.std.proofs.lemmas.Bool.{cases_order}
use Rattle.grouping_laws.specs.Sets.{sum_by}
use Rattle.grouping_laws.specs.Grouping.{counts, IsGreater}
use Rattle.grouping_laws.specs.Order.{GreaterIsIrreflexive, GreaterIsTransitive, GreaterIsTotal}
use Rattle.grouping_laws.proofs.Sizes.{below-le}

abbrev pub SameUpTo : ℕ → (ℕ → ℕ) → (ℕ → ℕ) → Type 0
SameUpTo n f g = (i : ℕ) → 1 ≤ i → i ≤ n → f i ≡ g i

pub greater_irreflexive : GreaterIsIrreflexive
greater_irreflexive f h = omega (arith, h.more)

pub greater_transitive : GreaterIsTransitive
greater_transitive f g h a b = ⊎_elim same (λ o. ⊎_elim first second o) (cases_order a.size b.size)
  where
    same : a.size ≡ b.size → IsGreater f h
    same e = record { size = b.size; some_county = b.some_county; same_before = λ j s l. a.same_before j s (omega arith) ∙ b.same_before j s l; more = omega (arith, b.more, subst (λ z. g z < f z) e a.more) }

    first : a.size < b.size → IsGreater f h
    first e = record { size = a.size; some_county = a.some_county; same_before = λ j s l. a.same_before j s l ∙ b.same_before j s (omega arith); more = omega (arith, a.more, b.same_before a.size a.some_county e) }

    second : b.size < a.size → IsGreater f h
    second e = record { size = b.size; some_county = b.some_county; same_before = λ j s l. a.same_before j s (omega arith) ∙ b.same_before j s l; more = omega (arith, b.more, a.same_before b.size b.some_county e) }

-- the first difference up to a size
pub compared : (n : ℕ) (f g : ℕ → ℕ) → IsGreater f g ⊎ (IsGreater g f ⊎ SameUpTo n f g)
compared zero f g = inr (inr (λ i a b. absurd (omega arith)))
compared (suc n) f g = ⊎_elim inl (λ o. ⊎_elim (λ h. inr (inl h)) next o) (compared n f g)
  where
    next : SameUpTo n f g → IsGreater f g ⊎ (IsGreater g f ⊎ SameUpTo (suc n) f g)
    next same = ⊎_elim equal (λ o. ⊎_elim less more o) (cases_order (f (suc n)) (g (suc n)))
      where
        less : f (suc n) < g (suc n) → IsGreater f g ⊎ (IsGreater g f ⊎ SameUpTo (suc n) f g)
        less h = inr (inl (record { size = suc n; some_county = omega arith; same_before = λ j a b. sym (same j a (omega arith)); more = h }))

        more : g (suc n) < f (suc n) → IsGreater f g ⊎ (IsGreater g f ⊎ SameUpTo (suc n) f g)
        more h = inl (record { size = suc n; some_county = omega arith; same_before = λ j a b. same j a (omega arith); more = h })

        equal : f (suc n) ≡ g (suc n) → IsGreater f g ⊎ (IsGreater g f ⊎ SameUpTo (suc n) f g)
        equal h = inr (inr (λ i a b. ⊎_elim (λ e. subst (λ z. f z ≡ g z) (sym e) h) (λ o. ⊎_elim (λ l. same i a (omega arith)) (λ l. absurd (omega arith)) o) (cases_order i (suc n))))

pub no_larger : (sets : List (List ℕ)) (i : ℕ) → sum_by length sets < i → counts sets i ≡ 0
no_larger sets i h = ⊎_elim (λ e. e) (λ o. absurd (o)) (none_or (counts sets i) i (omega (arith, below-le 0 i sets (omega arith))))
  where
    none_or : (x d : ℕ) → x * d < d → (x ≡ 0) ⊎ ⊥
    none_or zero d l = inl refl
    none_or (suc x) d l = inr (omega arith)

pub greater_total : GreaterIsTotal
greater_total xs ys = ⊎_elim inl (λ o. inr (⊎_elim inl (λ same. inr (λ i a. ⊎_elim (λ b. same i a b) (λ b. no_larger xs i (omega arith) ∙ sym (no_larger ys i (omega arith))) (within i (sum_by length xs + sum_by length ys)))) o)) (compared (sum_by length xs + sum_by length ys) (counts xs) (counts ys))
  where
    within : (i n : ℕ) → (i ≤ n) ⊎ (n < i)
    within i n = grind arith
