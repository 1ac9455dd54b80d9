-- How counts are ordered.
use Rattle.std.specs.Prelude.{ℕ, ◌≡◌, ◌≤◌, List, ◌⊎◌}
use Rattle.grouping_laws.specs.Grouping.{counts, IsGreater}

-- no counts are greater than themselves
abbrev pub GreaterIsIrreflexive : Type 0
GreaterIsIrreflexive = (f : ℕ → ℕ) → ¬ IsGreater f f

-- counts greater than greater ones are greater
abbrev pub GreaterIsTransitive : Type 0
GreaterIsTransitive = (f g h : ℕ → ℕ) → IsGreater f g → IsGreater g h → IsGreater f h

-- of the counts of two lists of sets one is greater, or they are the same at each size
abbrev pub GreaterIsTotal : Type 0
GreaterIsTotal =
    (xs ys : List (List ℕ)) → IsGreater (counts xs) (counts ys) ⊎ (IsGreater (counts ys) (counts xs)
    ⊎ ((i : ℕ) → 1 ≤ i → counts xs i ≡ counts ys i))
