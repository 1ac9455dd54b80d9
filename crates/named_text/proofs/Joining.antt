-- Texts that are written one after the other, each after a mark.
use Rattle.std.proofs.Common.{◌≡◌, ◌++◌, ◌∷◌, [], ℕ, List, refl, ap, flat_map}
use Rattle.std.specs.List.{join_by}

-- the first after this mark, and each other after another
abbrev pub joined_after : {X : Type 0} → (X → List ℕ) → (other mark : List ℕ) → List X → List ℕ
joined_after f other mark [] = []
joined_after f other mark (x ∷ xs) = mark ++ f x ++ joined_after f other other xs

all_after : {X : Type 0} (f : X → List ℕ) (other : List ℕ) (xs : List X)
    → joined_after f other other xs ≡ flat_map (λ x. other ++ f x) xs
all_after f other [] = refl
all_after f other (x ∷ xs) = ap (λ (l : List ℕ). other ++ f x ++ l) (all_after f other xs)

-- the first after no mark
pub joined : {X : Type 0} (f : X → List ℕ) (other : List ℕ) (xs : List X)
    → joined_after f other [] xs ≡ join_by f other xs
joined f other [] = refl
joined f other (x ∷ xs) = ap (λ (l : List ℕ). f x ++ l) (all_after f other xs)
