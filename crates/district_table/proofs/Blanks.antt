-- Words with a blank between two.
use Rattle.std.proofs.Common.{◌≡◌, ℕ, ◌-◌, ◌≤◌, List, [], ◌∷◌, ◌++◌, map, flat_map, length, take, drop, get_or, sym, ◌∙◌, ap, append-nil, append_assoc, arith}
use Rattle.std.proofs.Math.Seq.{take-length}
use Rattle.district_table.specs.DistrictTable.{with_blanks}

after_first : {X : Type 0} (f : X → List ℕ) (x : X) (xs : List X) → with_blanks (map f (x ∷ xs)) ≡ f x ++ flat_map (λ y. 32 ∷ f y) xs
after_first f x [] = sym (append-nil (f x))
after_first f x (y ∷ ys) = ap (λ l. f x ++ (32 ∷ l)) (after_first f y ys)

-- the first word, and then each further word after a blank
pub blanks_before : {X : Type 0} (f : X → List ℕ) (out : List ℕ) (xs : List X) (d : X) → 1 ≤ length xs
    → out ++ with_blanks (map f xs) ≡ (out ++ f (get_or xs 0 d)) ++ flat_map (λ y. 32 ∷ f y) (take (length xs - 1) (drop 1 xs))
blanks_before f out [] d some = absurd (omega arith)
blanks_before f out (x ∷ xs) d some =
    let size : length (x ∷ xs) - 1 ≡ length xs = omega arith in
    rw (size, take-length xs) (ap (λ l. out ++ l) (after_first f x xs) ∙ sym (append_assoc out (f x) (flat_map (λ y. 32 ∷ f y) xs)))
