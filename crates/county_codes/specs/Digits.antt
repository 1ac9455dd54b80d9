-- The five digits of a code, and codes after a mark.
use Rattle.std.specs.Prelude.{ℕ, ◌+◌, ◌/◌, ◌%◌, List, [], ◌∷◌, ◌++◌}
use Rattle.std.specs.List.{flat_map}

-- the five digits of a county's code
abbrev pub five_digits : ℕ → List ℕ
five_digits code =
    (48 + code / 10000) ∷ (48 + code / 1000 % 10) ∷ (48 + code / 100 % 10) ∷ (48 + code / 10 % 10) ∷ (48 + code % 10)
    ∷ []

-- codes, each after a mark
abbrev pub each_after : List ℕ → List ℕ → List ℕ
each_after mark county_codes = flat_map (λ code. mark ++ five_digits code) county_codes
