-- Codes in lists of codes.
use Rattle.std.specs.Prelude.{ℕ, not, List, [], ◌∷◌, ◌++◌, Option, Some, None, find, if◌then◌else◌}
use Rattle.place_sets.specs.Lists.{contains}

-- the first code of a list that stands before, in the list or among `before`
abbrev pub repeated_after : List ℕ → List ℕ → Option ℕ
repeated_after before [] = None
repeated_after before (c ∷ cs) = if contains before c then Some c else repeated_after (before ++ c ∷ []) cs

-- the first code that stands before in its list
abbrev pub first_repeated : List ℕ → Option ℕ
first_repeated codes = repeated_after [] codes

-- the first code that isn't listed
abbrev pub first_unlisted : List ℕ → List ℕ → Option ℕ
first_unlisted listed codes = find (λ c. not (contains listed c)) codes
