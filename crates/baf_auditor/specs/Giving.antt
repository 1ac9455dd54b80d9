-- The listed blocks that lines give to districts.
use Rattle.std.specs.Prelude.{◌≡◌, ◌≢◌, ◌↔◌, ℕ, ◌==◌, ◌&&◌, Bool, List, map, Contains, AllPairs, Option, Some, None, if◌then◌else◌}
use Rattle.std.specs.List.{list_any}
use Rattle.std.specs.Str.{bytes_eq}
use Rattle.std.specs.Option.{option_map}
use Rattle.std.specs.Ordering.{nat_cmp, ordering_then}
use Rattle.std.specs.declared.cmp.Ordering.{Ordering}
use Rattle.std.specs.Cmp.Lexicographic.{slice_cmp}
use Rattle.baf_auditor.specs.Labels.{assigns}
use Rattle.baf_auditor.specs.declared.assignments.Assignment.{Assignment}

-- labels with blocks: by label, and then by code
abbrev pub by_label : List ℕ × ℕ → List ℕ × ℕ → Ordering
by_label x y = ordering_then (slice_cmp nat_cmp x.0 y.0) (nat_cmp x.1 y.1)

-- whether a line gives the block to the district of the label
abbrev pub gives : List ℕ × ℕ → Assignment → Bool
gives key line = assigns line.label && (bytes_eq line.label key.0 && line.block == key.1)

-- the people of a listed block that lines give to a district, if they do
abbrev pub giving : (ℕ → Option ℕ) → List Assignment → List ℕ × ℕ → Option ℕ
giving listed lines key = if list_any (gives key) lines then listed key.1 else None

-- the listed block that a line gives to a district, with its label and its people, if it gives one
abbrev pub given_entry : (ℕ → Option ℕ) → Assignment → Option ((List ℕ × ℕ) × ℕ)
given_entry listed line =
    if assigns line.label then option_map (λ people. ((line.label, line.block), people)) (listed line.block) else None

-- a list has each listed block that lines give to a district once for each label, with its people, and nothing else
pub record AreGiven (listed : ℕ → Option ℕ) (lines : List Assignment) (given : List ((List ℕ × ℕ) × ℕ)) : Type 0 where
  pub once : AllPairs (λ x y. x ≢ y) (map (λ e. e.0) given)
  pub are : (key : List ℕ × ℕ) (people : ℕ) → Contains given (key, people) ↔ (giving listed lines key ≡ Some people)
