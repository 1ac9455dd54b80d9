-- Lines that have more fields than a county.
use Rattle.std.proofs.Common.{◌≡◌, ℕ, ◌≤◌, List, [], ◌∷◌, length, Option, Some, None, Err, refl, subst, arith}
use Rattle.std.specs.Option.{option_map, ok_or}
use Rattle.field_lines.specs.Chain.{◌>>=◌}
use Rattle.people_table.specs.declared.fault.PeopleKind.TheVariants.{BadLine}
use Rattle.people_table.specs.QuotedFields.{LineFields, quoted_fields}
use Rattle.people_table.specs.CutFields.{all_fields}
use Rattle.people_table.specs.CountyLines.{texts_in, texts_of, county_in, county_on}

many : (code : List ℕ) (others : List (List ℕ)) → 4 ≤ length (code ∷ others) → (ok_or (texts_in code others) BadLine >>= county_in) ≡ Err BadLine
many code [] long = absurd (omega arith)
many code (p ∷ []) long = absurd (omega arith)
many code (p ∷ n ∷ []) long = absurd (omega arith)
many code (p ∷ n ∷ m ∷ rest) long = refl

pub too_many : (d : ℕ) (line : List ℕ) (fields : List (List ℕ)) → Some fields ≡ option_map all_fields (quoted_fields d line) → 4 ≤ length fields → county_on d line ≡ Err BadLine
too_many d line fields is long = by (quoted_fields d line) is
  where
    by : (o : Option LineFields) → Some fields ≡ option_map all_fields o → (ok_or (texts_of o) BadLine >>= county_in) ≡ Err BadLine
    by None is = absurd cc
    by (Some f) is = let same : fields ≡ f.first ∷ f.others = cc in many f.first f.others (subst (λ (l : List (List ℕ)). 4 ≤ length l) same long)
