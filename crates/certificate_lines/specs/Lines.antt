-- What each line says, by the words on it. The first word names the form, the number of words is tested next, and then
-- the words are read from the left.
use Rattle.std.specs.Prelude.{ℕ, ◌+◌, ◌*◌, ◌<◌, ◌&&◌, nat_eq, nat_lt, nat_le, Bool, true, false, List, [], ◌∷◌, length}
use Rattle.std.specs.Prelude.{drop, codes, Option, Some, None, Result, Ok, Err, if◌then◌else◌}
use Rattle.std.specs.Cmp.Lexicographic.{pointwise}
use Rattle.field_lines.specs.Chain.{◌>>=◌}
use Rattle.county_codes.specs.Limits.{most_counties}
use Rattle.county_codes.specs.declared.group.Group.{Group}
use Rattle.county_codes.specs.declared.tolerance.Tolerance.{Tolerance}
use Rattle.certificate_lines.specs.Words.{number, code, pair}
use Rattle.certificate_lines.specs.declared.fault.TextKind.{TextKind}
use Rattle.certificate_lines.specs.declared.fault.TextKind.TheVariants.{BadHead, BadWord, BadNumber, NotCanonical}
use Rattle.certificate_lines.specs.declared.fault.TextKind.TheVariants.{TooDeep}
use Rattle.certificate_data.specs.declared.format.Format.{Format}
use Rattle.certificate_data.specs.declared.format.Format.TheVariants.{Plain, Wide}
use Rattle.certificate_data.specs.declared.weights.Weight.{Weight}
use Rattle.certificate_lines.specs.declared.item.Version.{Version}
use Rattle.certificate_lines.specs.declared.item.Version.TheVariants.{One, Two}
use Rattle.certificate_data.specs.declared.allowance.Allowance.{Allowance}
use Rattle.certificate_data.specs.declared.allowance.Allowance.TheVariants.{Room, Weigh}
use Rattle.certificate_lines.specs.declared.item.Opening.{Opening}
use Rattle.certificate_lines.specs.declared.item.Opening.TheVariants.{Branch, Stuck, Seats, Bound}

-- how many counties, groups, lines of a bound and levels of branches there may be
abbrev pub most : ℕ
most = most_counties

-- the first word is this one
abbrev pub begins : List ℕ → List (List ℕ) → Bool
begins name [] = false
begins name (word ∷ words) = pointwise nat_eq word name

-- the words after a first word
abbrev pub named : List ℕ → List (List ℕ) → Result (List (List ℕ)) TextKind
named name words = if begins name words then Ok (drop 1 words) else Err BadWord

-- the words, where there are from the least to the most
abbrev pub counted : ℕ → ℕ → List (List ℕ) → Result (List (List ℕ)) TextKind
counted least greatest words =
    if nat_le least (length words) && nat_le (length words) greatest then Ok words else Err BadWord

-- the number of the first word, and the words after it
abbrev pub number_at : ℕ → ℕ → List (List ℕ) → Result (ℕ × List (List ℕ)) TextKind
number_at least greatest [] = Err BadWord
number_at least greatest (word ∷ words) = do
  n ← number least greatest word
  Ok (n, words)

-- the code of the first word, and the words after it
abbrev pub code_word_at : List (List ℕ) → Result (ℕ × List (List ℕ)) TextKind
code_word_at [] = Err BadWord
code_word_at (word ∷ words) = do
  c ← code word
  Ok (c, words)

-- what all words say, one after the other
abbrev pub each : {X : Type 0} → (List ℕ → Result X TextKind) → List (List ℕ) → Result (List X) TextKind
each read [] = Ok []
each read (word ∷ words) = do
  x ← read word
  xs ← each read words
  Ok (x ∷ xs)

-- the codes of weights ascend
abbrev pub ascend : List Weight → Bool
ascend (a ∷ b ∷ ws) = nat_lt a.county b.county && ascend (b ∷ ws)
ascend _ = true

unfoldable pub head_on : List ℕ → Result (Format × Version) TextKind
head_on bytes =
    if pointwise nat_eq bytes (codes "county-groups certificate 1") then Ok (Plain, One)
    else if pointwise nat_eq bytes (codes "county-groups wide certificate 1") then Ok (Wide, One)
    else if pointwise nat_eq bytes (codes "county-groups certificate 2") then Ok (Plain, Two)
    else if pointwise nat_eq bytes (codes "county-groups wide certificate 2") then Ok (Wide, Two)
    else Err BadHead

-- the tolerance that a certificate names: a fraction of at most a half
unfoldable pub tolerance_on : List (List ℕ) → Result Tolerance TextKind
tolerance_on line = do
  words ← named (codes "window") line
  words ← counted 2 2 words
  numerator ← number_at 0 500 words
  denominator ← number_at 1 1000 numerator.1
  if nat_le (2 * numerator.0) denominator.0 then Ok (record { numerator = numerator.0; denominator = denominator.0 }) else Err BadNumber

unfoldable pub order_on : List (List ℕ) → Result (List ℕ) TextKind
order_on line = do
  words ← named (codes "order") line
  words ← counted 0 most words
  each code words

unfoldable pub limit_on : List (List ℕ) → Result ℕ TextKind
limit_on line = do
  words ← named (codes "limit") line
  words ← counted 1 1 words
  limit ← number_at 0 most words
  Ok limit.0

unfoldable pub target_on : List (List ℕ) → Result (Option ℕ) TextKind
target_on line = do
  words ← named (codes "target") line
  words ← counted 1 1 words
  if begins (codes "none") words then Ok None else (do
    groups ← number_at 0 most words
    Ok (Some groups.0))

unfoldable pub group_on : List (List ℕ) → Result Group TextKind
group_on line = do
  words ← named (codes "group") line
  words ← counted 2 (1 + most) words
  seats ← number_at 0 65535 words
  county_codes ← each code seats.1
  Ok (record { seats = seats.0; codes = county_codes })

-- a branch has a limit of its own in a wide certificate, and there has to be a level for it
unfoldable pub branch_on : Format → ℕ → List (List ℕ) → Result Opening TextKind
branch_on Plain levels words = do
  words ← counted 1 1 words
  county ← code_word_at words
  if nat_lt 0 levels then Ok (Branch county.0 None) else Err TooDeep
branch_on Wide levels words = do
  words ← counted 2 2 words
  county ← code_word_at words
  limit ← number_at 1 most county.1
  if nat_lt 0 levels then Ok (Branch county.0 (Some limit.0)) else Err TooDeep

unfoldable pub stuck_on : List (List ℕ) → Result Opening TextKind
stuck_on words = do
  words ← counted 1 1 words
  county ← code_word_at words
  Ok (Stuck county.0)

unfoldable pub bound_on : List (List ℕ) → Result Opening TextKind
bound_on words = do
  words ← counted 1 1 words
  lines ← number_at 0 most words
  Ok (Bound lines.0)

unfoldable pub opening_on : Format → ℕ → List (List ℕ) → Result Opening TextKind
opening_on format levels line =
    if begins (codes "branch") line then branch_on format levels (drop 1 line)
    else if begins (codes "stuck") line then stuck_on (drop 1 line)
    else if begins (codes "seats") line then (do
      words ← counted 0 0 (drop 1 line)
      Ok Seats)
    else if begins (codes "bound") line then bound_on (drop 1 line)
    else Err BadWord

-- a branch or a leaf of a partial tree, or none at an open leaf
unfoldable pub part_on : Format → ℕ → List (List ℕ) → Result (Option Opening) TextKind
part_on format levels line =
    if begins (codes "open") line then (do
      words ← counted 0 0 (drop 1 line)
      Ok None)
    else (do
      opening ← opening_on format levels line
      Ok (Some opening))

-- the codes of a take, or none at the mark
unfoldable pub take_on : List (List ℕ) → Result (Option (List ℕ)) TextKind
take_on line =
    if begins (codes "take") line then (do
      words ← counted 1 most (drop 1 line)
      county_codes ← each code words
      Ok (Some county_codes))
    else if begins (codes "mark") line then (do
      words ← counted 0 0 (drop 1 line)
      Ok None)
    else Err BadWord

unfoldable pub weigh_on : List (List ℕ) → Result Allowance TextKind
weigh_on words = do
  quota ← number_at 1 256000000 words
  weights ← each pair quota.1
  if ascend weights then Ok (Weigh quota.0 weights) else Err NotCanonical

unfoldable pub allowance_on : List (List ℕ) → Result Allowance TextKind
allowance_on line =
    if begins (codes "room") line then (do
      words ← counted 0 0 (drop 1 line)
      Ok Room)
    else if begins (codes "weigh") line then weigh_on (drop 1 line)
    else Err BadWord

unfoldable pub end_on : List (List ℕ) → Result (Unit {0}) TextKind
end_on line = do
  words ← named (codes "end") line
  words ← counted 0 0 words
  Ok tt

-- a branch that was read had a level
abbrev pub HasLevel : ℕ → Opening → Type 0
HasLevel levels (Branch county limit) = 0 < levels
HasLevel levels (Stuck county) = Unit {0}
HasLevel levels Seats = Unit {0}
HasLevel levels (Bound lines) = Unit {0}

abbrev pub HasPartLevel : ℕ → Option Opening → Type 0
HasPartLevel levels None = Unit {0}
HasPartLevel levels (Some opening) = HasLevel levels opening
