-- The lines that the crate `csv` writes are those of the definitions.
use Rattle.std.proofs.Common.{◌≡◌, ◌∙◌, ◌≤◌, ◌==◌, ◌||◌, Bool, true, false, cond, ℕ, List, [], ◌∷◌, ◌++◌, map, length, refl, ap, append-nil, arith}
use Rattle.std.specs.List.{list_any, join_with_byte}
use Rattle.csv.specs.Quoting.{needs_byte}
use Rattle.csv.specs.Writing as csv
use Rattle.csv.specs.Writing.{default_writer}
use Rattle.grouping_table.specs.Quoting.{calls_for_quotes, doubled_quotes, field_text, line_text}

or-false : (b : Bool) → (b || false) ≡ b
or-false true = refl
or-false false = refl

same_byte : (b : ℕ) → needs_byte default_writer b ≡ calls_for_quotes b
same_byte b = or-false (calls_for_quotes b || false) ∙ or-false (calls_for_quotes b)

same_test : (field : List ℕ) → list_any (needs_byte default_writer) field ≡ list_any calls_for_quotes field
same_test [] = refl
same_test (b ∷ rest) = rw (same_byte b, same_test rest) refl

same_quotes : (field : List ℕ) → csv.escaped default_writer field ≡ doubled_quotes field
unfolding csv.escaped
same_quotes [] = refl
same_quotes (b ∷ rest) = ap (λ l. cond (b == 34) (34 ∷ b ∷ l) (b ∷ l)) (same_quotes rest)

same_field : (field : List ℕ) → csv.field_text default_writer field ≡ field_text field
same_field field = rw (same_test field, same_quotes field) refl

same_rest : (field : List ℕ) (rest : List (List ℕ)) → csv.field_text default_writer field ++ csv.fields_text default_writer rest ≡ join_with_byte 44 (map field_text (field ∷ rest))
unfolding csv.fields_text
same_rest field [] = append-nil (csv.field_text default_writer field) ∙ same_field field
same_rest field (next ∷ rest) = rw (same_field field) (ap (λ l. field_text field ++ (44 ∷ l)) (same_rest next rest))

-- a record of two fields or more
pub row_is_line : (fields : List (List ℕ)) → 2 ≤ length fields → csv.row_text default_writer fields ≡ line_text fields
unfolding csv.is_blank
row_is_line [] few = absurd (omega arith)
row_is_line (field ∷ []) few = absurd (omega arith)
row_is_line (field ∷ next ∷ rest) some = ap (λ l. l ++ (10 ∷ [])) (same_rest field (next ∷ rest))
