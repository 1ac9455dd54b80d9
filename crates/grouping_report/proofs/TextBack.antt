-- A grouping is read back from its text.
use Rattle.std.proofs.Common.{◌≡◌, ℕ, ◌+◌, ◌-◌, ◌<◌, ◌≤◌, ◌==◌, Bool, true, false, cond, List, [], ◌∷◌, ◌++◌, length, get_or, None, Ok, All, refl, ap, ◌∙◌, arith, append_assoc}
use Rattle.std.specs.List.{AllByRecursion, filter_map}
use Rattle.std.specs.Str.Lines.{strip_carriage_return}
use Rattle.std.proofs.lemmas.Bool.{ne_eqb}
use Rattle.std.proofs.lemmas.Bool.Decides.{nat_tests}
use Rattle.std.proofs.lemmas.List.Elements.{All-from_recursion, recursion_from_All, All-get_or}
use Rattle.std.proofs.lemmas.List.Splits.{slice_split_at}
use Rattle.county_codes.specs.declared.group.Group.{Group}
use Rattle.grouping_laws.specs.Grouping.{Grouping}
use Rattle.field_lines.specs.Fault.{most_lines, most_bytes}
use Rattle.field_lines.specs.RawPieces.{RawLine, is_lf, raw_lines_from, numbered}
use Rattle.field_lines.specs.Cut.{Line, Cut, cut_of, line_bytes, without_mark, fault_in, in_front}
use Rattle.field_lines.specs.Values.{fault_on, value_on, values_of}
use Rattle.field_lines.proofs.SplitLemmas.{numbered-ended}
use Rattle.field_lines.proofs.CutLemmas.{cut_of-line}
use Rattle.grouping_report.specs.GroupingText.{group_fields, grouping_text, IsReadable}
use Rattle.grouping_reader.specs.Faults.{code_line_fault, code_line_cut_fault}
use Rattle.grouping_reader.specs.GroupingLines.{group_on, grouping_list}
use Rattle.grouping_report.proofs.FieldsBack.{Within, fields_back, fields_within, fields_some}

-- no byte of the line is a CR
no_return : (bytes : List ℕ) → AllByRecursion (Within 48 124) bytes → strip_carriage_return bytes ≡ bytes
no_return [] a = refl
no_return (b ∷ bytes) a =
    let l : List ℕ = b ∷ bytes in
    let last : Within 48 124 (get_or l (length l - 1) 0) = All-get_or (Within 48 124) l (length l - 1) 0 (omega arith) (All-from_recursion (Within 48 124) l a) in
    rw (ne_eqb (get_or l (length l - 1) 0) 13 (λ e. omega (arith, e, last.from))) refl

-- and it does not begin with a byte order mark
no_mark : (bytes : List ℕ) → AllByRecursion (Within 48 124) bytes → without_mark bytes ≡ bytes
no_mark [] a = refl
no_mark (b ∷ bytes) a = rw (ne_eqb 239 b (λ e. omega (arith, e, a.0.to))) refl

-- so it is its own line
line_same : (n : ℕ) (bytes : List ℕ) → AllByRecursion (Within 48 124) bytes → line_bytes n bytes ≡ bytes
line_same n bytes a = go (n == 1)
  where
    go : (b : Bool) → strip_carriage_return (cond b (without_mark bytes) bytes) ≡ bytes
    go true = ap strip_carriage_return (no_mark bytes a) ∙ no_return bytes a
    go false = no_return bytes a

-- and is no LF
no_end : (bytes : List ℕ) → AllByRecursion (Within 48 124) bytes → AllByRecursion (λ b. is_lf b ≡ false) bytes
no_end [] a = tt
no_end (b ∷ bytes) a = (ne_eqb b 10 (λ e. omega (arith, e, a.0.from)), no_end bytes a.1)

-- the first piece of a text that begins with such a line
first_piece : (n : ℕ) (bytes rest : List ℕ) → AllByRecursion (Within 48 124) bytes
    → raw_lines_from n (bytes ++ 10 ∷ rest) ≡ record { number = n; bytes = bytes; ended = true } ∷ raw_lines_from (n + 1) rest
first_piece n bytes rest a =
    ap (numbered n) (slice_split_at is_lf bytes 10 rest (All-from_recursion (λ b. is_lf b ≡ false) bytes (no_end bytes a)) refl)
    ∙ numbered-ended n bytes is_lf rest

-- and its first line
first_line : (n : ℕ) (bytes : List ℕ) (pieces : List RawLine) → n ≤ most_lines → 1 ≤ length bytes → length bytes ≤ most_bytes → AllByRecursion (Within 48 124) bytes
    → cut_of (record { number = n; bytes = bytes; ended = true } ∷ pieces) ≡ in_front (record { number = n; bytes = bytes }) (cut_of pieces)
first_line n [] pieces few some short a = absurd (omega (arith, some))
first_line n (b ∷ bytes) pieces few some short a =
    let piece : RawLine = record { number = n; bytes = b ∷ bytes; ended = true } in
    let sound : fault_in piece ≡ None = grind (arith, nat_tests) in
    cut_of-line piece pieces sound b bytes (line_same n (b ∷ bytes) a)
    ∙ ap (λ (l : List ℕ). in_front (record { number = n; bytes = l }) (cut_of pieces)) (line_same n (b ∷ bytes) a)

-- a group whose line can be read back
pub record IsLine (s : Group) : Type 0 where
  pub seats : s.seats < 65536
  pub some_code : 1 ≤ length s.codes
  pub codes : AllByRecursion (λ c. c ≤ 99999) s.codes
  pub short : length (group_fields s.seats s.codes) ≤ most_bytes

-- the lines of groups, the first of which has number n
abbrev lines_from : ℕ → Grouping → List Line
lines_from n [] = []
lines_from n (s ∷ ss) = record { number = n; bytes = group_fields s.seats s.codes } ∷ lines_from (n + 1) ss

-- the text is cut into them
cut_back : (n : ℕ) (g : Grouping) → AllByRecursion IsLine g → n + length g ≤ most_lines + 1 → cut_of (raw_lines_from n (grouping_text g)) ≡ record { lines = lines_from n g; fault = None }
cut_back n [] lines few = refl
cut_back n (s ∷ ss) lines few =
    let bytes = group_fields s.seats s.codes in
    let within = fields_within s.seats s.codes lines.0.seats lines.0.codes in
    ap (λ (l : List ℕ). cut_of (raw_lines_from n l)) (append_assoc bytes (10 ∷ []) (grouping_text ss))
    ∙ ap cut_of (first_piece n bytes (grouping_text ss) within)
    ∙ first_line n bytes (raw_lines_from (n + 1) (grouping_text ss)) (omega (arith, few)) (fields_some s.seats s.codes lines.0.seats) lines.0.short within
    ∙ ap (λ (c : Cut). in_front (record { number = n; bytes = bytes }) c) (cut_back (n + 1) ss lines.1 (omega (arith, few)))

-- and each gives its group
group_back : (s : Group) → IsLine s → group_on (group_fields s.seats s.codes) ≡ Ok s
group_back s line = rw (fields_back s.seats s.codes line.seats line.some_code line.codes) refl

no_faults : (n : ℕ) (g : Grouping) → AllByRecursion IsLine g → filter_map (fault_on group_on) (lines_from n g) ≡ []
no_faults n [] lines = refl
no_faults n (s ∷ ss) lines = rw (group_back s lines.0) (no_faults (n + 1) ss lines.1)

all_values : (n : ℕ) (g : Grouping) → AllByRecursion IsLine g → filter_map (value_on group_on) (lines_from n g) ≡ g
all_values n [] lines = refl
all_values n (s ∷ ss) lines = rw (group_back s lines.0) (ap (λ (g : Grouping). s ∷ g) (all_values (n + 1) ss lines.1))

lines_back : (g : Grouping) → AllByRecursion IsLine g → length g ≤ most_lines → grouping_list (grouping_text g) ≡ Ok g
lines_back g lines few =
    ap (λ (c : Cut). values_of group_on code_line_fault code_line_cut_fault c.lines c.fault) (cut_back 1 g lines (omega (arith, few)))
    ∙ rw (no_faults 1 g lines, all_values 1 g lines) refl

-- what the types of seats and codes say
pub record IsSpelled (s : Group) : Type 0 where
  pub seats : s.seats < 65536
  pub codes : All (λ c. c ≤ 99999) s.codes

-- a readable grouping is read back from its text
pub text_back : (g : Grouping) → All IsSpelled g → IsReadable g → grouping_list (grouping_text g) ≡ Ok g
text_back g spelled readable = lines_back g (recursion_from_All IsLine g line) readable.few_lines
  where
    line : All IsLine g
    line k d inside = record {
      seats = (spelled k d inside).seats;
      some_code = readable.some_code k d inside;
      codes = recursion_from_All (λ c. c ≤ 99999) (get_or g k d).codes (spelled k d inside).codes;
      short = readable.short_lines k d inside;
    }
