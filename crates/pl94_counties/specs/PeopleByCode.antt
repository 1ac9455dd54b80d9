-- People by number, one number on a line: what the lines of a text give, and its first fault.
use Rattle.std.specs.Prelude.{◌≡◌, ◌≢◌, ℕ, ◌==◌, nat_le, Bool, false, List, [], ◌∷◌, ◌++◌, length, Option, Some, None}
use Rattle.std.specs.Prelude.{Result, Ok, Err, is_some, fold, if◌then◌else◌}
use Rattle.std.specs.List.{list_any, filter_map}
use Rattle.std.specs.Map.{lookup}
use Rattle.std.specs.Option.{option_map}
use Rattle.std.specs.Ordering.{nat_cmp}
use Rattle.std.specs.BTreeMap.{is_at, insert_entry}
use Rattle.field_lines.specs.Fault.{line_of_fault}
use Rattle.field_lines.specs.Cut.{Cut, Line, cut}
use Rattle.field_lines.specs.Values as values
use Rattle.field_lines.specs.declared.fault.LineFault.{LineFault}
use Rattle.pl94_counties.specs.declared.fault.Pl94Kind.{Pl94Kind}
use Rattle.pl94_counties.specs.declared.fault.Pl94Kind.TheVariants.{TooMany, Lower, Memory}
use Rattle.pl94_counties.specs.declared.fault.File.{File}
use Rattle.pl94_counties.specs.declared.fault.Pl94Fault.{Pl94Fault}

-- what one line gives: a number with its people, nothing, or what is wrong with the line
abbrev pub LineEntry : Type 0
LineEntry = Result (Option (ℕ × ℕ)) Pl94Kind

-- which numbers may stand on lines: what is wrong where a number stood before, and how many there may be
pub record Rule : Type 0 where
  pub double : Pl94Kind
  pub most : Option ℕ

-- whether there are as many numbers as there may be
abbrev pub is_full : Option ℕ → ℕ → Bool
is_full None count = false
is_full (Some most) count = nat_le most count

-- a line that always has a number
abbrev pub entry_given : Result (ℕ × ℕ) Pl94Kind → LineEntry
entry_given (Ok entry) = Ok (Some entry)
entry_given (Err kind) = Err kind

-- the number with its people, where the line gives them
abbrev pub entry_of : LineEntry → Option (ℕ × ℕ)
entry_of (Ok entry) = entry
entry_of (Err kind) = None

-- what the lines give, in their order
abbrev pub entries_on : (List ℕ → LineEntry) → List Line → List (ℕ × ℕ)
entries_on read lines = filter_map (λ l. entry_of (read l.bytes)) lines

-- the people of a number among entries
abbrev pub people_at_number : ℕ → List (ℕ × ℕ) → Option ℕ
people_at_number number entries = lookup (is_at (nat_cmp number)) entries

-- entries by number with what a further line gives, unless it is at fault after them
abbrev pub with_given : Rule → List (ℕ × ℕ) → LineEntry → Result (List (ℕ × ℕ)) Pl94Kind
with_given rule placed (Err kind) = Err kind
with_given rule placed (Ok None) = Ok placed
with_given rule placed (Ok (Some e)) =
    if is_some (people_at_number e.0 placed) then Err rule.double
    else if is_full rule.most (length placed) then Err TooMany
    else Ok (insert_entry nat_cmp placed e.0 e.1)

-- a further line was added to entries, or is at fault after them, unless memory was refused
abbrev pub Adds : Rule → List (ℕ × ℕ) → LineEntry → Result (Unit {0}) Pl94Kind → List (ℕ × ℕ) → Type 0
Adds rule old given (Ok done) new = with_given rule old given ≡ Ok new
Adds rule old given (Err kind) new = kind ≢ Memory → with_given rule old given ≡ Err kind

-- whether one of the entries has the number
abbrev pub has_number : ℕ → List (ℕ × ℕ) → Bool
has_number number entries = list_any (λ e. number == e.0) entries

-- the entries by number, each put in its place
abbrev pub by_number : List (ℕ × ℕ) → List (ℕ × ℕ)
by_number entries = fold (λ placed e. insert_entry nat_cmp placed e.0 e.1) [] entries

-- what is wrong with a line after the entries of the lines before it: its number is among theirs, or there are enough
abbrev pub pl94_line_fault : Rule → List (ℕ × ℕ) → LineEntry → Option Pl94Kind
pl94_line_fault rule earlier (Err kind) = Some kind
pl94_line_fault rule earlier (Ok None) = None
pl94_line_fault rule earlier (Ok (Some e)) =
    if has_number e.0 earlier then Some rule.double
    else if is_full rule.most (length (by_number earlier)) then Some TooMany
    else None

-- what is wrong with the first line at fault, and its number; `before` are the lines before the others
abbrev pub first_entry_fault : (List ℕ → LineEntry) → Rule → List Line → List Line → Option (Pl94Kind × ℕ)
first_entry_fault read rule before lines =
    values.first_fault_after (λ before l. pl94_line_fault rule (entries_on read before) (read l.bytes))
    (λ before l. before ++ l ∷ []) before lines

-- memory was refused
abbrev pub IsPl94Memory : Pl94Fault → Type 0
IsPl94Memory fault = fault.kind ≡ Memory

-- the fault of a text whose cut ends in a fault
abbrev pub pl94_cut_fault : File → LineFault → Pl94Fault
pl94_cut_fault file fault = record { kind = Lower fault; file = file; line = line_of_fault fault }

-- what is wrong with the line of a number
abbrev pub pl94_fault_on : File → Pl94Kind × ℕ → Pl94Fault
pl94_fault_on file f = record { kind = f.0; file = file; line = f.1 }

-- the entries, unless a line is at fault, or the cut after all its lines
abbrev pub unless_entry_fault : File → Option (Pl94Kind × ℕ) → Option LineFault → List (ℕ × ℕ)
    → Result (List (ℕ × ℕ)) Pl94Fault
unless_entry_fault file first fault entries =
    values.unless_fault (option_map (pl94_fault_on file) first) (option_map (pl94_cut_fault file) fault) entries

-- the people by number of a cut, or its first fault
abbrev pub people_of_numbers : (List ℕ → LineEntry) → Rule → File → Cut → Result (List (ℕ × ℕ)) Pl94Fault
people_of_numbers read rule file c =
    unless_entry_fault file (first_entry_fault read rule [] c.lines) c.fault (by_number (entries_on read c.lines))

-- the people by number of a whole text, or its first fault
abbrev pub people_by_number : (List ℕ → LineEntry) → Rule → File → List ℕ → Result (List (ℕ × ℕ)) Pl94Fault
people_by_number read rule file text = people_of_numbers read rule file (cut text)
