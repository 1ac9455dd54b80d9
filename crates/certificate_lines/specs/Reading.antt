-- What a call reads of a text.
use Rattle.std.specs.Prelude.{◌≡◌, List, [], ◌++◌, Result, Ok, Err}
use Rattle.certificate_lines.specs.Rest.{Rest, lines_of, IsTextMemory}
use Rattle.certificate_lines.specs.Items.{items_in_front, items_from}
use Rattle.certificate_lines.specs.Spelling.{text_of_items}
use Rattle.certificate_lines.specs.Fitting.{AllFit}
use Rattle.certificate_lines.specs.declared.fault.TextFault.{TextFault}
use Rattle.certificate_lines.specs.declared.item.Item.{Item}
use Rattle.certificate_lines.specs.declared.item.Wanted.{Wanted}

-- the items from a place on, where these things are wanted in turn, or the first fault
abbrev pub items_at : List Wanted → Rest → Result (List Item) TextFault
items_at wanted rest = items_from wanted rest.number (lines_of rest)

-- The items were read that lead from one place to another, and from what was wanted to what is wanted then, whatever is
-- wanted after that. They are what the text had in front of what it has then, and fit where they stand.
pub record ReadsItems (wanted : List Wanted) (old : Rest) (items : List Item) (left : List Wanted)
    (new : Rest) : Type 0 where
  pub gives : (more : List Wanted) → items_at (wanted ++ more) old ≡ items_in_front items (items_at (left ++ more) new)
  pub text : old.text ≡ text_of_items items ++ new.text
  pub fits : (more : List Wanted) (later : List Item) → AllFit (left ++ more) later
      → AllFit (wanted ++ more) (items ++ later)

-- the first fault was found
abbrev pub Refuses : List Wanted → Rest → TextFault → Type 0
Refuses wanted old fault = (IsTextMemory fault → ⊥) → (more : List Wanted) → items_at (wanted ++ more) old ≡ Err fault

-- What a call answers that reads what is wanted: a value whose items were read, or the first fault.
abbrev pub ReadsAll : {X : Type 0} → List Wanted → (X → List Item) → List Wanted → Rest → Result X TextFault → Rest
    → Type 0
ReadsAll wanted items left old (Ok x) new = ReadsItems wanted old (items x) left new
ReadsAll wanted items left old (Err fault) new = Refuses wanted old fault

-- what an answer gives, seen as items, unless memory was refused
abbrev pub GivesItems : {X : Type 0} → (X → List Item) → Result X TextFault → Result (List Item) TextFault → Type 0
GivesItems items (Ok x) given = given ≡ Ok (items x)
GivesItems items (Err fault) given = (IsTextMemory fault → ⊥) → given ≡ Err fault

-- the value, seen so, unless memory was refused
abbrev pub IsUnlessMemory : {X V : Type 0} → (X → V) → Result X TextFault → V → Type 0
IsUnlessMemory view (Ok x) v = view x ≡ v
IsUnlessMemory view (Err fault) v = IsTextMemory fault

-- nothing is wanted, and nothing is left; or what is left is a fault
abbrev pub EndsUnless : Rest → Result (Unit {0}) TextFault → Type 0
EndsUnless rest (Ok done) = items_at [] rest ≡ Ok []
EndsUnless rest (Err fault) = items_at [] rest ≡ Err fault
