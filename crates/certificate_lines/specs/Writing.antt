-- What a call writes at the end of a text.
use Rattle.std.specs.Prelude.{◌≡◌, ℕ, List, ◌++◌, Result, Ok, Err}
use Rattle.certificate_lines.specs.Spelling.{item_line, text_of_items}
use Rattle.certificate_lines.specs.Fitting.{AllFit}
use Rattle.certificate_lines.specs.declared.fault.WriteFault.{WriteFault}
use Rattle.certificate_lines.specs.declared.fault.WriteFault.TheVariants.{NoSpelling}
use Rattle.certificate_lines.specs.declared.item.Item.{Item}
use Rattle.certificate_lines.specs.declared.item.Wanted.{Wanted}

-- the line of an item was written, which fits
pub record WroteLine (IsFit : Type 0) (item : Item) (old new : List ℕ) : Type 0 where
  pub text : new ≡ old ++ item_line item
  pub fits : IsFit

-- A call writes the line of an item, where it fits.
abbrev pub WritesLine : Type 0 → Item → List ℕ → Result (Unit {0}) WriteFault → List ℕ → Type 0
WritesLine IsFit item old (Ok done) new = WroteLine IsFit item old new
WritesLine IsFit item old (Err fault) new = fault ≡ NoSpelling → IsFit → ⊥

-- The lines of items were written, where some things are wanted. They fit there together with what follows exactly
-- where what follows fits where the things left are wanted.
pub record Wrote (wanted : List Wanted) (items : List Item) (left : List Wanted) (old new : List ℕ) : Type 0 where
  pub text : new ≡ old ++ text_of_items items
  pub fits : (more : List Wanted) (later : List Item) → AllFit (left ++ more) later
      → AllFit (wanted ++ more) (items ++ later)
  pub rest : (more : List Wanted) (later : List Item) → AllFit (wanted ++ more) (items ++ later)
      → AllFit (left ++ more) later

-- the items don't fit, whatever follows them
abbrev pub DontFit : List Wanted → List Item → Type 0
DontFit wanted items = (more : List Wanted) (later : List Item) → AllFit (wanted ++ more) (items ++ later) → ⊥

-- A call writes the lines of items, where they fit.
abbrev pub Writes : List Wanted → List Item → List Wanted → List ℕ → Result (Unit {0}) WriteFault → List ℕ → Type 0
Writes wanted items left old (Ok done) new = Wrote wanted items left old new
Writes wanted items left old (Err fault) new = fault ≡ NoSpelling → DontFit wanted items
