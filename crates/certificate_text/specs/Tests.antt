-- What a test tells of items: whether they fit where some things are wanted.
use Rattle.std.specs.Prelude.{List, ◌++◌, Bool, true, false}
use Rattle.certificate_lines.specs.Fitting.{AllFit}
use Rattle.certificate_lines.specs.Writing.{DontFit}
use Rattle.certificate_lines.specs.declared.item.Item.{Item}
use Rattle.certificate_lines.specs.declared.item.Wanted.{Wanted}

-- The items fit where some things are wanted, together with what follows exactly where what follows fits where the
-- things left are wanted.
pub record Fitting (wanted : List Wanted) (items : List Item) (left : List Wanted) : Type 0 where
  pub fits : (more : List Wanted) (later : List Item) → AllFit (left ++ more) later
      → AllFit (wanted ++ more) (items ++ later)
  pub rest : (more : List Wanted) (later : List Item) → AllFit (wanted ++ more) (items ++ later)
      → AllFit (left ++ more) later

-- A test is true where the items fit, and false where they don't, whatever follows them.
abbrev pub Tests : List Wanted → List Item → List Wanted → Bool → Type 0
Tests wanted items left true = Fitting wanted items left
Tests wanted items left false = DontFit wanted items
