-- What a call writes at the end of a text.
use Rattle.std.specs.Prelude.{◌≡◌, ℕ, List, ◌++◌}
use Rattle.certificate_lines.specs.Spelling.{text_of_items}
use Rattle.certificate_lines.specs.declared.item.Item.{Item}

-- the lines of items were written
abbrev pub AddsLines : List Item → List ℕ → List ℕ → Type 0
AddsLines items old new = new ≡ old ++ text_of_items items
