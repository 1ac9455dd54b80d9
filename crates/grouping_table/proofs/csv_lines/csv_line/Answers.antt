use Rattle.std.proofs.Common.{◌≤◌, ◌∙◌, List, ℕ, length, map}
use Rattle.std.proofs.lemmas.List.{length-map}
use Rattle.grouping_table.proofs.RowText.{row_is_line}
use Rattle.grouping_table.proofs.csv_lines.csv_line.Goals as goal

pub returns-in-Ok : goal.returns-in-Ok
returns-in-Ok c =
    let fields : List (List ℕ) = map (λ f. f.now) c.args.fields.now in
    let some : 2 ≤ length fields = simp length-map c.requires in
    c.in-Ok.ensures ∙ row_is_line fields some
