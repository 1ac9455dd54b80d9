use Rattle.std.proofs.Common.{List, ℕ, sym, ap, ◌∙◌}
use Rattle.std.proofs.lemmas.List.{drop_all}
use Rattle.std.proofs.lemmas.Result.{IfOk-weaker}
use Rattle.people_table.specs.QuotedFields.{fields_at}
use Rattle.people_table.specs.CutFields.{fields_behind}
use Rattle.people_table.proofs.fields.fields_of.Goals as goal

pub returns : goal.returns
returns c =
    let cut = c.loop-byte.cut in
    let left = drop_all c.loop-byte.byte-index c.args.line.now c.loop-byte-test.false in
    IfOk-weaker c.end.result _ _
    (λ o is. is c.args.delimiter ∙ ap (λ (l : List ℕ). fields_behind cut (fields_at c.args.delimiter cut.place l)) (sym left) ∙ c.loop-byte.invariant) c.end.ensures
