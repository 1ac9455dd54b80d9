use Rattle.std.proofs.Common.{◌≡◌, ℕ, List, drop, Option, Some, None, sym, ap, ◌∙◌}
use Rattle.std.specs.Borrow.{Bor}
use Rattle.std.specs.Iterator.{YieldsFirstRef}
use Rattle.field_lines.specs.Fields.{fields_of}
use Rattle.grouping_reader.proofs.CodeLemmas.{collected}
use Rattle.grouping_reader.proofs.seats.codes_in.Goals as goal

-- the fields after the first
after_first : (old new : List (List ℕ)) (r : Option (Bor (List ℕ))) → YieldsFirstRef (λ (s : List (List ℕ)). s) old r new → new ≡ drop 1 old
after_first old new None is = is.1 ∙ ap (λ (l : List (List ℕ)). drop 1 l) (sym is.0)
after_first old new (Some x) is = ap (λ (l : List (List ℕ)). drop 1 l) (sym is)

pub loop-field-init : goal.loop-field-init
loop-field-init c =
    let fields = fields_of 124 c.args.line.now in
    let left : c.next-seats.new.self ≡ drop 1 fields = after_first _ _ c.next-seats.result c.next-seats.ensures.steps ∙ ap (λ (l : List (List ℕ)). drop 1 l) c.new-fields.ensures.fields in
    rw (c.new-codes.ensures.items, left) (collected (drop 1 fields))
