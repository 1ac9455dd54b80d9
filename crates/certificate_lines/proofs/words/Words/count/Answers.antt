use Rattle.std.proofs.Common.{◌∙◌, ◌+◌, ◌==◌, ℕ, length, ap, sym}
use Rattle.std.proofs.lemmas.List.Splits.{length-slice_split}
use Rattle.field_lines.specs.Fields.{fields_left}
use Rattle.certificate_lines.proofs.words.Words.count.Goals as goal

pub returns-in-Some : goal.returns-in-Some
returns-in-Some c =
    ap (λ (k : ℕ). k + 1) c.blanks.ensures.value ∙ sym (length-slice_split (λ b. b == 32) c.in-Some.rest.now) ∙ ap length (ap (fields_left 32) (sym c.in-Some.is) ∙ c.self.view_is)
