use Rattle.std.proofs.Common.{◌∙◌, ◌==◌, ℕ, List, Err, length, ap, sym}
use Rattle.certificate_lines.specs.Rest.{text_fault_at}
use Rattle.certificate_lines.specs.declared.fault.TextKind.TheVariants.{AfterEnd}
use Rattle.certificate_lines.proofs.ReadLaws.{ended_fault}
use Rattle.certificate_lines.proofs.cursor.ended.Goals as goal

pub returns-else-is_empty : goal.returns-else-is_empty
returns-else-is_empty c =
    ended_fault c.args.cursor.now (ap (λ (l : List ℕ). length l == 0) (sym c.rest.ensures) ∙ sym c.is_empty.ensures ∙ c.if-is_empty.false) ∙ ap (λ (n : ℕ). Err (text_fault_at AfterEnd n)) (sym c.number.ensures)
