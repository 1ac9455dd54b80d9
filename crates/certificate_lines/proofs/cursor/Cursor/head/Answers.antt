use Rattle.std.proofs.Common.{◌∙◌, ap, sym}
use Rattle.certificate_lines.specs.Items.{head_in}
use Rattle.certificate_lines.specs.Rest.{Rest, lines_of}
use Rattle.certificate_lines.proofs.ReadLaws.{fault_first}
use Rattle.certificate_lines.proofs.cursor.Cursor.head.Goals as goal

pub returns-in-Ok : goal.returns-in-Ok
returns-in-Ok c =
    let e = c.in-Some.ensures in
    record {
      piece = record { number = c.args.self.now.number; bytes = c.in-Some.bytes.now; ended = c.in-Some.ended };
      lines = e.0;
      value = sym c.head_of.ensures ∙ c.in-Ok.is;
      number = e.1;
      text = e.2;
      shorter = e.3;
    }

pub returns-in-Err : goal.returns-in-Err
returns-in-Err c =
    let e = c.in-Some.ensures in
    λ mem. fault_first (λ p. head_in p.bytes p.ended) c.args.self.now (record { number = c.args.self.now.number; bytes = c.in-Some.bytes.now; ended = c.in-Some.ended }) (lines_of c.next_piece.new.self) _ e.0 (sym c.head_of.ensures ∙ c.in-Err.is) (ap (λ (r : Rest). r.number) c.self.view_is)
