use Rattle.std.proofs.Common.{◌≡◌, ◌≤◌, ◌+◌, ℕ, List, None, Ok, Some, length, refl, sym, ap, subst, ◌∙◌, arith}
use Rattle.field_lines.specs.Fault.{most_lines, most_bytes}
use Rattle.field_lines.specs.Cut.{Line, line_bytes, line_of}
use Rattle.field_lines.specs.TakenPieces.{line_at}
use Rattle.field_lines.specs.LinesFrom.{LinesHeld, IsNextRead}
use Rattle.field_lines.specs.ReadLine.{TakesLine}
use Rattle.field_lines.proofs.ReadLineLemmas.{reads_line, reads_none}
use Rattle.field_lines.proofs.line_reader.LineReader.next_line.Goals as goal

pub returns-in-Ok-Some : goal.returns-in-Ok-Some
returns-in-Ok-Some g c =
    let inside = c.self.inside in
    let new = c.take_line.new.pulled in
    let n = c.take_line.new.number in
    let given_before = g.S.Source.given c.args.source.now in
    let given_after = g.S.Source.given c.take_line.new.source in
    let failed_before = g.S.Source.is_failed c.args.source.now in
    let failed_after = g.S.Source.is_failed c.take_line.new.source in
    let t = c.in-Ok-Some.line in
    let takes : TakesLine inside.number inside.pulled given_before failed_before (Ok (Some t)) n new given_after failed_after = rw c.in-Ok-Some.field-0-is at c.in-Ok-Some.ensures.takes in
    let bytes : c.line_in.result.now ≡ line_bytes t.number c.taken-bytes.result.now = c.line_in.ensures.value ∙ ap (λ k. line_bytes k c.taken-bytes.result.now) c.from.ensures in
    let is : line_of (t.number, c.line_in.result) ≡ line_at new t = ap (λ (l : List ℕ). record { number = t.number; bytes = l }) (bytes ∙ ap (line_bytes t.number) c.taken-bytes.ensures) in
    let from : inside.number ≤ t.number = rw c.in-Ok-Some.field-0-is at c.in-Ok-Some.ensures.line in
    let to : t.number + 1 ≡ n = takes.place.1 in
    let least : 1 ≤ inside.number = c.self.invariant.0 in
    let most : n ≤ most_lines + 1 = c.take_line.ensures.to in
    let some : 1 ≤ length c.line_in.result.now = subst (λ (l : List ℕ). 1 ≤ length l) (sym (ap (λ (l : Line). l.bytes) is)) takes.place.2 in
    let short : length c.line_in.result.now ≤ most_bytes = omega (arith, c.line_in.ensures.shorter, ap length c.taken-bytes.ensures, takes.place.3) in
    let next = reads_line inside.number n inside.pulled new inside.fault given_before given_after failed_before failed_after c.in_default.is t (t.number, c.line_in.result) takes from c.take_line.ensures.to is in (
      (refl, λ _. tt, subst (λ (old : LinesHeld). IsNextRead old given_before failed_before (Ok (Some (t.number, c.line_in.result))) (record { bytes = new.bytes; number = n; fault = inside.fault }) given_after failed_after) c.self.view_is next),
      record { number = (omega arith, omega arith); bytes = (some, short); fault = tt; next = tt },
    )

pub returns-in-Ok-None : goal.returns-in-Ok-None
returns-in-Ok-None g c =
    let inside = c.self.inside in
    let new = c.take_line.new.pulled in
    let n = c.take_line.new.number in
    let given_before = g.S.Source.given c.args.source.now in
    let given_after = g.S.Source.given c.take_line.new.source in
    let failed_before = g.S.Source.is_failed c.args.source.now in
    let failed_after = g.S.Source.is_failed c.take_line.new.source in
    let takes : TakesLine inside.number inside.pulled given_before failed_before (Ok None) n new given_after failed_after = rw c.in-Ok-None.field-0-is at c.in-Ok-None.ensures.takes in
    let next = reads_none inside.number n inside.pulled new inside.fault given_before given_after failed_before failed_after c.in_default.is takes in (
      (refl, λ _. tt, subst (λ (old : LinesHeld). IsNextRead old given_before failed_before (Ok None) (record { bytes = new.bytes; number = n; fault = inside.fault }) given_after failed_after) c.self.view_is next),
      record { number = tt; bytes = tt; fault = tt; next = tt },
    )
