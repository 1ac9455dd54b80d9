use Rattle.std.proofs.Common.{◌≡◌, ◌≤◌, ◌+◌, ℕ, List, None, Ok, Some, length, refl, sym, ap, subst}
use Rattle.field_lines.specs.Fault.{most_bytes}
use Rattle.field_lines.specs.TextPiece.{raw_of}
use Rattle.field_lines.specs.declared.raw_pieces.TextPiece.{TextPiece}
use Rattle.field_lines.specs.TakenPieces.{piece_at}
use Rattle.field_lines.specs.LinesFrom.{LinesHeld}
use Rattle.field_lines.specs.PiecesFrom.{IsRawRead}
use Rattle.field_lines.specs.ReadPiece.{TakesRaw}
use Rattle.field_lines.proofs.ReadPieceLemmas.{reads_piece, reads_no_piece}
use Rattle.field_lines.proofs.raw_reader.RawReader.next_piece.Goals as goal

pub returns-in-Ok-Some : goal.returns-in-Ok-Some
returns-in-Ok-Some g c =
    let inside = c.self.inside in
    let new = c.take_raw.new.pulled in
    let n = inside.number in
    let given_before = g.S.Source.given c.args.source.now in
    let given_after = g.S.Source.given c.take_raw.new.source in
    let failed_before = g.S.Source.is_failed c.args.source.now in
    let failed_after = g.S.Source.is_failed c.take_raw.new.source in
    let t = c.in-Ok-Some.piece in
    let p : TextPiece = record { number = n; bytes = c.taken-bytes.result; ended = t.ended } in
    let takes : TakesRaw n inside.pulled given_before failed_before (Ok (Some t)) new given_after failed_after = rw c.in-Ok-Some.field-0-is at c.in-Ok-Some.ensures in
    let is : raw_of p ≡ piece_at n new t = ap (λ (l : List ℕ). record { number = n; bytes = l; ended = t.ended }) c.taken-bytes.ensures in
    let next = reads_piece n inside.pulled new inside.fault given_before given_after failed_before failed_after c.in_default.is t p takes is in
    let short : length c.taken-bytes.result.now ≤ most_bytes = subst (λ (l : List ℕ). length l ≤ most_bytes) (sym c.taken-bytes.ensures) takes.answers.1 in (
      (refl, λ _. tt, subst (λ (old : LinesHeld). IsRawRead old given_before failed_before (Ok (Some p)) (record { bytes = new.bytes; number = n + 1; fault = inside.fault }) given_after failed_after) c.self.view_is next),
      record { bytes = short; next = tt },
    )

pub returns-in-Ok-None : goal.returns-in-Ok-None
returns-in-Ok-None g c =
    let inside = c.self.inside in
    let new = c.take_raw.new.pulled in
    let n = inside.number in
    let given_before = g.S.Source.given c.args.source.now in
    let given_after = g.S.Source.given c.take_raw.new.source in
    let failed_before = g.S.Source.is_failed c.args.source.now in
    let failed_after = g.S.Source.is_failed c.take_raw.new.source in
    let takes : TakesRaw n inside.pulled given_before failed_before (Ok None) new given_after failed_after = rw c.in-Ok-None.field-0-is at c.in-Ok-None.ensures in
    let next = reads_no_piece n inside.pulled new inside.fault given_before given_after failed_before failed_after c.in_default.is takes in (
      (refl, λ _. tt, subst (λ (old : LinesHeld). IsRawRead old given_before failed_before (Ok None) (record { bytes = new.bytes; number = n; fault = inside.fault }) given_after failed_after) c.self.view_is next),
      record { bytes = tt; next = tt },
    )
