use Rattle.std.proofs.Common.{◌≡◌, Some, None, take, sym, ap, ◌∙◌, rules}
use Rattle.field_lines.specs.Cut.{fault_at}
use Rattle.field_lines.specs.Front.{IsFrontPiece}
use Rattle.field_lines.specs.TakenPieces.{taken_bytes}
use Rattle.field_lines.proofs.ReadLineLemmas.{piece_faulty, taken_first}
use Rattle.field_lines.proofs.line_reader.take_piece.Goals as goal

pub returns-in-Some-fault_at-clause-takes : goal.returns-in-Some-fault_at-clause-takes
returns-in-Some-fault_at-clause-takes g c =
    let n = c.args.number in
    let new = c.front.new.self in
    let front = c.in-Some.front in
    let fault = c.in-Some-fault_at.fault in
    let at : fault_at n (take front.length new.bytes) ≡ Some fault = ap (fault_at n) (sym c.piece.ensures.value) ∙ sym c.fault_at.ensures.value ∙ c.in-Some-fault_at.is in
    let is_front : IsFrontPiece new.bytes (g.S.Source.given c.front.new.source).ended front.length front.ended = rw c.in-Some.is at c.in-Ok.ensures.front in
    piece_faulty n c.args.pulled.now new _ _ (g.S.Source.is_failed c.args.source.now) (g.S.Source.is_failed c.front.new.source) front.ended front.length fault c.front.ensures.pulls is_front (search rules) at

pub returns-in-None-clause-takes : goal.returns-in-None-clause-takes
returns-in-None-clause-takes g c =
    let n = c.args.number in
    let mid = c.front.new.self in
    let new = c.take_piece.new.self in
    let front = c.in-Some.front in
    let ended = (g.S.Source.given c.front.new.source).ended in
    let pulls = c.front.ensures.pulls in
    let is_front : IsFrontPiece mid.bytes ended front.length front.ended = rw c.in-Some.is at c.in-Ok.ensures.front in
    let same : c.piece.result.now ≡ taken_bytes new c.take_piece.result = c.piece.ensures.value ∙ sym c.take_piece.ensures.bytes in
    let sound : fault_at n (taken_bytes new c.take_piece.result) ≡ None = ap (fault_at n) (sym same) ∙ sym c.fault_at.ensures.value ∙ c.in-None.is in
    record {
      pulled = pulls.pulled;
      given = pulls.given;
      end = pulls.end;
      answers = (c.take_piece.ensures.place, sound, taken_first n c.args.pulled.now mid new _ _ c.take_piece.result pulls (c.take_piece.ensures.first ended is_front));
      failed = search rules;
    }
