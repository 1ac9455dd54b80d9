use Rattle.std.proofs.Common.{◌≡◌, ◌≤◌, Some, None, length, sym, ap, ◌∙◌, arith, rules, length-take}
use Rattle.field_lines.specs.Front.{IsFrontPiece}
use Rattle.field_lines.specs.ReadPiece.{raw_fault_at}
use Rattle.field_lines.specs.Fault.{most_bytes}
use Rattle.field_lines.specs.TakenPieces.{taken_bytes}
use Rattle.field_lines.proofs.ReadLineLemmas.{taken_first}
use Rattle.field_lines.proofs.ReadPieceLemmas.{raw_faulty, raw_sound}
use Rattle.field_lines.proofs.raw_reader.take_raw.Goals as goal

pub returns-in-Some-raw_fault_at : goal.returns-in-Some-raw_fault_at
returns-in-Some-raw_fault_at g c =
    let n = c.args.number in
    let new = c.front.new.self in
    let front = c.in-Some.front in
    let fault = c.in-Some-raw_fault_at.fault in
    let at : raw_fault_at n front.length ≡ Some fault = sym c.raw_fault_at.ensures ∙ c.in-Some-raw_fault_at.is in
    let is_front : IsFrontPiece new.bytes (g.S.Source.given c.front.new.source).ended front.length front.ended = rw c.in-Some.is at c.in-Ok.ensures.front in
    raw_faulty n c.args.pulled.now new _ _ (g.S.Source.is_failed c.args.source.now) (g.S.Source.is_failed c.front.new.source) front.ended front.length fault c.front.ensures.pulls is_front (search rules) at

pub returns-in-None : goal.returns-in-None
returns-in-None g c =
    let n = c.args.number in
    let mid = c.front.new.self in
    let new = c.take_piece.new.self in
    let front = c.in-Some.front in
    let ended = (g.S.Source.given c.front.new.source).ended in
    let pulls = c.front.ensures.pulls in
    let is_front : IsFrontPiece mid.bytes ended front.length front.ended = rw c.in-Some.is at c.in-Ok.ensures.front in
    let sound : raw_fault_at n front.length ≡ None = sym c.raw_fault_at.ensures ∙ c.in-None.is in
    let short = raw_sound n front.length c.ranges.number.fits sound in
    let few : length (taken_bytes new c.take_piece.result) ≤ most_bytes = omega (arith, short.0, ap length c.take_piece.ensures.bytes, length-take front.length mid.bytes) in
    record {
      pulled = pulls.pulled;
      given = pulls.given;
      end = pulls.end;
      answers = (c.take_piece.ensures.place, few, short.1, taken_first n c.args.pulled.now mid new _ _ c.take_piece.result pulls (c.take_piece.ensures.first ended is_front));
      failed = search rules;
    }
