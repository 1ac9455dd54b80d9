use Rattle.std.proofs.Common.{◌+◌, ◌-◌, ◌<◌, ◌^◌, ◌++◌, ℕ, List, length, take, ap, sym, subst, ◌∙◌, arith}
use Rattle.std.proofs.lemmas.Result.{err_from_is_err_and}
use Rattle.field_lines.specs.RawPieces.{raw_lines}
use Rattle.certificate_lines.specs.Items.{items_from}
use Rattle.board_report.specs.LaterLines.{StandsBehind}
use Rattle.share_board.specs.Events.{event_of}
use Rattle.board_report.specs.EventSpelling.{wanted_by}
use Rattle.board_report.proofs.FrontEvents.{first_refused, front_text, front_spelled, behind_refused}
use Rattle.board_report.proofs.event_reading.front_event.Goals as goal

pub returns-in_err-line-clause-fault : goal.returns-in_err-line-clause-fault
returns-in_err-line-clause-fault c =
    let p = err_from_is_err_and c.from_residual.result c.from_residual.ensures.1 in
    rw (p.1, p.2) (λ mem. first_refused c.args.format c.args.counties c.args.text.now c.requires.some _ c.new-cursor.ensures _ (c.in_err-line.ensures mem))

pub returns-in-Ok-clause-found : goal.returns-in-Ok-clause-found
returns-in-Ok-clause-found c =
    let same = c.rest-rest.ensures in
    let behind = subst (λ (t : List ℕ). StandsBehind c.args.format c.args.counties c.in_ok-line.line (take c.in-Ok.length t) (event_of c.in-Ok.event)) same c.in-Ok.ensures.found in
    ap (λ (t : List ℕ). take (length c.args.text.now - length t + c.in-Ok.length) c.args.text.now) same
    ∙ front_text c.args.format c.args.counties c.args.text.now _ _ c.new-cursor.ensures c.in_ok-line.line c.in_ok-line.ensures c.in-Ok.length (event_of c.in-Ok.event) behind

pub returns-in-Ok-clause-spelled : goal.returns-in-Ok-clause-spelled
returns-in-Ok-clause-spelled c = front_spelled c.args.format c.args.counties c.args.text.now _ _ c.new-cursor.ensures c.in_ok-line.line c.in_ok-line.ensures _ (event_of c.in-Ok.event) c.in-Ok.ensures.found

pub returns-in-Err-clause-fault : goal.returns-in-Err-clause-fault
returns-in-Err-clause-fault c mem =
    let small : length c.args.text.now + 1 < 2 ^ 64 = omega arith in
    let other = λ (m : _). mem (c.moved.ensures.kind ∙ m) in
    behind_refused c.args.format c.args.counties c.args.text.now _ _ c.new-cursor.ensures c.in_ok-line.line c.in_ok-line.ensures small c.in-Err.fault c.moved.result c.moved.ensures.kind c.moved.ensures.line
    (λ more. ap (λ (t : List ℕ). items_from (wanted_by c.args.format c.args.counties c.in_ok-line.line ++ more) 1 (raw_lines t)) (sym c.rest-rest.ensures) ∙ c.in-Err.ensures.fault other more)
