use Rattle.std.proofs.Common.{◌+◌, ◌-◌, ◌≡◌, ◌≤◌, ◌<◌, ◌^◌, ◌++◌, ◌∷◌, [], ℕ, List, length, map, take, drop, ap, sym, subst, ◌∙◌, arith, take_all, length-drop, length-take}
use Rattle.std.specs.List.{filter}
use Rattle.std.proofs.lemmas.List.{map-append}
use Rattle.field_lines.specs.RawPieces.{is_lf}
use Rattle.board_laws.specs.Content.{Event}
use Rattle.share_board.specs.Events.{event_of}
use Rattle.board_report.specs.EventSpelling.{items_of}
use Rattle.board_report.proofs.FrontEvents.{Passed, passed_more, passed_refused}
use Rattle.board_report.proofs.OneList.{event_lfs}
use Rattle.board_report.proofs.event_reading.events_of.Goals as goal

pub events-preserved : goal.events-preserved
events-preserved c =
    let rest = c.events.rest.now in
    let n = c.in-Ok.length in
    let e = event_of c.in-Ok.event in
    let es = map event_of c.events.events.items in
    let more = c.lines_in-lines.result in
    let count : more ≡ 1 + length (items_of e) =
    c.lines_in-lines.ensures.value ∙ ap (λ (t : List ℕ). length (filter is_lf t)) c.in-Ok.ensures.found ∙ event_lfs c.args.format c.args.counties e c.in-Ok.ensures.spelled in
    let few : more + length (drop n rest) ≤ length rest = omega (arith, c.lines_in-lines.ensures.few, length-take n rest, length-drop n rest, c.in-Ok.ensures.place.1) in
    let events : map event_of c.push_on.new.items.items ≡ es ++ e ∷ [] =
    ap (λ (xs : List _). map event_of xs) c.in_ok-push_on-in-Ok.ensures.pushed ∙ map-append event_of c.events.events.items (c.in-Ok.event ∷ []) in
    let all : take (length rest - n) (drop n rest) ≡ drop n rest = take_all (length rest - n) (drop n rest) (omega (arith, length-drop n rest)) in
    subst (λ (xs : List Event). Passed c.args.format c.args.counties c.args.text.now xs (c.events.lines + more) (take (length rest - n) (drop n rest))) (sym events)
    (subst (λ (t : List ℕ). Passed c.args.format c.args.counties c.args.text.now (es ++ e ∷ []) (c.events.lines + more) t) (sym all)
    (passed_more c.args.format c.args.counties c.args.text.now es e c.events.lines more n rest c.events.invariant c.in-Ok.ensures.spelled c.in-Ok.ensures.found count few))

pub returns-in-Err-clause-fault : goal.returns-in-Err-clause-fault
returns-in-Err-clause-fault c mem =
    let small : length c.args.text.now + 1 < 2 ^ 64 = omega arith in
    let other = λ (m : _). mem (c.moved.ensures.kind ∙ m) in
    passed_refused c.args.format c.args.counties c.args.text.now (map event_of c.events.events.items) c.events.lines c.events.rest.now c.events.invariant small c.in-Err.fault c.moved.result c.moved.ensures.kind c.moved.ensures.line
    (c.in-Err.ensures.fault other)
