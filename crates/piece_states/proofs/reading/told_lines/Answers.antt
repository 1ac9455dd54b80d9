use Rattle.std.proofs.Common.{List, false, [], ◌∷◌, ℕ, map, sym, subst, ap, ◌∙◌}
use Rattle.std.proofs.lemmas.List.{map-append}
use Rattle.piece_states.specs.Told.{Asked}
use Rattle.piece_states.specs.PieceValue.{asked_of}
use Rattle.piece_states.proofs.ReadSteps.{Read, read_closed, read_asked, read_end}
use Rattle.piece_states.proofs.reading.told_lines.Goals as goal

pub lines-preserved-in-Continue-branch-3 : goal.lines-preserved-in-Continue-branch-3
lines-preserved-in-Continue-branch-3 c =
    let takes = rw c.in-Closed.is at c.in_ok-group.ensures in
    let asked = map asked_of c.lines.asked.items in
    subst (λ (gs : List (List ℕ)). Read c.args.cursor.now gs asked c.lines.closing c.told_line.new.cursor) (sym c.in_ok-push_on-in-Closed.ensures.pushed)
    (read_closed c.args.cursor.now c.lines.cursor c.told_line.new.cursor c.lines.closed.items asked c.lines.closing c.lines.invariant c.in-Closed.group takes)

pub lines-preserved : goal.lines-preserved
lines-preserved c =
    let takes = rw c.in-Least.is at c.in_ok-group.ensures in
    let asked = c.lines.asked.items in
    let more = ap (map asked_of) c.in_ok-push_on-in-Least.ensures.pushed ∙ map-append asked_of asked (c.in-Least.county ∷ []) in
    subst (λ (as_told : List Asked). Read c.args.cursor.now c.lines.closed.items as_told false c.told_line.new.cursor) (sym more)
    (read_asked c.args.cursor.now c.lines.cursor c.told_line.new.cursor c.lines.closed.items (map asked_of asked) c.lines.closing c.lines.invariant c.in-Least.county takes)

pub returns-in-End-clause-text : goal.returns-in-End-clause-text
returns-in-End-clause-text c =
    let takes = rw c.in-End.is at c.in_ok-group.ensures in
    read_end c.args.cursor.now c.lines.cursor c.told_line.new.cursor c.lines.closed.items (map asked_of c.lines.asked.items) c.lines.closing c.lines.invariant takes
