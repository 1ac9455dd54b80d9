use Rattle.std.proofs.Common.{◌++◌, List, ℕ, map, sym, ap, ◌∙◌}
use Rattle.piece_states.specs.PieceValue.{asked_of}
use Rattle.piece_states.specs.Text.{open_words, line_of, text_of_told}
use Rattle.piece_states.proofs.LinesRead.{open_read}
use Rattle.piece_states.proofs.ReadSteps.{bytes_taken, told_fits}
use Rattle.piece_states.proofs.reading.piece_at.Goals as goal

pub returns-clause-found : goal.returns-clause-found
returns-clause-found c =
    let first = line_of (open_words c.in_ok-round.round c.in_ok-round.piece) in
    let told = text_of_told (record { closed = c.in_ok-closed.closed.items; asked = map asked_of c.in_ok-closed.asked.items }) in
    let takes = c.in_ok-round.ensures in
    let mid = c.first_line.new.cursor.text in
    let cut = ap (λ r. r.text) (sym c.new-cursor.ensures) ∙ (takes.text ∙ ap (λ (t : List ℕ). t ++ mid) (open_read takes.piece (c.in_ok-round.round, c.in_ok-round.piece) takes.value).bytes) in
    bytes_taken c.args.text.now first told mid c.rest.result.now cut (c.in_ok-closed.ensures.text ∙ ap (λ (t : List ℕ). told ++ t) (sym c.rest.ensures))

pub returns-clause-spelled : goal.returns-clause-spelled
returns-clause-spelled c =
    let takes = c.in_ok-round.ensures in
    let first = open_read takes.piece (c.in_ok-round.round, c.in_ok-round.piece) takes.value in
    let fit = told_fits _ _ _ _ c.in_ok-closed.ensures.read in
    record { round = first.round; number = first.number; closed = fit.closed; asked = fit.asked }
