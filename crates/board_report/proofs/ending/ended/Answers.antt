use Rattle.std.proofs.Common.{◌++◌, None, Some, option_map, refl, sym, ap, ◌∙◌}
use Rattle.county_problem.specs.ProblemValue.{problem_of}
use Rattle.certificate_data.specs.Round.{Round}
use Rattle.certificate_data.specs.TreeValue.{certificate_of}
use Rattle.board_report.specs.BoardOutcome.{left_lines}
use Rattle.board_report.proofs.Ends.{ended_joined, ended_left}
use Rattle.board_report.proofs.ending.ended.Goals as goal

pub returns-in_default : goal.returns-in_default
returns-in_default g c = λ b is.
    let format = c.proof_round.result.now.format in
    let number = c.round.result in
    let found = c.in_ok-found.found.items in
    let start = c.args.text.items in
    ended_left (problem_of c.args.board.now.problem) b found start (record { text = c.push_left.new.out; left = c.len-left.result; certificate = None }) format number (c.in_ok-found.ensures b is) (c.len-left.ensures ∙ c.in_ok-found.found.ok.0)
    (ap (λ (z : Round). z.format) (c.proof_round.ensures.round b is)) (c.round.ensures b is) (c.in_ok-push_left.ensures ∙ ap (λ z. start ++ left_lines format number z) c.deref.ensures.value) refl
    (ap (option_map certificate_of) (sym c.in_default.is) ∙ c.in_ok-certificate.ensures.value b is)

pub returns : goal.returns
returns g c = λ b is.
    ended_joined (problem_of c.args.board.now.problem) b c.in_ok-found.found.items c.args.text.items (record { text = c.extend_from_slice.new.self; left = c.len-left.result; certificate = Some c.in_ok-lines.lines }) (certificate_of c.in-Some.certificate) c.in_ok-lines.lines is.content
    (c.in_ok-found.ensures b is) (c.len-left.ensures ∙ c.in_ok-found.found.ok.0) c.in_ok-extend_from_slice.ensures.items refl (ap (option_map certificate_of) (sym c.in-Some.is) ∙ c.in_ok-certificate.ensures.value b is) c.in_ok-lines.ensures
