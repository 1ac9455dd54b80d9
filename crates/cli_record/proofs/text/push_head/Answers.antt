use Rattle.std.proofs.Common.{◌≡◌, ◌∙◌, ◌++◌, ℕ, List, Result, Ok, Err, OnOk, ap, append_assoc, codes}
use Rattle.cli_record.specs.Record.{head_lines, line_after}
use Rattle.cli_record.proofs.text.push_head.Goals as goal

-- what is appended in two steps, the second of which may fail
in_two_steps : {X E : Type 0} (r : Result X E) (old front text mid new : List ℕ) → mid ≡ old ++ front → OnOk r (new ≡ mid ++ text) → OnOk r (new ≡ old ++ (front ++ text))
in_two_steps (Ok x) old front text mid new first second = second ∙ ap (λ (l : List ℕ). l ++ text) first ∙ append_assoc old front text
in_two_steps (Err fault) old front text mid new first second = second

pub returns : goal.returns
unfolding head_lines
returns c =
    in_two_steps c.push_line.result c.args.out.now.items (codes "countygroups record 1\n") (line_after (codes "version ") c.args.version.now) _ _
    c.in_ok-extend_from_slice.ensures.items c.push_line.ensures
