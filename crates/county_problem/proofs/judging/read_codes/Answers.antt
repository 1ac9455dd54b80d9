use Rattle.std.proofs.Common.{◌≡◌, ◌∙◌, ◌+◌, ◌++◌, ℕ, List, drop, ap, sym, append_assoc, append-nil}
use Rattle.std.proofs.lemmas.List.{at_drop_more, at_drop_all}
use Rattle.county_problem.specs.Judging.{codes_read}
use Rattle.county_problem.proofs.judging.read_codes.Goals as goal

pub loop-group-preserved : goal.loop-group-preserved
loop-group-preserved c =
    let now = c.loop-group.codes.items in
    let i = c.loop-group.group-index in
    let group = c.group-item.result in
    let rest = codes_read (drop (i + 1) c.args.groups.now) in
    let more : c.extend_from_slice.new.self.items ≡ now ++ group.codes = c.in_ok-extend_from_slice.ensures.items ∙ ap (λ (l : List ℕ). now ++ l) c.as_slice.ensures in
    let left : codes_read (drop i c.args.groups.now) ≡ group.codes ++ rest = at_drop_more codes_read c.args.groups.now i group c.loop-group-test.true ∙ ap (λ g. g.codes ++ rest) (sym c.group-item.is) in
    ap (λ (l : List ℕ). l ++ rest) more ∙ append_assoc now group.codes rest ∙ ap (λ (l : List ℕ). now ++ l) (sym left) ∙ c.loop-group.invariant

pub returns : goal.returns
returns c =
    let now = c.loop-group.codes.items in
    sym (append-nil now) ∙ ap (λ (l : List ℕ). now ++ l) (sym (at_drop_all codes_read c.args.groups.now c.loop-group.group-index c.loop-group-test.false)) ∙ c.loop-group.invariant
