use Rattle.std.proofs.Common.{◌≡◌, ◌∙◌, ◌+◌, ◌++◌, ℕ, List, drop, ap, sym, append_assoc, append-nil}
use Rattle.std.proofs.lemmas.List.{at_drop_more, at_drop_all}
use Rattle.county_problem.specs.Building.{codes_in}
use Rattle.county_problem.proofs.building.withdrawn_codes.Goals as goal

pub loop-set-preserved : goal.loop-set-preserved
loop-set-preserved c =
    let now = c.loop-set.codes.items in
    let i = c.loop-set.set-index in
    let set = c.set-item.result in
    let rest = codes_in (drop (i + 1) c.args.sets.now) in
    let more : c.extend_from_slice.new.self.items ≡ now ++ set.codes = c.in_ok-extend_from_slice.ensures.items ∙ ap (λ (l : List ℕ). now ++ l) c.as_slice.ensures in
    let left : codes_in (drop i c.args.sets.now) ≡ set.codes ++ rest = at_drop_more codes_in c.args.sets.now i set c.loop-set-test.true ∙ ap (λ w. w.codes ++ rest) (sym c.set-item.is) in
    ap (λ (l : List ℕ). l ++ rest) more ∙ append_assoc now set.codes rest ∙ ap (λ (l : List ℕ). now ++ l) (sym left) ∙ c.loop-set.invariant

pub returns : goal.returns
returns c =
    let now = c.loop-set.codes.items in
    sym (append-nil now) ∙ ap (λ (l : List ℕ). now ++ l) (sym (at_drop_all codes_in c.args.sets.now c.loop-set.set-index c.loop-set-test.false)) ∙ c.loop-set.invariant
