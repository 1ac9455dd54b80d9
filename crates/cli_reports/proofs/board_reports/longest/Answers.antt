use Rattle.std.proofs.Common.{◌≡◌, ◌∙◌, ◌+◌, ℕ, List, drop, length, ap, sym}
use Rattle.std.specs.Prelude.{fold, max, min}
use Rattle.std.proofs.lemmas.List.{at_drop_more, at_drop_all}
use Rattle.county_codes.specs.declared.code.CountyCode.{CountyCode}
use Rattle.county_codes.specs.declared.group.Group.{Group}
use Rattle.cli_reports.proofs.board_reports.longest.Goals as goal

abbrev longest_from : ℕ → List Group → ℕ
longest_from most groups = fold (λ m g. max m (length g.codes)) most groups

pub loop-group-preserved : goal.loop-group-preserved
loop-group-preserved c =
    let gs = c.args.groups.now in
    let i = c.loop-group.group-index in
    let most = c.loop-group.most in
    let group = c.group-item.result in
    let rest = drop (i + 1) gs in
    let more : longest_from most (drop i gs) ≡ longest_from (max most (length group.codes)) rest =
    at_drop_more (longest_from most) gs i group c.loop-group-test.true ∙ ap (λ (g : Group). longest_from (max most (length g.codes)) rest) (sym c.group-item.is) in
    let kept = c.max-most.ensures ∙ ap (λ (codes : List CountyCode). max most (length codes)) c.as_slice.ensures in
    record {
      left = ap (λ (n : ℕ). longest_from n rest) kept ∙ sym more ∙ c.loop-group.invariant.left;
    }

pub returns : goal.returns
returns c =
    let gs = c.args.groups.now in
    let all = at_drop_all (longest_from c.loop-group.most) gs c.loop-group.group-index c.loop-group-test.false in
    c.min.ensures ∙ ap (λ (n : ℕ). min n 65535) (sym all ∙ c.loop-group.invariant.left)
