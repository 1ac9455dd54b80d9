use Rattle.std.proofs.Common.{◌≡◌, All, Some, sym, subst}
use Rattle.county_problem.specs.ProblemValue.{problem_of}
use Rattle.certificate_data.specs.RoundValue.{round_of}
use Rattle.state_groups.specs.PlacedValues.{state_at, codes_of_sets, IsClosable}
use Rattle.grouping_laws.proofs.Elements.{all_from_has, contains_from_has}
use Rattle.certificate_laws.specs.Groups.{IsGroupAt}
use Rattle.certificate_laws.specs.Proving.{CanBranch}
use Rattle.search_groups.specs.declared.position.Position.{Position}
use Rattle.certificate_checker.specs.Feeding.{feed_at}
use Rattle.certificate_checker.proofs.KnownPlaces.{ok_with}
use Rattle.certificate_checker.proofs.Trees.{kept_ok, branch_judged}
use Rattle.certificate_checker.proofs.branches.listed_groups.Goals as goal

pub returns-clause-groups : goal.returns-clause-groups
returns-clause-groups g c = kept_ok _ (λ b. All (IsClosable g.C.CountySet.test c.args.state.now) b.groups.items) c.args.feed.now.line c.knowing_branch-judged.result c.judged_at.result c.knowing_branch-judged.ensures.groups c.judged_at.ensures

pub returns-clause-sized : goal.returns-clause-sized
returns-clause-sized g c =
    kept_ok _ (λ b. (at : Position g.row.C.Denot) → c.knowing_branch-judged.new.known ≡ Some at → at.size ≡ b.limit) c.args.feed.now.line c.knowing_branch-judged.result c.judged_at.result c.knowing_branch-judged.ensures.sized c.judged_at.ensures

pub returns-clause-can : goal.returns-clause-can
returns-clause-can g c =
    let input = c.args.input.now in
    let round = round_of input.round.now in
    let s = state_at input.graph.now.ordered.now.order g.C.CountySet.test c.args.state.now in
    let e = c.knowing_branch-judged.ensures in
    kept_ok _ (λ b. CanBranch round s c.args.county b.limit) c.args.feed.now.line c.knowing_branch-judged.result c.judged_at.result
    (ok_with _ _ (λ b. CanBranch round s c.args.county b.limit) _ c.knowing_branch-judged.result e.branch e.size (λ b q same. subst (CanBranch round s c.args.county) (sym same) q.1)) c.judged_at.ensures

pub returns-clause-fits : goal.returns-clause-fits
returns-clause-fits g c =
    let input = c.args.input.now in
    let order = input.graph.now.ordered.now.order in
    let p = problem_of input.graph.now.ordered.now.problem in
    let round = round_of input.round.now in
    let s = state_at order g.C.CountySet.test c.args.state.now in
    let e = c.knowing_branch-judged.ensures in
    kept_ok _ (λ b. All (IsGroupAt p round s c.args.county b.limit) (codes_of_sets order g.C.CountySet.test b.groups.items)) c.args.feed.now.line c.knowing_branch-judged.result c.judged_at.result
    (ok_with _ _ (λ b. All (IsGroupAt p round s c.args.county b.limit) (codes_of_sets order g.C.CountySet.test b.groups.items)) _ c.knowing_branch-judged.result e.branch e.size (λ b q same.
    let sets = codes_of_sets order g.C.CountySet.test b.groups.items in
    all_from_has (IsGroupAt p round s c.args.county b.limit) sets (λ k has. subst (λ z. IsGroupAt p round s c.args.county z k) (sym same) ((q.2.each k).0 (contains_from_has sets k has))))) c.judged_at.ensures

pub returns-clause-judged : goal.returns-clause-judged
returns-clause-judged g c reading =
    branch_judged _ (λ b. codes_of_sets c.args.input.now.graph.now.ordered.now.order g.C.CountySet.test b.groups.items) (problem_of c.args.input.now.graph.now.ordered.now.problem) (round_of c.args.input.now.round.now)
    (state_at c.args.input.now.graph.now.ordered.now.order g.C.CountySet.test c.args.state.now) c.args.county c.args.limit c.args.input.now.graph.now.ordered.now.order (feed_at reading c.args.feed.now) _ _ c.knowing_branch-judged.result c.judged_at.result
    c.requires.input.order c.knowing_branch-judged.ensures.branch c.knowing_branch-judged.ensures.steps c.knowing_branch-judged.ensures.stopped c.judged_at.ensures
