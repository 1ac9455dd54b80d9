use Rattle.std.proofs.Common.{ap, ◌∙◌}
use Rattle.std.specs.List.{list_any}
use Rattle.std.proofs.lemmas.List.{take_all}
use Rattle.std.proofs.lemmas.Result.{IfOk-from_err}
use Rattle.search_groups.proofs.Covered.{covers_more}
use Rattle.search_groups.proofs.sets.covered_by.Goals as goal

pub returns-in_err-covered : goal.returns-in_err-covered
returns-in_err-covered g c = IfOk-from_err c.from_residual.result _ c.from_residual.ensures.0

pub loop-group-init : goal.loop-group-init
loop-group-init g c = c.in_ok-covered.ensures.places

pub returns-in_err-covered-2 : goal.returns-in_err-covered-2
returns-in_err-covered-2 g c = IfOk-from_err c.from_residual-in_err-covered-2.result _ c.from_residual-in_err-covered-2.ensures.0

pub loop-group-preserved : goal.loop-group-preserved
loop-group-preserved g c = covers_more g.row.C.Denot g.C.CountySet.test c.args.groups.now c.loop-group.group-index c.group-item.result (g.C.CountySet.test c.loop-group.covered) (g.C.CountySet.test c.in_ok-covered-2.covered) c.loop-group-test.true c.group-item.is c.loop-group.invariant c.in_ok-covered-2.ensures.places

pub returns : goal.returns
returns g c = λ x. c.loop-group.invariant x ∙ ap (list_any (λ (s : g.row.C.Denot). g.C.CountySet.test s x)) (take_all c.loop-group.group-index c.args.groups.now c.loop-group-test.false)
