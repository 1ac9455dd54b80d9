use Rattle.std.proofs.Common.{sym, subst}
use Rattle.search_groups.specs.PartLists.{IsPartList}
use Rattle.search_groups.proofs.part_lists.find.Goals as goal

pub returns-then-is_for-clause-there : goal.returns-then-is_for-clause-there
returns-then-is_for-clause-there g c = λ p n all. subst (IsPartList g.C.CountySet.test p n) (sym c.list-item.is) (all c.loop-list.list-index c.list-item.result c.loop-list-test.true)
