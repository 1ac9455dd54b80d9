use Rattle.std.proofs.Common.{inl, length}
use Rattle.connected_laws.proofs.PlaceLists.{placed_test}
use Rattle.state_groups.proofs.stranding.is_stranded.Goals as goal

pub returns-then-not-meets : goal.returns-then-not-meets
returns-then-not-meets g c = λ e. inl (λ x m. c.if-not-meets.ensures.common x (placed_test (length c.args.ordered.now.order) x (g.C.CountySet.test c.args.part.now) m), c.is_stuck.ensures.0 e)
