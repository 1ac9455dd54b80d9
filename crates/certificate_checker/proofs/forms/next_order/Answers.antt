use Rattle.std.proofs.Common.{Ok, subst}
use Rattle.certificate_checker.specs.Feeding.{stream_of, fed_by, TookLine}
use Rattle.certificate_checker.proofs.forms.next_order.Goals as goal

pub returns-in-Order-clause-took : goal.returns-in-Order-clause-took
returns-in-Order-clause-took g c all sees = subst (λ i. TookLine (fed_by (stream_of g.S.ItemSource.left g.S.ItemSource.given c.args.feed.now c.args.from.now) all) (Ok i) (fed_by (stream_of g.S.ItemSource.left g.S.ItemSource.given c.next_line.new.feed c.next_line.new.from) all)) c.in-Order.is (c.in_ok-order.ensures.took all sees)
