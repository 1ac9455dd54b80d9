use Rattle.std.proofs.Common.{Ok, subst}
use Rattle.certificate_checker.specs.Feeding.{stream_of, fed_by, TookLine}
use Rattle.certificate_checker.proofs.forms.next_group.Goals as goal

pub returns-in-Grouped-clause-took : goal.returns-in-Grouped-clause-took
returns-in-Grouped-clause-took g c all sees = subst (λ i. TookLine (fed_by (stream_of g.S.ItemSource.left g.S.ItemSource.given c.args.feed.now c.args.from.now) all) (Ok i) (fed_by (stream_of g.S.ItemSource.left g.S.ItemSource.given c.next_line.new.feed c.next_line.new.from) all)) c.in-Grouped.is (c.in_ok-group.ensures.took all sees)
