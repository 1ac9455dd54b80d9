use Rattle.std.proofs.Common.{Ok, subst}
use Rattle.certificate_checker.specs.Feeding.{stream_of, fed_by, TookLine}
use Rattle.certificate_checker.proofs.forms.next_allowance.Goals as goal

pub returns-in-Allows-clause-took : goal.returns-in-Allows-clause-took
returns-in-Allows-clause-took g c all sees = subst (λ i. TookLine (fed_by (stream_of g.S.ItemSource.left g.S.ItemSource.given c.args.feed.now c.args.from.now) all) (Ok i) (fed_by (stream_of g.S.ItemSource.left g.S.ItemSource.given c.next_line.new.feed c.next_line.new.from) all)) c.in-Allows.is (c.in_ok-allowance.ensures.took all sees)
