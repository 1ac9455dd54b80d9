use Rattle.std.proofs.Common.{Ok, subst}
use Rattle.certificate_checker.specs.Feeding.{stream_of, fed_by, TookLine}
use Rattle.certificate_checker.proofs.forms.next_take.Goals as goal

pub returns-in-Takes-clause-took : goal.returns-in-Takes-clause-took
returns-in-Takes-clause-took g c all sees = subst (λ i. TookLine (fed_by (stream_of g.S.ItemSource.left g.S.ItemSource.given c.args.feed.now c.args.from.now) all) (Ok i) (fed_by (stream_of g.S.ItemSource.left g.S.ItemSource.given c.next_line.new.feed c.next_line.new.from) all)) c.in-Takes.is (c.in_ok-codes.ensures.took all sees)

pub returns-in-Mark-clause-took : goal.returns-in-Mark-clause-took
returns-in-Mark-clause-took g c all sees = subst (λ i. TookLine (fed_by (stream_of g.S.ItemSource.left g.S.ItemSource.given c.args.feed.now c.args.from.now) all) (Ok i) (fed_by (stream_of g.S.ItemSource.left g.S.ItemSource.given c.next_line.new.feed c.next_line.new.from) all)) c.in-Mark.is (c.in_ok-codes.ensures.took all sees)
