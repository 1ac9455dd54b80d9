use Rattle.std.proofs.Common.{Vec, Global, Option, ℕ, Ok, Err, subst}
use Rattle.county_codes.specs.declared.group.Group.{Group}
use Rattle.certificate_lines.specs.declared.item.Item.TheVariants as item
use Rattle.certificate_checker.specs.Feeding.{stream_of, fed_by}
use Rattle.certificate_checker.specs.Judging.{TookForm}
use Rattle.certificate_checker.proofs.Reaching.{fed_twice}
use Rattle.certificate_checker.proofs.TargetsRead.{target_then}
use Rattle.certificate_checker.proofs.rounds.read_target.Goals as goal

pub returns-in-Ok-clause-fed : goal.returns-in-Ok-clause-fed
returns-in-Ok-clause-fed g c all sees =
    let n = c.in-Ok.ensures.fed all sees in
    let t = c.in-Ok-Some.ensures.fed all n.0 in
    (t.0, fed_twice _ _ _ t.1 n.1)

pub returns-in-Ok-clause-taken : goal.returns-in-Ok-clause-taken
returns-in-Ok-clause-taken g c all sees =
    let n = c.in-Ok.ensures.fed all sees in
    let took = subst (λ (o : Option ℕ). TookForm item.Target (λ (x : Option ℕ). x) (fed_by (stream_of g.S.ItemSource.left g.S.ItemSource.given c.args.feed.now c.args.from.now) all) (Ok o) (fed_by (stream_of g.S.ItemSource.left g.S.ItemSource.given c.next_target.new.feed c.next_target.new.from) all)) c.in-Ok-Some.field-0-is (c.in-Ok-Some.ensures.took all n.0) in
    target_then (λ (v : Vec Group Global). v.items) c.in-Ok-Some.count (fed_by (stream_of g.S.ItemSource.left g.S.ItemSource.given c.args.feed.now c.args.from.now) all) (fed_by (stream_of g.S.ItemSource.left g.S.ItemSource.given c.next_target.new.feed c.next_target.new.from) all) (fed_by (stream_of g.S.ItemSource.left g.S.ItemSource.given c.read_groups.new.feed c.read_groups.new.from) all) took c.in-Ok-Some.ensures.counts.0 (Ok c.in-Ok.groups) (c.in-Ok.ensures.taken all sees)

pub returns-in-Err-read_groups-clause-taken : goal.returns-in-Err-read_groups-clause-taken
returns-in-Err-read_groups-clause-taken g c all sees =
    let n = c.in-Err-read_groups.ensures.fed all sees in
    let took = subst (λ (o : Option ℕ). TookForm item.Target (λ (x : Option ℕ). x) (fed_by (stream_of g.S.ItemSource.left g.S.ItemSource.given c.args.feed.now c.args.from.now) all) (Ok o) (fed_by (stream_of g.S.ItemSource.left g.S.ItemSource.given c.next_target.new.feed c.next_target.new.from) all)) c.in-Ok-Some.field-0-is (c.in-Ok-Some.ensures.took all n.0) in
    target_then (λ (v : Vec Group Global). v.items) c.in-Ok-Some.count (fed_by (stream_of g.S.ItemSource.left g.S.ItemSource.given c.args.feed.now c.args.from.now) all) (fed_by (stream_of g.S.ItemSource.left g.S.ItemSource.given c.next_target.new.feed c.next_target.new.from) all) (fed_by (stream_of g.S.ItemSource.left g.S.ItemSource.given c.read_groups.new.feed c.read_groups.new.from) all) took c.in-Ok-Some.ensures.counts.0 (Err c.in-Err-read_groups.stop) (c.in-Err-read_groups.ensures.taken all sees)
