use Rattle.std.proofs.Common.{◌≡◌, ◌∷◌, [], ◌++◌, List, length, sym, ap, subst, arith, rules}
use Rattle.std.proofs.lemmas.List.{length-append}
use Rattle.county_codes.specs.declared.group.Group.{Group}
use Rattle.certificate_checker.specs.Feeding.{stream_of, fed_by}
use Rattle.certificate_checker.proofs.Reaching.{fed_twice, fed_off, counts_on}
use Rattle.certificate_checker.proofs.RoundsRead.{GroupsLeft, group_on, group_stops, groups_read}
use Rattle.certificate_checker.proofs.rounds.read_groups.Goals as goal

pub returns-in-Err-clause-taken : goal.returns-in-Err-clause-taken
returns-in-Err-clause-taken g c all sees groups rest count items =
    let n = c.in-Err.ensures.fed all sees in
    let i = c.reading.invariant.fed all n.0 in
    group_stops (λ (u : Unit {0}). Unit {0}) groups rest c.reading.groups.items _ (fed_by (stream_of g.S.ItemSource.left g.S.ItemSource.given c.reading.feed c.reading.from) all) (fed_by (stream_of g.S.ItemSource.left g.S.ItemSource.given c.next_group.new.feed c.next_group.new.from) all) c.in-Err.stop (c.reading.invariant.left all n.0 groups rest count items)
    (omega (arith, count, c.reading.invariant.number, c.reading-test.true)) i.1.limit (c.in-Err.ensures.took all sees)

pub reading-preserved : goal.reading-preserved
reading-preserved g c =
    let more : c.push.new.self.items ≡ c.reading.groups.items ++ c.in-Ok.group ∷ [] = c.in_ok-push-in-Ok.ensures.items in
    record {
      counts = counts_on c.args.feed.now c.reading.feed c.next_group.new.feed c.reading.invariant.counts c.in-Ok.ensures.counts;
      fed = λ all sees.
          let n = c.in-Ok.ensures.fed all sees in
          let i = c.reading.invariant.fed all n.0 in
          (i.0, fed_twice _ _ _ i.1 n.1);
      number = omega (arith, ap length more, length-append c.reading.groups.items (c.in-Ok.group ∷ []), c.reading.invariant.number);
      left = λ all sees groups rest count items.
          let n = c.in-Ok.ensures.fed all sees in
          subst (λ l. GroupsLeft groups rest l (fed_by (stream_of g.S.ItemSource.left g.S.ItemSource.given c.args.feed.now c.args.from.now) all) (fed_by (stream_of g.S.ItemSource.left g.S.ItemSource.given c.next_group.new.feed c.next_group.new.from) all)) (sym more)
          (group_on groups rest c.reading.groups.items c.in-Ok.group _ (fed_by (stream_of g.S.ItemSource.left g.S.ItemSource.given c.reading.feed c.reading.from) all) _ (c.reading.invariant.left all n.0 groups rest count items)
          (omega (arith, count, c.reading.invariant.number, c.reading-test.true)) (c.in-Ok.ensures.took all sees));
    }

pub returns-in-Err-clause-fed : goal.returns-in-Err-clause-fed
returns-in-Err-clause-fed g c all sees =
    let n = c.in-Err.ensures.fed all sees in
    let i = c.reading.invariant.fed all n.0 in
    (i.0, fed_off (Unit {0}) (Unit {0}) _ _ _ c.in-Err.stop i.1 n.1)

pub returns-in_err-push-in-Ok-clause-fed : goal.returns-in_err-push-in-Ok-clause-fed
returns-in_err-push-in-Ok-clause-fed g c all sees =
    let n = c.in-Ok.ensures.fed all sees in
    let i = c.reading.invariant.fed all n.0 in
    (i.0, search rules)

pub returns-clause-taken : goal.returns-clause-taken
returns-clause-taken g c all sees groups rest count items =
    groups_read (λ (l : List Group). l ≡ groups) groups rest c.reading.groups.items c.reading.groups.items (fed_by (stream_of g.S.ItemSource.left g.S.ItemSource.given c.args.feed.now c.args.from.now) all) (fed_by (stream_of g.S.ItemSource.left g.S.ItemSource.given c.reading.feed c.reading.from) all) (c.reading.invariant.left all sees groups rest count items)
    (omega (arith, count, c.reading.invariant.number, c.reading-test.false, c.reading.auto.done-end)) (λ e. e)
