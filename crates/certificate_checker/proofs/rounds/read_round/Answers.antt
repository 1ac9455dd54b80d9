use Rattle.std.proofs.Common.{◌≡◌, ◌∷◌, ◌++◌, Option, Ok, Err}
use Rattle.county_codes.specs.declared.group.Grouping.{Grouping as GroupingHeld}
use Rattle.certificate_data.specs.RoundValue.{round_of, target_of}
use Rattle.certificate_data.specs.declared.round.Round.{Round as RoundHeld}
use Rattle.certificate_lines.specs.declared.item.Item.TheVariants as item
use Rattle.certificate_text.specs.Trees.{items_of_head, items_of_target}
use Rattle.certificate_checker.specs.Feeding.{stream_of, fed_by}
use Rattle.certificate_checker.proofs.Reaching.{fed_twice}
use Rattle.certificate_checker.proofs.Taken.{taken_stop}
use Rattle.certificate_checker.proofs.TargetsRead.{IsHeadOf, tree_behind, round_then, round_is}
use Rattle.certificate_checker.proofs.rounds.read_round.Goals as goal

pub returns-in-Ok-read_target-clause-fed : goal.returns-in-Ok-read_target-clause-fed
returns-in-Ok-read_target-clause-fed g c all sees =
    let t = c.in-Ok-read_target.ensures.fed all sees in
    let l = c.in_ok-limit-in-Ok.ensures.fed all t.0 in
    let o = c.in_ok-order-in-Ok.ensures.fed all l.0 in
    let h = c.in-Ok.ensures.fed all o.0 in
    (h.0, fed_twice _ _ _ (fed_twice _ _ _ (fed_twice _ _ _ h.1 o.1) l.1) t.1)

pub returns-in-Ok-read_target-clause-taken : goal.returns-in-Ok-read_target-clause-taken
returns-in-Ok-read_target-clause-taken g c all sees cert items =
    let t = c.in-Ok-read_target.ensures.fed all sees in
    let l = c.in_ok-limit-in-Ok.ensures.fed all t.0 in
    let o = c.in_ok-order-in-Ok.ensures.fed all l.0 in
    let k = round_then cert (fed_by (stream_of g.S.ItemSource.left g.S.ItemSource.given c.args.feed.now c.args.from.now) all) (fed_by (stream_of g.S.ItemSource.left g.S.ItemSource.given c.read_head.new.feed c.read_head.new.from) all) (fed_by (stream_of g.S.ItemSource.left g.S.ItemSource.given c.next_order.new.feed c.next_order.new.from) all) (fed_by (stream_of g.S.ItemSource.left g.S.ItemSource.given c.next_limit.new.feed c.next_limit.new.from) all) (fed_by (stream_of g.S.ItemSource.left g.S.ItemSource.given c.read_target.new.feed c.read_target.new.from) all) (c.in-Ok.format, c.in-Ok.tolerance) c.in_ok-order-in-Ok.order c.in_ok-limit-in-Ok.limit (c.in-Ok.ensures.taken all o.0 cert.round.format cert.round.tolerance (item.Order cert.round.order ∷ item.Limit cert.round.limit ∷ (items_of_target cert.round.target ++ tree_behind cert)) items) (c.in_ok-order-in-Ok.ensures.took all l.0) (c.in_ok-limit-in-Ok.ensures.took all t.0) (c.in-Ok.ensures.counts.0, c.in_ok-order-in-Ok.ensures.counts.0, c.in_ok-limit-in-Ok.ensures.counts.0) (λ (x : Option GroupingHeld). target_of x ≡ cert.round.target) (Ok c.in-Ok-read_target.target) (c.in-Ok-read_target.ensures.taken all sees cert.round.target (tree_behind cert)) in
    (round_is cert (fed_by (stream_of g.S.ItemSource.left g.S.ItemSource.given c.args.feed.now c.args.from.now) all) (fed_by (stream_of g.S.ItemSource.left g.S.ItemSource.given c.read_head.new.feed c.read_head.new.from) all) (fed_by (stream_of g.S.ItemSource.left g.S.ItemSource.given c.next_order.new.feed c.next_order.new.from) all) (fed_by (stream_of g.S.ItemSource.left g.S.ItemSource.given c.next_limit.new.feed c.next_limit.new.from) all) (fed_by (stream_of g.S.ItemSource.left g.S.ItemSource.given c.read_target.new.feed c.read_target.new.from) all) (c.in-Ok.format, c.in-Ok.tolerance) c.in_ok-order-in-Ok.order c.in_ok-limit-in-Ok.limit (c.in-Ok.ensures.taken all o.0 cert.round.format cert.round.tolerance (item.Order cert.round.order ∷ item.Limit cert.round.limit ∷ (items_of_target cert.round.target ++ tree_behind cert)) items) (c.in_ok-order-in-Ok.ensures.took all l.0) (c.in_ok-limit-in-Ok.ensures.took all t.0) (c.in-Ok.ensures.counts.0, c.in_ok-order-in-Ok.ensures.counts.0, c.in_ok-limit-in-Ok.ensures.counts.0) (target_of c.in-Ok-read_target.target) k.0, k.1, k.2, k.3)

pub returns-in-Err-read_target-clause-taken : goal.returns-in-Err-read_target-clause-taken
returns-in-Err-read_target-clause-taken g c all sees cert items =
    let t = c.in-Err-read_target.ensures.fed all sees in
    let l = c.in_ok-limit-in-Ok.ensures.fed all t.0 in
    let o = c.in_ok-order-in-Ok.ensures.fed all l.0 in
    round_then cert (fed_by (stream_of g.S.ItemSource.left g.S.ItemSource.given c.args.feed.now c.args.from.now) all) (fed_by (stream_of g.S.ItemSource.left g.S.ItemSource.given c.read_head.new.feed c.read_head.new.from) all) (fed_by (stream_of g.S.ItemSource.left g.S.ItemSource.given c.next_order.new.feed c.next_order.new.from) all) (fed_by (stream_of g.S.ItemSource.left g.S.ItemSource.given c.next_limit.new.feed c.next_limit.new.from) all) (fed_by (stream_of g.S.ItemSource.left g.S.ItemSource.given c.read_target.new.feed c.read_target.new.from) all) (c.in-Ok.format, c.in-Ok.tolerance) c.in_ok-order-in-Ok.order c.in_ok-limit-in-Ok.limit (c.in-Ok.ensures.taken all o.0 cert.round.format cert.round.tolerance (item.Order cert.round.order ∷ item.Limit cert.round.limit ∷ (items_of_target cert.round.target ++ tree_behind cert)) items) (c.in_ok-order-in-Ok.ensures.took all l.0) (c.in_ok-limit-in-Ok.ensures.took all t.0) (c.in-Ok.ensures.counts.0, c.in_ok-order-in-Ok.ensures.counts.0, c.in_ok-limit-in-Ok.ensures.counts.0) (λ (x : Option GroupingHeld). target_of x ≡ cert.round.target) (Err c.in-Err-read_target.stop) (c.in-Err-read_target.ensures.taken all sees cert.round.target (tree_behind cert))

pub returns-in-Err-clause-taken : goal.returns-in-Err-clause-taken
returns-in-Err-clause-taken g c all sees cert items =
    taken_stop (IsHeadOf cert) (λ (r : RoundHeld). round_of r ≡ cert.round) (items_of_head cert.round.format cert.round.tolerance) (item.Order cert.round.order ∷ item.Limit cert.round.limit ∷ items_of_target cert.round.target)
    (item.Order cert.round.order ∷ item.Limit cert.round.limit ∷ (items_of_target cert.round.target ++ tree_behind cert)) (tree_behind cert) (fed_by (stream_of g.S.ItemSource.left g.S.ItemSource.given c.args.feed.now c.args.from.now) all) (fed_by (stream_of g.S.ItemSource.left g.S.ItemSource.given c.read_head.new.feed c.read_head.new.from) all) c.in-Err.stop
    (c.in-Err.ensures.taken all sees cert.round.format cert.round.tolerance (item.Order cert.round.order ∷ item.Limit cert.round.limit ∷ (items_of_target cert.round.target ++ tree_behind cert)) items)
