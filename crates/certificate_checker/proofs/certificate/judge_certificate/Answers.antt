use Rattle.std.proofs.Common.{◌≡◌, ◌∷◌, ◌++◌, [], Option, refl}
use Rattle.county_problem.specs.ProblemValue.{problem_of}
use Rattle.certificate_data.specs.RoundValue.{round_of}
use Rattle.certificate_lines.specs.declared.item.Item.TheVariants as item
use Rattle.certificate_text.specs.Trees.{items_of_tree}
use Rattle.certificate_checker.specs.Feeding.{stream_of, fed_by}
use Rattle.certificate_checker.proofs.Judged.{unread, round_off, end_off, certificate_done}
use Rattle.county_codes.specs.declared.group.Grouping.{Grouping}
use Rattle.certificate_data.specs.declared.round.Round.{Round}
use Rattle.certificate_checker.proofs.Reaching.{fed_here, fed_twice, fed_off}
use Rattle.certificate_checker.proofs.certificate.judge_certificate.Goals as goal

pub returns-in-Err-judge_round-clause-judged : goal.returns-in-Err-judge_round-clause-judged
returns-in-Err-judge_round-clause-judged g c all sees cert fits items =
    let j = c.in-Err-judge_round.ensures.fed all sees in
    let r = c.in-Ok.ensures.fed all j.0 in
    round_off (problem_of c.args.problem.now) cert (fed_by (stream_of g.S.ItemSource.left g.S.ItemSource.given c.args.feed.now c.args.from.now) all) c.requires.start.1 (fed_by (stream_of g.S.ItemSource.left g.S.ItemSource.given c.read_round.new.feed c.read_round.new.from) all) c.in-Ok.round (c.in-Ok.ensures.taken all j.0 cert items) r.1 c.requires.start.0 fits (fed_by (stream_of g.S.ItemSource.left g.S.ItemSource.given c.judge_round.new.feed c.judge_round.new.from) all) c.in-Err-judge_round.stop (c.in-Err-judge_round.ensures.judged all sees)

pub returns-in-Err-next_end-clause-judged : goal.returns-in-Err-next_end-clause-judged
returns-in-Err-next_end-clause-judged g c all sees cert fits items =
    let e = c.in-Err-next_end.ensures.fed all sees in
    let j = c.in-Ok-judge_round.ensures.fed all e.0 in
    let r = c.in-Ok.ensures.fed all j.0 in
    end_off (problem_of c.args.problem.now) cert (fed_by (stream_of g.S.ItemSource.left g.S.ItemSource.given c.args.feed.now c.args.from.now) all) c.requires.start.1 (fed_by (stream_of g.S.ItemSource.left g.S.ItemSource.given c.read_round.new.feed c.read_round.new.from) all) c.in-Ok.round (c.in-Ok.ensures.taken all j.0 cert items) r.1 c.requires.start.0 fits (fed_by (stream_of g.S.ItemSource.left g.S.ItemSource.given c.judge_round.new.feed c.judge_round.new.from) all) (c.in-Ok-judge_round.ensures.judged all e.0) j.1 (fed_by (stream_of g.S.ItemSource.left g.S.ItemSource.given c.next_end.new.feed c.next_end.new.from) all) c.in-Err-next_end.stop (c.in-Err-next_end.ensures.took all sees)

pub returns-in-Ok-next_end-clause-judged : goal.returns-in-Ok-next_end-clause-judged
returns-in-Ok-next_end-clause-judged g c all sees cert fits items =
    let e = c.in-Ok-next_end.ensures.fed all sees in
    let j = c.in-Ok-judge_round.ensures.fed all e.0 in
    let r = c.in-Ok.ensures.fed all j.0 in
    certificate_done (problem_of c.args.problem.now) cert (fed_by (stream_of g.S.ItemSource.left g.S.ItemSource.given c.args.feed.now c.args.from.now) all) c.requires.start.1 (fed_by (stream_of g.S.ItemSource.left g.S.ItemSource.given c.read_round.new.feed c.read_round.new.from) all) c.in-Ok.round (c.in-Ok.ensures.taken all j.0 cert items) r.1 c.requires.start.0 fits (fed_by (stream_of g.S.ItemSource.left g.S.ItemSource.given c.judge_round.new.feed c.judge_round.new.from) all) (c.in-Ok-judge_round.ensures.judged all e.0) j.1 c.in-Ok.round.target refl

pub returns-in-Err-clause-fed : goal.returns-in-Err-clause-fed
returns-in-Err-clause-fed g c all sees =
    let r = c.in-Err.ensures.fed all sees in
    (r.0, fed_off Round (Option Grouping) _ _ _ c.in-Err.stop (fed_here _) r.1)

pub returns-in-Err-judge_round-clause-fed : goal.returns-in-Err-judge_round-clause-fed
returns-in-Err-judge_round-clause-fed g c all sees =
    let j = c.in-Err-judge_round.ensures.fed all sees in
    let r = c.in-Ok.ensures.fed all j.0 in
    (r.0, fed_off (Unit {0}) (Option Grouping) _ _ _ c.in-Err-judge_round.stop r.1 j.1)

pub returns-in-Err-next_end-clause-fed : goal.returns-in-Err-next_end-clause-fed
returns-in-Err-next_end-clause-fed g c all sees =
    let e = c.in-Err-next_end.ensures.fed all sees in
    let j = c.in-Ok-judge_round.ensures.fed all e.0 in
    let r = c.in-Ok.ensures.fed all j.0 in
    (r.0, fed_off (Unit {0}) (Option Grouping) _ _ _ c.in-Err-next_end.stop (fed_twice _ _ _ r.1 j.1) e.1)

pub returns-in-Ok-next_end-clause-fed : goal.returns-in-Ok-next_end-clause-fed
returns-in-Ok-next_end-clause-fed g c all sees =
    let e = c.in-Ok-next_end.ensures.fed all sees in
    let j = c.in-Ok-judge_round.ensures.fed all e.0 in
    let r = c.in-Ok.ensures.fed all j.0 in
    (r.0, fed_twice _ _ _ (fed_twice _ _ _ r.1 j.1) e.1)

pub returns-in-Err-clause-judged : goal.returns-in-Err-clause-judged
returns-in-Err-clause-judged g c all sees cert fits items =
    unread (problem_of c.args.problem.now) cert (fed_by (stream_of g.S.ItemSource.left g.S.ItemSource.given c.args.feed.now c.args.from.now) all) c.requires.start.1 (λ (x : Round). round_of x ≡ cert.round) (items_of_tree cert.tree ++ item.End ∷ []) (fed_by (stream_of g.S.ItemSource.left g.S.ItemSource.given c.read_round.new.feed c.read_round.new.from) all) c.in-Err.stop (c.in-Err.ensures.taken all sees cert items)
