use Rattle.std.proofs.Common.{◌≡◌, Option}
use Rattle.county_codes.specs.declared.tolerance.Tolerance.{Tolerance}
use Rattle.certificate_data.specs.declared.format.Format.{Format}
use Rattle.certificate_checker.specs.Feeding.{stream_of, fed_by}
use Rattle.certificate_checker.proofs.Reaching.{fed_twice}
use Rattle.certificate_checker.proofs.HeadsRead.{head_stops}
use Rattle.certificate_checker.proofs.rounds.read_head.Goals as goal

pub returns-in-Err-clause-taken : goal.returns-in-Err-clause-taken
returns-in-Err-clause-taken g c all sees format tolerance rest items =
    head_stops {X = Format × Option Tolerance} (λ r. (r.0 ≡ format) × (r.1 ≡ tolerance)) format tolerance rest (fed_by (stream_of g.S.ItemSource.left g.S.ItemSource.given c.args.feed.now c.args.from.now) all) (fed_by (stream_of g.S.ItemSource.left g.S.ItemSource.given c.next_head.new.feed c.next_head.new.from) all) c.in-Err.stop (c.in-Err.ensures.took all sees) items

pub returns-in-Ok-clause-fed : goal.returns-in-Ok-clause-fed
returns-in-Ok-clause-fed g c all sees =
    let w = c.in-Ok.ensures.fed all sees in
    let h = c.in-Ok-default-Two.ensures.fed all w.0 in
    (h.0, fed_twice _ _ _ h.1 w.1)
