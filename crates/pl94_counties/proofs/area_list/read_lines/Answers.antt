use Rattle.std.proofs.Common.{◌≡◌, ◌++◌, [], Err, sym, rules}
use Rattle.std.proofs.lemmas.List.{append-nil}
use Rattle.pl94_counties.proofs.OfTextLemmas.{segment_stops, geo_stops}
use Rattle.pl94_counties.proofs.area_list.read_lines.Goals as goal

pub returns-in_err-records-clause-reads : goal.returns-in_err-records-clause-reads
returns-in_err-records-clause-reads g c =
    let fault = c.in_err-records.field-0.0 in
    let is : c.from_residual.result ≡ Err fault = search rules in
    let reads = c.in_err-records.ensures.reads in
    rw is (record {
      geo = [];
      segment1 = reads.pulled;
      geo_given = sym (append-nil _);
      segment1_given = reads.given;
      value = λ geo_later segment1_later geo_may segment1_may kept.
          segment_stops c.args.area ((g.L.LinesFrom.left c.args.geo.now).cut ([] ++ geo_later)) ((g.M.LinesFrom.left c.args.segment1.now).cut (reads.pulled ++ segment1_later)) c.args.state fault (reads.holds segment1_later segment1_may kept);
    })

pub returns-in_err-found-clause-reads : goal.returns-in_err-found-clause-reads
returns-in_err-found-clause-reads g c =
    let fault = c.in_err-found.field-0.0 in
    let is : c.from_residual-in_err-found.result ≡ Err fault = search rules in
    let records = c.in_ok-records.ensures.reads in
    let found = c.in_err-found.ensures.reads in
    rw is (record {
      geo = found.pulled;
      segment1 = records.pulled;
      geo_given = found.given;
      segment1_given = records.given;
      value = λ geo_later segment1_later geo_may segment1_may kept.
          geo_stops c.args.area ((g.L.LinesFrom.left c.args.geo.now).cut (found.pulled ++ geo_later)) ((g.M.LinesFrom.left c.args.segment1.now).cut (records.pulled ++ segment1_later)) c.args.state c.in_ok-records.records.entries fault
          (records.holds segment1_later segment1_may) (found.holds geo_later geo_may kept);
    })
