use Rattle.std.proofs.Common.{◌≡◌, ◌++◌, ◌+◌, ◌≤◌, length, rules, refl, arith}
use Rattle.std.specs.List.{filter_map}
use Rattle.std.specs.BTreeMap.{keys}
use Rattle.baf_auditor.specs.Findings.{drawn_sets, groups_from, withdrawn_from}
use Rattle.baf_auditor.specs.Districts.{size_finding, crossings, numbers_from}
use Rattle.baf_auditor.proofs.AuditLemmas.{places_below, districts_added}
use Rattle.baf_auditor.proofs.auditing.add_district_findings.Goals as goal

pub add_crossings-requires : goal.add_crossings-requires
add_crossings-requires c =
    let bound : length c.args.grouping.now.groups.items + 1000 ≤ 1000000 = omega (arith, c.requires.few_groups) in
    places_below (length c.args.grouping.now.groups.items) 1000000 (keys c.in_ok-found.found) c.deref.result.now (search rules) bound c.in_ok-found.ensures.within

pub returns : goal.returns
returns c =
    let gs = c.args.grouping.now.groups.items in
    let ws = c.args.problem.now.withdrawn in
    let found = c.in_ok-found.found in
    let ks = keys found in
    let sums = c.in_ok-sums.sums in
    let bounds = c.district_bounds.result in
    let ss = filter_map (size_finding bounds.0 bounds.1) sums.entries in
    let old = c.args.findings.now.items in
    let one : c.add_crossings.new.findings.items ≡ old ++ crossings (length gs) ks = search rules in
    let two : c.add_group_numbers.new.findings.items ≡ c.add_crossings.new.findings.items ++ numbers_from ks 0 (groups_from 1 gs) = search rules in
    let three : c.add_withdrawn_numbers.new.findings.items ≡ c.add_group_numbers.new.findings.items ++ numbers_from ks (length gs) (withdrawn_from 1 ws) = search rules in
    let four : c.add_sizes.new.findings.items ≡ c.add_withdrawn_numbers.new.findings.items ++ ss = search rules in (
      crossings (length gs) ks ++ (numbers_from ks 0 (drawn_sets c.args.problem.now gs) ++ ss),
      record {
        found = found.entries;
        found_sorted = c.listed_places.ensures.ordered;
        standing_is = c.in_ok-found.ensures.entries;
        sums = sums.entries;
        sums_sorted = c.add_sizes.ensures.ordered;
        sums_are = c.in_ok-sums.ensures;
        bounds = bounds;
        law = c.district_bounds.ensures.law;
        list_is = refl;
      },
      districts_added ks gs ws old _ _ _ _ (crossings (length gs) ks) ss one two three four,
    )
