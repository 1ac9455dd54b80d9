use Rattle.std.proofs.Common.{◌≡◌, length, Some, None, rules, sym}
use Rattle.std.specs.List.{position_from}
use Rattle.county_codes.specs.declared.group.Group.{Group}
use Rattle.county_codes.specs.declared.withdrawn.Withdrawn as county
use Rattle.grouping_laws.specs.Sets.{contains}
use Rattle.baf_auditor.specs.Findings.{county_of_block}
use Rattle.baf_auditor.proofs.ListingLemmas.{place_late}
use Rattle.baf_auditor.proofs.block_list.place_of_block.Goals as goal

pub returns-in_ok-place-in-None-clause-place : goal.returns-in_ok-place-in-None-clause-place
returns-in_ok-place-in-None-clause-place c =
    let code = c.in_ok-county.county in
    let county_is : code ≡ county_of_block c.args.code = search rules in
    let none : position_from (λ (g : Group). contains g.codes code) 0 c.args.grouping.now.groups.items ≡ None = search rules in
    let there : position_from (λ (w : county.Withdrawn). contains w.codes code) 0 c.args.problem.now.withdrawn ≡ Some c.in_ok-place-in-None.place = search rules in
    let long : length c.as_slice-groups.result.now ≡ length c.args.grouping.now.groups.items = search rules in
    rw (long, sym county_is) (place_late code c.args.grouping.now.groups.items c.args.problem.now.withdrawn c.in_ok-place-in-None.place none there)
