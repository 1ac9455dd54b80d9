use Rattle.std.proofs.Common.{◌≡◌, ◌++◌, ℕ, List, [], map, rules, sym, subst}
use Rattle.std.specs.Ordering.{nat_cmp}
use Rattle.std.specs.Map.{lookup}
use Rattle.std.specs.BTreeMap.{is_at}
use Rattle.baf_auditor.specs.Findings.{plan_of, IsFinding, AreAll}
use Rattle.baf_auditor.specs.Kinds.{code_finding}
use Rattle.baf_auditor.specs.declared.block_findings.CodeKind.TheVariants as kinds
use Rattle.baf_auditor.specs.declared.finding.Finding.{Finding}
use Rattle.baf_auditor.proofs.GivenLemmas.{given_for}
use Rattle.baf_auditor.proofs.AuditLemmas.{kinds_added, given_by, given_fit, are_all}
use Rattle.baf_auditor.proofs.auditing.plan_findings.Goals as goal

pub add_district_findings-requires-clause-fits : goal.add_district_findings-requires-clause-fits
add_district_findings-requires-clause-fits c =
    let listed = λ (code : ℕ). lookup (is_at (nat_cmp code)) c.in_ok-kinds.kinds.listed.items in
    let are = given_for listed c.args.lines.now c.in_ok-ordered.ordered.items c.in_ok-given.given.items c.deref-5.result.now c.in_ok-ordered.ensures.same c.deref-5.ensures.value c.in_ok-given.ensures.given in
    given_fit _ _ _ _ _ _ (given_by c.args.problem.now c.args.grouping.now.groups.items c.args.blocks.now c.args.lines.now listed c.deref-5.result.now c.requires.ascending c.in_ok-kinds.ensures.listed are) c.requires.fits

pub returns : goal.returns
returns c =
    let listed = λ (code : ℕ). lookup (is_at (nat_cmp code)) c.in_ok-kinds.kinds.listed.items in
    let are = given_for listed c.args.lines.now c.in_ok-ordered.ordered.items c.in_ok-given.given.items c.deref-5.result.now c.in_ok-ordered.ensures.same c.deref-5.ensures.value c.in_ok-given.ensures.given in
    let found = c.in_ok-kinds.kinds in
    let us = map (code_finding kinds.Unknown) found.unknown.items in
    let ts = map (code_finding kinds.Twice) found.twice.items in
    let ns = map (code_finding kinds.Unassigned) found.unassigned.items in
    let adds = c.in_ok-add_district_findings.ensures in
    let one : c.add_codes.new.findings.items ≡ [] ++ us = search rules in
    let two : c.add_codes-2.new.findings.items ≡ c.add_codes.new.findings.items ++ ts = search rules in
    let three : c.add_codes-3.new.findings.items ≡ c.add_codes-2.new.findings.items ++ ns = search rules in
    let list : c.add_district_findings.new.findings.items ≡ us ++ (ts ++ (ns ++ adds.0)) = kinds_added _ _ _ adds.0 _ us ts ns one two three adds.2 in
    subst (λ (l : List Finding). AreAll (IsFinding c.args.problem.now (plan_of c.args.problem.now c.args.grouping.now.groups.items c.args.blocks.now c.args.lines.now)) l) (sym list)
    (are_all _ _ _ _ _ _ (given_by c.args.problem.now c.args.grouping.now.groups.items c.args.blocks.now c.args.lines.now listed c.deref-5.result.now c.requires.ascending c.in_ok-kinds.ensures.listed are) adds.0 adds.1
    found.unknown.items found.twice.items found.unassigned.items c.in_ok-kinds.ensures.kinds.unknown_are c.in_ok-kinds.ensures.kinds.twice_are c.in_ok-kinds.ensures.kinds.unassigned_are)
