use Rattle.std.proofs.Common.{◌≡◌, ℕ, List, true, cond, rules, subst}
use Rattle.std.specs.BTreeMap.{is_at}
use Rattle.std.specs.BTreeSet.{contains}
use Rattle.baf_auditor.specs.Findings.{county_of_block}
use Rattle.baf_auditor.specs.Giving.{by_label}
use Rattle.baf_auditor.proofs.GivingLemmas.{put_county}
use Rattle.baf_auditor.proofs.district_counties.add_county.Goals as goal

pub returns-in_ok-insert : goal.returns-in_ok-insert
returns-in_ok-insert c = λ key.
    let label = c.args.label.now in
    let old = contains by_label c.args.found.now key in
    let new = contains by_label c.insert.new.self key in
    let county : c.in-Some.county ≡ county_of_block c.args.code = search rules in
    let same : c.in_ok-copy.field-0 ≡ label = search rules in
    put_county label c.args.code key old new
    (subst (λ (n : ℕ). new ≡ cond (is_at (by_label (label, n)) key) true old) county
    (subst (λ (l : List ℕ). new ≡ cond (is_at (by_label (l, c.in-Some.county)) key) true old) same (c.in_ok-insert.ensures.updates.0 key)))
