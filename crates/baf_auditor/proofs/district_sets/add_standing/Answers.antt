use Rattle.std.proofs.Common.{◌≡◌, ◌+◌, ◌<◌, ℕ, List, length, map, Some, cond, rules, sym, subst}
use Rattle.std.specs.List.{All}
use Rattle.std.specs.BTreeMap.{get, is_at}
use Rattle.std.proofs.lemmas.Map.Views.{All-keys-insert_entry}
use Rattle.baf_auditor.specs.Findings.{drawn_sets, county_of_block}
use Rattle.baf_auditor.specs.Listing.{place_of}
use Rattle.baf_auditor.specs.Giving.{by_label}
use Rattle.baf_auditor.proofs.GivingLemmas.{put_place}
use Rattle.baf_auditor.proofs.district_sets.add_standing.Goals as goal

pub returns-in_ok-insert-clause-entries : goal.returns-in_ok-insert-clause-entries
returns-in_ok-insert-clause-entries c = λ key.
    let label = c.args.label.now in
    let place = c.in-Some.place in
    let drawn = drawn_sets c.args.problem.now c.args.grouping.now.groups.items in
    let there : place_of drawn (county_of_block c.args.code) ≡ Some place = search rules in
    let same : c.in_ok-copy.field-0 ≡ label = search rules in
    put_place label c.args.code place drawn key (get by_label c.args.found.now key) (get by_label c.insert.new.self key) there
    (subst (λ (l : List ℕ). get by_label c.insert.new.self key ≡ cond (is_at (by_label (l, place)) key) (Some tt) (get by_label c.args.found.now key)) same (c.in_ok-insert.ensures.updates.0 key))

pub returns-in_ok-insert-clause-within : goal.returns-in_ok-insert-clause-within
returns-in_ok-insert-clause-within c = λ within.
    let groups = length c.args.grouping.now.groups.items in
    let key : List ℕ × ℕ = (c.in_ok-copy.field-0, c.in-Some.place) in
    let old = c.args.found.now.entries in
    let below : c.in-Some.place < groups + 1000 = search rules in
    subst (λ (es : List ((List ℕ × ℕ) × Unit {0})). All (λ k. k.1 < groups + 1000) (map (λ e. e.0) es)) (sym c.in_ok-insert.ensures.entries)
    (All-keys-insert_entry by_label key tt (λ (k : List ℕ × ℕ). k.1 < groups + 1000) old within below)
