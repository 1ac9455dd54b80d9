use Rattle.std.proofs.Common.{◌≡◌, ◌+◌, ℕ, List, Some, cond, rules, subst}
use Rattle.std.specs.Option.{unwrap_or}
use Rattle.std.specs.Ordering.{nat_cmp}
use Rattle.std.specs.Cmp.Lexicographic.{slice_cmp}
use Rattle.std.specs.BTreeMap.{get, is_at}
use Rattle.baf_auditor.specs.Districts.{with_people}
use Rattle.baf_auditor.proofs.GivingLemmas.{put_people}
use Rattle.baf_auditor.proofs.sizes.add_people.Goals as goal

pub returns : goal.returns
returns c = λ other.
    let label = c.args.label.now in
    let before : c.unwrap_or-before.result ≡ unwrap_or (get (slice_cmp nat_cmp) c.args.sums.now label) 0 = search rules in
    let same : c.in_ok-copy.field-0 ≡ label = search rules in
    let people : c.from.result ≡ c.args.people = search rules in
    subst (λ (p : ℕ). get (slice_cmp nat_cmp) c.insert.new.self other ≡ with_people other label p (get (slice_cmp nat_cmp) c.args.sums.now other)) people
    (put_people label c.from.result c.unwrap_or-before.result (λ (l : List ℕ). get (slice_cmp nat_cmp) c.args.sums.now l) other (get (slice_cmp nat_cmp) c.insert.new.self other) before
    (subst (λ (l : List ℕ). get (slice_cmp nat_cmp) c.insert.new.self other ≡ cond (is_at (slice_cmp nat_cmp l) other) (Some (c.unwrap_or-before.result + c.from.result)) (get (slice_cmp nat_cmp) c.args.sums.now other)) same (c.in_ok-insert.ensures.updates.0 other)))
