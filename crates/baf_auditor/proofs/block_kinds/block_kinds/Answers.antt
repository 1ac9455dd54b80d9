use Rattle.std.proofs.Common.{◌≡◌, ◌∙◌, ◌&&◌, ℕ, List, is_none, map, nat_lt, not, rules, sym, subst}
use Rattle.std.specs.Map.{lookup}
use Rattle.std.specs.BTreeMap.{is_at}
use Rattle.std.specs.Ordering.{nat_cmp}
use Rattle.std.proofs.lemmas.Map.Keys.{sorted_from_strictly_increasing}
use Rattle.baf_auditor.specs.Findings.{plan_of, AreCodesWith, IsUnknown, IsTwice, IsUnassigned}
use Rattle.baf_auditor.specs.Naming.{has_district}
use Rattle.baf_auditor.specs.declared.line_counts.Named.{Named}
use Rattle.baf_auditor.proofs.KindLemmas.{picked, are_unknown, are_twice, are_unassigned}
use Rattle.baf_auditor.proofs.LineLemmas.{naming_same}
use Rattle.baf_auditor.proofs.block_kinds.block_kinds.Goals as goal

pub returns-clause-kinds : goal.returns-clause-kinds
returns-clause-kinds c =
    let plan = plan_of c.args.problem.now c.args.grouping.now.groups.items c.args.blocks.now c.args.lines.now in
    let sorted = sorted_from_strictly_increasing (map (λ b. b.code) c.args.blocks.now) c.requires.ascending in
    let named = c.in_ok-named.named.items in
    let listed = c.in_ok-listed.listed.items in
    let naming_is = λ (code : ℕ). c.in_ok-named.ensures.entries code ∙ naming_same c.args.lines.now c.args.ordered.now code c.requires.same in
    let unknown_is : c.in_ok-unknown.unknown.items ≡ picked (λ (e : ℕ × Named). is_none (lookup (is_at (nat_cmp e.0)) listed)) named = search rules in
    let twice_is : c.in_ok-twice.twice.items ≡ picked (λ (e : ℕ × Named). e.1.twice) named = search rules in
    let unassigned_is : c.in_ok-unassigned.unassigned.items ≡ picked (λ (e : ℕ × ℕ). nat_lt 0 e.1 && not (has_district (lookup (is_at (nat_cmp e.0)) named))) listed = search rules in
    record {
      unknown_are = subst (λ (codes : List ℕ). AreCodesWith (IsUnknown plan) codes) (sym unknown_is)
          (are_unknown plan named listed sorted c.in_ok-named.ensures.sorted c.in_ok-listed.ensures.sorted naming_is c.in_ok-listed.ensures.entries);
      twice_are = subst (λ (codes : List ℕ). AreCodesWith (IsTwice plan) codes) (sym twice_is)
          (are_twice plan named listed sorted c.in_ok-named.ensures.sorted c.in_ok-listed.ensures.sorted naming_is c.in_ok-listed.ensures.entries);
      unassigned_are = subst (λ (codes : List ℕ). AreCodesWith (IsUnassigned plan) codes) (sym unassigned_is)
          (are_unassigned plan named listed sorted c.in_ok-named.ensures.sorted c.in_ok-listed.ensures.sorted naming_is c.in_ok-listed.ensures.entries);
    }
