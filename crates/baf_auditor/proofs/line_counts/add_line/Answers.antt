use Rattle.std.proofs.Common.{◌≡◌, ◌∙◌, ◌++◌, ◌∷◌, ◌≤◌, [], ℕ, List, ap, rules, sym, subst}
use Rattle.std.specs.List.{All}
use Rattle.std.specs.Map.{lookup}
use Rattle.std.specs.BTreeMap.{is_at}
use Rattle.std.specs.Ordering.{nat_cmp}
use Rattle.baf_auditor.specs.Naming.{named_again}
use Rattle.baf_auditor.specs.declared.line_counts.Named.{Named}
use Rattle.baf_auditor.proofs.EntryLemmas.{InOrder}
use Rattle.baf_auditor.proofs.LineLemmas.{added}
use Rattle.baf_auditor.proofs.line_counts.add_line.Goals as goal

pub returns-clause-entries : goal.returns-clause-entries
returns-clause-entries c =
    let line = c.args.line.now in
    let took = c.take_last-before in
    let is : c.push.new.self.items ≡ took.new.named.items ++ (line.block, named_again took.result line.label) ∷ [] = search rules in
    let a = added c.args.named.now.items took.new.named.items took.result line c.requires.sorted c.requires.before took.ensures.some took.ensures.none took.ensures.other in
    λ code. ap (λ (l : List (ℕ × Named)). lookup (is_at (nat_cmp code)) l) is ∙ a.entries code

pub returns-clause-sorted : goal.returns-clause-sorted
returns-clause-sorted c =
    let line = c.args.line.now in
    let took = c.take_last-before in
    let is : c.push.new.self.items ≡ took.new.named.items ++ (line.block, named_again took.result line.label) ∷ [] = search rules in
    let a = added c.args.named.now.items took.new.named.items took.result line c.requires.sorted c.requires.before took.ensures.some took.ensures.none took.ensures.other in
    subst (λ (l : List (ℕ × Named)). InOrder l) (sym is) a.sorted

pub returns-clause-before : goal.returns-clause-before
returns-clause-before c =
    let line = c.args.line.now in
    let took = c.take_last-before in
    let is : c.push.new.self.items ≡ took.new.named.items ++ (line.block, named_again took.result line.label) ∷ [] = search rules in
    let a = added c.args.named.now.items took.new.named.items took.result line c.requires.sorted c.requires.before took.ensures.some took.ensures.none took.ensures.other in
    subst (λ (l : List (ℕ × Named)). All (λ e. e.0 ≤ line.block) l) (sym is) a.upto
