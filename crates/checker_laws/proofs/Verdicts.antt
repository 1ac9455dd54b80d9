-- What verdicts show.
use Rattle.std.proofs.Common.{◌≡◌, ℕ, ◌+◌, ◌≤◌, length, Option, Some, None, refl, sym, ap, ◌∙◌, subst, arith}
use Rattle.grouping_laws.specs.Problem.{Problem}
use Rattle.grouping_laws.specs.Grouping.{Grouping}
use Rattle.grouping_laws.specs.GroupsFrom.{IsOrder}
use Rattle.grouping_laws.specs.Tolerance.{HasTolerance}
use Rattle.grouping_laws.proofs.Elements.{has_all, has_from_contains}
use Rattle.county_problem.proofs.JudgeLemmas.{fault_excludes}
use Rattle.certificate_data.specs.Round.{Round}
use Rattle.certificate_laws.specs.State.{empty_state}
use Rattle.certificate_data.specs.Tree.{Tree}
use Rattle.certificate_laws.specs.Certificate.{TargetFits, IsCertificate, Conclusion}
use Rattle.certificate_laws.proofs.Agreement.{certificate_shows}
use Rattle.checker_laws.specs.Fault.{Fault, TargetFault}
use Rattle.checker_laws.specs.End.{End, fine, faulty, LineEnds, LinesEnd, Then}
use Rattle.checker_laws.specs.Lines.{tolerance_line, target_lines, tree_lines}
use Rattle.checker_laws.specs.Trees.{TreeEnds}
use Rattle.checker_laws.specs.Verdict.{IsToleranceFault, RestEnds, IsOrderFault, IsLargeEnough, IsLimitFault, IsLawfulTarget, IsTargetFault, CertificateEnds, CertificateVerdict, Best, Impossible, No, shown, verdict_of}
use Rattle.checker_laws.specs.Laws.{VerdictsShow}
use Rattle.checker_laws.proofs.Ends.{OneEnd, fine_not, lines_one, then_one}
use Rattle.checker_laws.proofs.GroupingFaults.{fault_one, some_same, some_not_none}
use Rattle.checker_laws.proofs.Trees.{trees_end}

limit_apart : (limit : ℕ) (target : Option Grouping) (f : Fault) → IsLargeEnough limit target → IsLimitFault limit target f → ⊥
limit_apart limit None f h k = k
limit_apart limit (Some t) f h k = omega (arith, has_all (λ g. length g.codes ≤ limit) t h k.1.0 (has_from_contains t k.1.0 k.1.1), k.1.2)

limit_same : (limit : ℕ) (target : Option Grouping) (f g : Fault) → IsLimitFault limit target f → IsLimitFault limit target g → f ≡ g
limit_same limit None f g h k = absurd h
limit_same limit (Some t) f g h k = h.0 ∙ sym k.0

target_apart : (p : Problem) (target : Option Grouping) (f : Fault) → IsLawfulTarget p target → IsTargetFault p target f → ⊥
target_apart p None f h k = k
target_apart p (Some t) f h k = fault_excludes p t k.0 k.2 k.3 h

target_same : (p : Problem) (target : Option Grouping) (f g : Fault) → IsTargetFault p target f → IsTargetFault p target g → f ≡ g
target_same p None f g h k = absurd h
target_same p (Some t) f g h k = h.1 ∙ (ap TargetFault (fault_one p t h.0 k.0 h.2 k.2 h.3 k.3) ∙ sym k.1)

rest_one : (p : Problem) (round : Round) (tree : Tree) (second : ℕ) → OneEnd (RestEnds p round tree second)
rest_one p round tree second =
    then_one (LineEnds (IsOrder p round.order) (IsOrderFault p round) second)
    (λ third later. Then (LineEnds (IsLargeEnough round.limit round.target) (IsLimitFault round.limit round.target) third)
    (λ fourth last. Then (LinesEnd (1 + target_lines round.target) (IsLawfulTarget p round.target) (IsTargetFault p round.target) fourth) (TreeEnds tree p round (empty_state p)) last)
    later)
    (lines_one 1 (IsOrder p round.order) (IsOrderFault p round) second (λ f h k. k.1 h) (λ f g h k. h.0 ∙ sym k.0))
    (λ third a. then_one (LineEnds (IsLargeEnough round.limit round.target) (IsLimitFault round.limit round.target) third)
    (λ fourth last. Then (LinesEnd (1 + target_lines round.target) (IsLawfulTarget p round.target) (IsTargetFault p round.target) fourth) (TreeEnds tree p round (empty_state p)) last)
    (lines_one 1 (IsLargeEnough round.limit round.target) (IsLimitFault round.limit round.target) third (limit_apart round.limit round.target) (limit_same round.limit round.target))
    (λ fourth b. then_one (LinesEnd (1 + target_lines round.target) (IsLawfulTarget p round.target) (IsTargetFault p round.target) fourth) (TreeEnds tree p round (empty_state p))
    (lines_one (1 + target_lines round.target) (IsLawfulTarget p round.target) (IsTargetFault p round.target) fourth (target_apart p round.target) (target_same p round.target))
    (λ n c. trees_end.one tree p round (empty_state p) n)))

certificate_one : (p : Problem) (round : Round) (tree : Tree) → OneEnd (CertificateEnds p round tree)
certificate_one p round tree =
    then_one (LineEnds (HasTolerance p round.tolerance) (IsToleranceFault p round) (tolerance_line round.tolerance)) (RestEnds p round tree)
    (lines_one 1 (HasTolerance p round.tolerance) (IsToleranceFault p round) (tolerance_line round.tolerance) (λ f h k. k.1 h) (λ f g h k. h.0 ∙ sym k.0))
    (λ second a. rest_one p round tree second)

target_fits : (p : Problem) (limit : ℕ) (target : Option Grouping) → IsLargeEnough limit target → IsLawfulTarget p target → TargetFits p limit target
target_fits p limit None h k = tt
target_fits p limit (Some t) h k = (k, h)

large_enough : (p : Problem) (limit : ℕ) (target : Option Grouping) → TargetFits p limit target → IsLargeEnough limit target
large_enough p limit None h = tt
large_enough p limit (Some t) h = h.1

lawful_target : (p : Problem) (limit : ℕ) (target : Option Grouping) → TargetFits p limit target → IsLawfulTarget p target
lawful_target p limit None h = tt
lawful_target p limit (Some t) h = h.0

certificate_proves : (p : Problem) (round : Round) (tree : Tree) (next : ℕ) → CertificateEnds p round tree (fine next) → IsCertificate p round tree
certificate_proves p round tree next h = record {
  tolerance = h.1.0;
  order = h.2.1.0;
  target = target_fits p round.limit round.target h.2.2.1.0 h.2.2.2.1.0;
  proof = (trees_end.proves tree p round (empty_state p) h.2.2.2.0 next h.2.2.2.2).0;
}

-- the line of the tree, and the one behind it
abbrev tree_line : Round → ℕ
tree_line round = tolerance_line round.tolerance + 3 + (1 + target_lines round.target)

certificate_ends : (p : Problem) (round : Round) (tree : Tree) → IsCertificate p round tree → CertificateEnds p round tree (fine (tree_line round + tree_lines tree))
certificate_ends p round tree c = (
  tolerance_line round.tolerance + 1,
  (c.tolerance, refl),
  (
    tolerance_line round.tolerance + 2,
    (c.order, omega arith),
    (
      tolerance_line round.tolerance + 3,
      (large_enough p round.limit round.target c.target, omega arith),
      (tree_line round, (lawful_target p round.limit round.target c.target, refl), trees_end.ends tree p round (empty_state p) (tree_line round) c.proof),
    ),
  ),
)

abbrev said : CertificateVerdict → Option (Option Grouping)
said (Best target) = Some (Some target)
said Impossible = Some None
said (No fault line) = None

shown_said : (target : Option Grouping) → said (shown target) ≡ Some target
shown_said None = refl
shown_said (Some t) = refl

-- a verdict that isn't No comes of a certificate, and says its target
certified : (p : Problem) (round : Round) (tree : Tree) (verdict : CertificateVerdict) (target : Option Grouping) → said verdict ≡ Some target → (end : End) → CertificateEnds p round tree end → verdict ≡ verdict_of round.target end
    → IsCertificate p round tree × (round.target ≡ target)
certified p round tree verdict target e (fine next) h v = (certificate_proves p round tree next h, some_same round.target target (sym (ap said v ∙ shown_said round.target) ∙ e))
certified p round tree verdict target e (faulty f l) h v = absurd (some_not_none target (sym e ∙ ap said v))

refused : (p : Problem) (round : Round) (tree : Tree) (fault : Fault) (line : ℕ) (end : End) → CertificateEnds p round tree end → No fault line ≡ verdict_of round.target end → ¬ IsCertificate p round tree
refused p round tree fault line (fine next) h v c = some_not_none round.target (sym (ap said v ∙ shown_said round.target))
refused p round tree fault line (faulty f l) h v c =
    fine_not (tree_line round + tree_lines tree) f l (certificate_one p round tree (fine (tree_line round + tree_lines tree)) (faulty f l) (certificate_ends p round tree c) h)

pub verdicts_show : VerdictsShow
verdicts_show = record {
  best = λ p round tree target v.
      let c = certified p round tree (Best target) (Some target) refl v.0 v.1 v.2 in
      (c.0, c.1, subst (Conclusion p) c.1 (certificate_shows p round tree c.0));
  impossible = λ p round tree v.
      let c = certified p round tree Impossible None refl v.0 v.1 v.2 in
      (c.0, c.1, subst (Conclusion p) c.1 (certificate_shows p round tree c.0));
  no = λ p round tree fault line v. refused p round tree fault line v.0 v.1 v.2;
  yes = λ p round tree c. (fine (tree_line round + tree_lines tree), certificate_ends p round tree c, refl);
  one = λ p round tree x y v w. v.2 ∙ (ap (verdict_of round.target) (certificate_one p round tree v.0 w.0 v.1 w.1) ∙ sym w.2);
}
