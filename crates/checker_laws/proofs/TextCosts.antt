-- A text has one cost.
use Rattle.std.proofs.Common.{◌≡◌, ◌+◌, ◌*◌, ◌≤◌, arith, ℕ, List, sym, subst, ◌∙◌, inl, inr}
use Rattle.grouping_laws.specs.Problem.{Problem}
use Rattle.certificate_data.specs.TreeValue.{Certificate}
use Rattle.certificate_text.proofs.OneSpelling.{one_value}
use Rattle.checker_laws.specs.Cost.{CertificateCosts}
use Rattle.checker_laws.proofs.Costs.{costs_are_one}
use Rattle.checker_laws.specs.TextCost.{line_feeds, TextCosts}
use Rattle.checker_laws.specs.TextLaws.{TextCostsAreOne}
use Rattle.checker_laws.proofs.Spelling.{apart, all_lines}
use Rattle.checker_laws.proofs.SomeCost.{some_cost as not_none}

pub one_cost : (p : Problem) (text : List ℕ) (m n : ℕ) → TextCosts p text m → TextCosts p text n → m ≡ n
one_cost p text m n (inl a) (inl b) =
    let same = subst (λ (d : Certificate). CertificateCosts p d.round d.tree m) (one_value text a.0 b.0 a.1 b.1) a.2 in
    costs_are_one.certificate p b.0.round b.0.tree m n same b.2
one_cost p text m n (inl a) (inr b) = absurd (apart text b.0 a.0 b.1 a.1)
one_cost p text m n (inr a) (inl b) = absurd (apart text a.0 b.0 a.1 b.1)
one_cost p text m n (inr a) (inr b) = a.2 ∙ sym b.2

pub some_cost : (p : Problem) (text : List ℕ) → ((cost : ℕ) → ¬ TextCosts p text cost) → ⊥
some_cost p text none = not_none p text (λ n. none n.0 n.1)

pub cost_of_lines : (p : Problem) (text : List ℕ) (cost : ℕ) → TextCosts p text cost → 3 * (1 + line_feeds text) ≤ cost
cost_of_lines p text cost (inl a) =
    let l = all_lines text a.0 a.1 in
    omega (arith, l.0, l.1, a.2.2)
cost_of_lines p text cost (inr a) = omega (arith, a.2)

pub text_costs_are_one : TextCostsAreOne
text_costs_are_one = record { one = one_cost; some = some_cost; lines = cost_of_lines }
