-- How a whole certificate ends: its order, its limit, its target, and its tree.
use Rattle.std.proofs.Common.{◌≡◌, ℕ, ◌+◌, ◌*◌, ◌≤◌, ◌<◌, List, [], ◌∷◌, length, Result, Ok, Err, inl, inr, refl, sym, subst, arith, ⊎_elim}
use Rattle.grouping_laws.specs.Problem.{Problem}
use Rattle.grouping_laws.specs.Tolerance.{HasTolerance}
use Rattle.grouping_laws.specs.GroupsFrom.{IsOrder}
use Rattle.certificate_data.specs.Round.{Round}
use Rattle.certificate_laws.specs.State.{State, empty_state}
use Rattle.certificate_data.specs.Tree.{Tree}
use Rattle.certificate_laws.specs.Proving.{Proves}
use Rattle.certificate_lines.specs.declared.item.Item.{Item}
use Rattle.checker_laws.specs.Fault.{Fault}
use Rattle.checker_laws.specs.End.{End, fine, faulty}
use Rattle.checker_laws.specs.Lines.{tolerance_line, target_lines}
use Rattle.checker_laws.specs.Trees.{TreeEnds}
use Rattle.checker_laws.specs.Verdict.{IsToleranceFault, IsOrderFault, IsLargeEnough, IsLimitFault, IsLawfulTarget, IsTargetFault, CertificateEnds}
use Rattle.checker_laws.specs.Cost.{TreeLooks}
use Rattle.checker_laws.specs.Work.{a_tree, WorkEnds}
use Rattle.checker_laws.specs.WorkCost.{WorkLooks}
use Rattle.std.proofs.lemmas.Bool.{cases_lt}
use Rattle.checker_laws.proofs.Work.{lines_carry}
use Rattle.checker_laws.proofs.WorkCost.{where_fine}
use Rattle.certificate_checker.specs.Feeding.{FeedValue}
use Rattle.certificate_checker.specs.Judging.{IsJudged}
use Rattle.certificate_checker.specs.Certificates.{StopsAt, FirstLooks, IsRoundJudged}
use Rattle.certificate_checker.specs.declared.feed.Halt.{Halt}
use Rattle.certificate_checker.specs.declared.feed.Halt.TheVariants as stop

-- a tree alone is looked through, whether it is a proof or not
pub looks_alone : (p : Problem) (round : Round) (tree : Tree) (s : State) (n : ℕ) → TreeLooks tree p round s n → (a b : ℕ) → ((m : ℕ) → WorkLooks (a_tree tree s ∷ []) p round m → m ≡ n → a ≤ b) → a ≤ b
looks_alone p round tree s n looks a b enough = ⊎_elim (λ less. absurd (impossible less)) (λ l. l) (cases_lt b a)
  where
    no_proof : b < a → Proves tree p round s → ⊥
    no_proof less proof = omega (arith, less, enough n (n, 0, looks, inl (proof, refl), omega arith) refl)

    impossible : b < a → ⊥
    impossible less = omega (arith, less, enough n (n, 0, looks, inr (no_proof less, refl), omega arith) refl)

module _ (p : Problem) (round : Round) (tree : Tree) where
  -- the fault of the tolerance, of the order, of the limit, of the target
  abbrev first : ℕ
  first = tolerance_line round.tolerance

  pub tolerance_ends : (f : Fault) → IsToleranceFault p round f → CertificateEnds p round tree (faulty f first)
  tolerance_ends f h = inl (h, refl)

  pub order_ends : HasTolerance p round.tolerance → (f : Fault) → IsOrderFault p round f → CertificateEnds p round tree (faulty f (first + 1))
  order_ends tolerance f h = inr (first + 1, (tolerance, refl), inl (h, refl))

  pub limit_ends : HasTolerance p round.tolerance → IsOrder p round.order → (f : Fault) → IsLimitFault round.limit round.target f → CertificateEnds p round tree (faulty f (first + 2))
  limit_ends tolerance order f h = inr (first + 1, (tolerance, refl), inr (first + 2, (order, omega arith), inl (h, refl)))

  pub target_ends : HasTolerance p round.tolerance → IsOrder p round.order → IsLargeEnough round.limit round.target → (f : Fault) → IsTargetFault p round.target f → CertificateEnds p round tree (faulty f (first + 3))
  target_ends tolerance order large f h = inr (first + 1, (tolerance, refl), inr (first + 2, (order, omega arith), inr (first + 3, (large, omega arith), inl (h, refl))))

  -- as the tree ends behind them, so the certificate does
  tree_ends : HasTolerance p round.tolerance → IsOrder p round.order → IsLargeEnough round.limit round.target → IsLawfulTarget p round.target → (end : End) → TreeEnds tree p round (empty_state p) (first + 3 + (1 + target_lines round.target)) end → CertificateEnds p round tree end
  tree_ends tolerance order large lawful (fine next) e = (first + 1, (tolerance, refl), (first + 2, (order, omega arith), (first + 3, (large, omega arith), (first + 3 + (1 + target_lines round.target), (lawful, refl), e))))
  tree_ends tolerance order large lawful (faulty f line) e = inr (first + 1, (tolerance, refl), inr (first + 2, (order, omega arith), inr (first + 3, (large, omega arith), inr (first + 3 + (1 + target_lines round.target), (lawful, refl), e))))

  pub round_stops : (Fails : Fault → Type 0) (line : ℕ) (rest : List Item) (old new : FeedValue) (s : Halt) → StopsAt Fails line s → ((f : Fault) → Fails f → CertificateEnds p round tree (faulty f line)) → IsRoundJudged p round tree rest old (Err s) new
  round_stops Fails line rest old new (stop.Fault fault found) h ends = (h.0, h.1, subst (λ n. CertificateEnds p round tree (faulty h.0 n)) (sym h.3) (ends h.0 h.2))
  round_stops Fails line rest old new stop.Refused h ends = tt
  round_stops Fails line rest old new stop.Budget h ends = absurd h
  round_stops Fails line rest old new stop.Unspelled h ends = absurd h
  round_stops Fails line rest old new (stop.Text fault) h ends = absurd h

  module _ (tolerance : HasTolerance p round.tolerance) (order : IsOrder p round.order) (large : IsLargeEnough round.limit round.target) (lawful : IsLawfulTarget p round.target) (old : FeedValue) (line : old.line ≡ tolerance_line round.tolerance + 3 + target_lines round.target) where
    from_tree : (end : End) → WorkEnds (a_tree tree (empty_state p) ∷ []) p round (old.line + 1) end → CertificateEnds p round tree end
    from_tree end e = tree_ends tolerance order large lawful end (subst (λ n. TreeEnds tree p round (empty_state p) n end) (omega (arith, line)) (lines_carry.alone tree p round (empty_state p) (old.line + 1) end e))

    looked : (n : ℕ) → FirstLooks p round tree n → TreeLooks tree p round (empty_state p) n
    looked n l = where_fine (HasTolerance p round.tolerance × IsOrder p round.order × IsLargeEnough round.limit round.target × IsLawfulTarget p round.target) (TreeLooks tree p round (empty_state p)) n (tolerance, order, large, lawful) l

    pub round_judged : (rest : List Item) (new : FeedValue) (r : Result (Unit {0}) Halt) → IsJudged p round (a_tree tree (empty_state p) ∷ []) [] rest old r new → IsRoundJudged p round tree rest old r new
    round_judged rest new (Ok done) h = (
      h.0,
      (new.line + 1, from_tree (fine (new.line + 1)) (h.1.ends (fine (new.line + 1)) refl)),
      λ n l. looks_alone p round tree (empty_state p) n (looked n l) (new.used + old.line) (old.used + new.line + 2 * n)
          (λ m w same. let x = h.1.looks m w in omega (arith, x.2, same)),
    )
    round_judged rest new (Err (stop.Fault fault at)) h = (h.0, h.1, from_tree (faulty h.0 at) h.2)
    round_judged rest new (Err stop.Budget) h = λ n l. looks_alone p round tree (empty_state p) n (looked n l) (old.limit + length rest) (old.used + length old.reading.items + 2 * n) (λ m w same. omega (arith, h m w, same))
    round_judged rest new (Err stop.Refused) h = tt
    round_judged rest new (Err stop.Unspelled) h = absurd h
    round_judged rest new (Err (stop.Text fault)) h = absurd h
