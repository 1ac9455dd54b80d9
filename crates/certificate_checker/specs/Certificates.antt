-- What is promised of the lines of a certificate outside its tree, and of a whole one.
use Rattle.std.specs.Prelude.{ℕ, ◌+◌, ◌*◌, ◌≡◌, ◌≢◌, ◌≤◌, ◌<◌, List, ◌∷◌, ◌++◌, length, Option, Some, None, Result, Ok}
use Rattle.std.specs.Prelude.{Err, ⊤}
use Rattle.grouping_laws.specs.Problem.{Problem}
use Rattle.grouping_laws.specs.Grouping.{Grouping, counts, sets_of}
use Rattle.county_problem.specs.CountList.{count_at}
use Rattle.county_codes.specs.declared.group.Grouping.{Grouping as GroupingHeld}
use Rattle.grouping_laws.specs.Tolerance.{HasTolerance}
use Rattle.grouping_laws.specs.GroupsFrom.{IsOrder}
use Rattle.certificate_data.specs.Round.{Round}
use Rattle.certificate_data.specs.RoundValue.{target_of}
use Rattle.certificate_laws.specs.State.{empty_state}
use Rattle.certificate_data.specs.Tree.{Tree}
use Rattle.certificate_lines.specs.declared.item.Item.{Item}
use Rattle.certificate_lines.specs.declared.item.Item.TheVariants as item
use Rattle.certificate_data.specs.TreeValue.{Certificate}
use Rattle.certificate_text.specs.Trees.{items_of_head, items_of_target}
use Rattle.checker_laws.specs.Fault.{Fault}
use Rattle.checker_laws.specs.End.{fine, faulty}
use Rattle.checker_laws.specs.Verdict.{IsLargeEnough, IsLawfulTarget, CertificateEnds}
use Rattle.checker_laws.specs.Cost.{Where, TreeLooks, CertificateCosts}
use Rattle.county_problem.specs.declared.grouping_fault.GroupingFault.{GroupingFault}
use Rattle.county_problem.specs.declared.grouping_fault.GroupingFault.TheVariants.{Memory}
use Rattle.state_judge.specs.CheckFaults.{fault_of}
use Rattle.state_judge.specs.declared.fault.CheckFault.TheVariants.{TargetFault}
use Rattle.certificate_checker.specs.Feeding.{FeedValue}
use Rattle.certificate_checker.specs.declared.feed.Halt.{Halt}
use Rattle.certificate_checker.specs.declared.feed.Halt.TheVariants as stop

-- All of these items were read, a step for each, up to the rest behind them, and gave this; or no step was left for one
-- of them.
abbrev pub AreTaken : {X : Type 0} → (X → Type 0) → List Item → List Item → FeedValue → Result X Halt → FeedValue
    → Type 0
AreTaken Gave xs rest old (Ok x) new =
    Gave x × (new.reading.items ≡ rest) × (new.line ≡ old.line + length xs) × (new.used ≡ old.used + length xs)
AreTaken Gave xs rest old (Err stop.Budget) new = old.limit < old.used + length xs
AreTaken Gave xs rest old (Err stop.Refused) new = ⊤
AreTaken Gave xs rest old (Err stop.Unspelled) new = ⊥
AreTaken Gave xs rest old (Err (stop.Text fault)) new = ⊥
AreTaken Gave xs rest old (Err (stop.Fault fault line)) new = ⊥

-- the items of a certificate in front of its tree
abbrev pub round_items : Certificate → List Item
round_items c =
    items_of_head c.round.format c.round.tolerance
    ++ (item.Order c.round.order ∷ item.Limit c.round.limit ∷ items_of_target c.round.target)

-- the judging of a line stopped at its fault
abbrev pub StopsAt : (Fault → Type 0) → ℕ → Halt → Type 0
StopsAt Fails line (stop.Fault fault found) =
    (named : Fault) × (fault_of fault ≡ Some named) × Fails named × (found ≡ line)
StopsAt Fails line stop.Refused = ⊤
StopsAt Fails line stop.Budget = ⊥
StopsAt Fails line stop.Unspelled = ⊥
StopsAt Fails line (stop.Text fault) = ⊥

-- the judging of a target stopped at this fault of it, on its first line, or memory was refused
abbrev pub IsTargetStop : GroupingFault → ℕ → Halt → Type 0
IsTargetStop kind line (stop.Fault fault found) = (fault ≡ TargetFault kind) × (found ≡ line) × (kind ≢ Memory)
IsTargetStop kind line stop.Refused = kind ≡ Memory
IsTargetStop kind line stop.Budget = ⊥
IsTargetStop kind line stop.Unspelled = ⊥
IsTargetStop kind line (stop.Text fault) = ⊥

-- the counts are those of the target; there are none where there is no target
abbrev pub AreCounts : Option Grouping → Option (List ℕ) → Type 0
AreCounts None None = ⊤
AreCounts None (Some list) = ⊥
AreCounts (Some target) None = ⊥
AreCounts (Some target) (Some list) = (i : ℕ) → count_at list i ≡ counts (sets_of target) i

-- how many sets are looked through for a tree at the beginning, where tolerance, order, limit and target are fine
abbrev pub FirstLooks : Problem → Round → Tree → ℕ → Type 0
FirstLooks p round tree n =
    Where (HasTolerance p round.tolerance × IsOrder p round.order × IsLargeEnough round.limit round.target
    × IsLawfulTarget p round.target) (TreeLooks tree p round (empty_state p)) n

-- Behind tolerance, order, limit and target a tree was judged, up to the rest behind it; or the judging stopped at the
-- first fault, or where the limit of steps is not enough.
abbrev pub IsRoundJudged : Problem → Round → Tree → List Item → FeedValue → Result (Unit {0}) Halt → FeedValue → Type 0
IsRoundJudged p round tree rest old (Ok done) new =
    (rest ≡ new.reading.items)
    × ((next : ℕ) × CertificateEnds p round tree (fine next))
    × ((n : ℕ) → FirstLooks p round tree n → new.used + old.line ≤ old.used + new.line + 2 * n)
IsRoundJudged p round tree rest old (Err (stop.Fault fault line)) new =
    (named : Fault) × (fault_of fault ≡ Some named) × CertificateEnds p round tree (faulty named line)
IsRoundJudged p round tree rest old (Err stop.Budget) new =
    (n : ℕ) → FirstLooks p round tree n → old.limit + length rest ≤ old.used + length old.reading.items + 2 * n
IsRoundJudged p round tree rest old (Err stop.Refused) new = ⊤
IsRoundJudged p round tree rest old (Err stop.Unspelled) new = ⊥
IsRoundJudged p round tree rest old (Err (stop.Text fault)) new = ⊥

-- A certificate was judged to its end and its target is given; or the judging stopped at its first fault, or where the
-- limit of steps is below its cost.
abbrev pub IsCertificateJudged : Problem → Certificate → ℕ → Result (Option GroupingHeld) Halt → Type 0
IsCertificateJudged p c limit (Ok target) =
    (target_of target ≡ c.round.target) × ((next : ℕ) × CertificateEnds p c.round c.tree (fine next))
IsCertificateJudged p c limit (Err (stop.Fault fault line)) =
    (named : Fault) × (fault_of fault ≡ Some named) × CertificateEnds p c.round c.tree (faulty named line)
IsCertificateJudged p c limit (Err stop.Budget) = (cost : ℕ) → CertificateCosts p c.round c.tree cost → limit < cost
IsCertificateJudged p c limit (Err stop.Refused) = ⊤
IsCertificateJudged p c limit (Err stop.Unspelled) = ⊥
IsCertificateJudged p c limit (Err (stop.Text fault)) = ⊥
