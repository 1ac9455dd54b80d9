-- What the calls that judge lines promise of what they read.
use Rattle.std.specs.Prelude.{ℕ, ◌+◌, ◌*◌, ◌≡◌, ◌≤◌, Bool, true, false, List, [], ◌∷◌, ◌++◌, length, map, Option, Some}
use Rattle.std.specs.Prelude.{None, Result, Ok, Err, MatchResult, ⊤}
use Rattle.grouping_laws.specs.Problem.{Problem}
use Rattle.grouping_laws.specs.Grouping.{Grouping, counts, sets_of}
use Rattle.county_problem.specs.CountList.{count_at}
use Rattle.connected_sets.specs.Graphs.{graph_order, IsGraph}
use Rattle.certificate_data.specs.Round.{Round}
use Rattle.certificate_data.specs.RoundValue.{target_of}
use Rattle.certificate_laws.specs.State.{State, raise}
use Rattle.certificate_data.specs.Tree.{Allowance, Leaf, Tree, branch, Takes}
use Rattle.certificate_laws.specs.Proving.{NamesLimit, limit_of}
use Rattle.certificate_data.specs.TreeValue.{declared_allowance}
use Rattle.certificate_text.specs.Trees.{items_of_tree}
use Rattle.certificate_lines.specs.declared.item.Item.TheVariants.{Allows}
use Rattle.certificate_lines.specs.ItemReadings.{only_fault}
use Rattle.certificate_lines.specs.declared.item.Item.{Item}
use Rattle.std.specs.Borrow.{Bor}
use Rattle.county_codes.specs.Limits.{most_counties}
use Rattle.checker_laws.specs.Fault.{Fault}
use Rattle.checker_laws.specs.End.{fine, faulty}
use Rattle.checker_laws.specs.Leaves.{LeafEnds, IsAllowanceFault}
use Rattle.checker_laws.specs.Cost.{LineLooks, LeafLooks}
use Rattle.checker_laws.specs.Branches.{IsTakeFault}
use Rattle.checker_laws.specs.Work.{Open, a_tree, some_takes}
use Rattle.state_judge.specs.AllowanceVerdicts.{IsAllowed}
use Rattle.state_judge.specs.declared.bound.Allowed.{Allowed}
use Rattle.state_judge.specs.declared.bound.Allowed.TheVariants.{Loss, Even}
use Rattle.state_judge.specs.declared.fault.LineStop.{LineStop}
use Rattle.state_judge.specs.declared.fault.LineStop.TheVariants as line_stop
use Rattle.state_judge.specs.CheckFaults.{fault_of}
use Rattle.certificate_checker.specs.Feeding.{FeedValue, TookLine, Reaches, Halts}
use Rattle.state_judge.specs.declared.fault.CheckFault.{CheckFault}
use Rattle.state_judge.specs.declared.fault.CheckFault.TheVariants.{BoundLength}
use Rattle.certificate_checker.specs.declared.feed.Halt.{Halt}
use Rattle.certificate_checker.specs.declared.feed.Halt.TheVariants as stop
use Rattle.certificate_checker.specs.declared.input.CheckInput.{CheckInput}

-- the counts are those of the round's target; there are none where there is no target
abbrev pub AreWanted : Option Grouping → Option (Bor (List ℕ)) → Type 0
AreWanted None None = ⊤
AreWanted None (Some list) = ⊥
AreWanted (Some target) None = ⊥
AreWanted (Some target) (Some list) = (i : ℕ) → count_at list.now i ≡ counts (sets_of target) i

-- the county graph is by the round's order, and the counts are the target's
pub record IsCheckInput {C : Type 0} (places : ℕ) (test : C → ℕ → Bool) (g : CheckInput C) : Type 0 where
  pub graph : IsGraph test places g.graph.now
  pub order : graph_order g.graph.now ≡ g.round.now.order
  pub small : g.round.now.limit ≤ most_counties
  pub wanted : AreWanted (target_of g.round.now.target) g.wanted

-- A line of one form was read; or there was none, or one of another form, or no step was left.
abbrev pub TookForm : {X Y : Type 0} → (X → Item) → (Y → X) → FeedValue → Result Y Halt → FeedValue → Type 0
TookForm wrap view old (Ok y) new = TookLine old (Ok (wrap (view y))) new
TookForm {X = X} wrap view old (Err stop.Unspelled) new = (x : X) (xs : List Item) → old.reading.items ≡ wrap x ∷ xs → ⊥
TookForm wrap view old (Err stop.Budget) new = old.used ≡ old.limit
TookForm wrap view old (Err (stop.Text fault)) new = old.reading ≡ only_fault fault
TookForm wrap view old (Err (stop.Fault fault line)) new = ⊥
TookForm wrap view old (Err stop.Refused) new = ⊤

-- the reading stopped as the judging of the line did
abbrev pub IsStopAt : ℕ → LineStop → Halt → Type 0
IsStopAt line (line_stop.Fault fault) found = found ≡ stop.Fault fault line
IsStopAt line line_stop.Unspelled found = found ≡ stop.Unspelled
IsStopAt line line_stop.StepLimit found = found ≡ stop.Budget
IsStopAt line line_stop.Memory found = found ≡ stop.Refused

-- what a line's judging gave, or the stop of the reading that it stopped with
abbrev pub IsJudgedAt : {X : Type 0} → ℕ → Result X LineStop → Result X Halt → Type 0
IsJudgedAt line (Ok x) (Ok y) = y ≡ x
IsJudgedAt line (Err st) (Err found) = IsStopAt line st found
IsJudgedAt line _ _ = ⊥

-- What is left was judged, up to the rest behind it and to what is left then; or the reading stopped in it.
abbrev pub IsJudged : {X : Type 0} → Problem → Round → List Open → List Open → List Item → FeedValue → Result X Halt
    → FeedValue → Type 0
IsJudged p round before after rest old (Ok done) new = (rest ≡ new.reading.items) × Reaches p round old new before after
IsJudged p round before after rest old (Err found) new = Halts p round old before rest found

-- A leaf was judged, whose first line was read last, up to the rest behind it; or the reading stopped in it.
abbrev pub IsLeafJudged : {X : Type 0} → Problem → Round → State → Leaf → List Item → FeedValue → Result X Halt
    → FeedValue → Type 0
IsLeafJudged p round s last rest old (Ok done) new =
    (rest ≡ new.reading.items)
    × LeafEnds last p round s old.line (fine (new.line + 1))
    × ((n : ℕ) → LeafLooks last p round s n → new.used + old.line ≤ old.used + new.line + 2 * n)
IsLeafJudged p round s last rest old (Err (stop.Fault fault line)) new =
    (named : Fault) × (fault_of fault ≡ Some named) × LeafEnds last p round s old.line (faulty named line)
IsLeafJudged p round s last rest old (Err stop.Unspelled) new = ⊥
IsLeafJudged p round s last rest old (Err (stop.Text fault)) new = ⊥
IsLeafJudged p round s last rest old (Err stop.Budget) new =
    (n : ℕ) → LeafLooks last p round s n → old.limit + length rest ≤ old.used + length old.reading.items + 2 * n
IsLeafJudged p round s last rest old (Err stop.Refused) new = ⊤

-- a leaf of one line was judged, whose line was read last
abbrev pub IsShortLeafJudged : Problem → Round → State → Leaf → ℕ → Result (Unit {0}) Halt → Type 0
IsShortLeafJudged p round s last line result =
    (feed : FeedValue) → feed.line ≡ line → IsLeafJudged p round s last feed.reading.items feed result feed

-- the items of lines of a bound leaf
abbrev pub line_items : List Allowance → List Item
line_items lines = map (λ a. Allows (declared_allowance a)) lines

-- the fault of a leaf of one line stands at its line
abbrev pub IsFoundAt : Option CheckFault → ℕ → Result (Unit {0}) Halt → Type 0
IsFoundAt None line (Ok done) = ⊤
IsFoundAt (Some fault) line result = result ≡ Err (stop.Fault fault line)
IsFoundAt None line (Err found) = ⊥

-- a bound leaf ends here, or it is at fault at its first line
abbrev pub IsEndOf : Bool → ℕ → Result (Unit {0}) Halt → Type 0
IsEndOf true opened (Ok done) = ⊤
IsEndOf false opened (Err (stop.Fault BoundLength found)) = found ≡ opened
IsEndOf _ opened _ = ⊥

-- The next one of these lines of a bound leaf was judged, the one for size i; or the reading stopped in it.
abbrev pub IsLineJudged : Problem → Round → State → (ℕ → ℕ) → ℕ → ℕ → List Allowance → List Item → FeedValue
    → Result Allowed Halt → FeedValue → Type 0
IsLineJudged p round s wanted i used [] rest old result new = ⊤
IsLineJudged p round s wanted i used (line ∷ lines) rest old (Ok allowed) new =
    (new.reading.items ≡ line_items lines ++ rest)
    × (new.line ≡ old.line + 1)
    × IsAllowed round.format p s wanted i used line allowed
    × ((m : ℕ) → LineLooks line p round s i m → new.used ≤ old.used + 1 + 2 * m)
IsLineJudged p round s wanted i used (line ∷ lines) rest old (Err (stop.Fault fault found)) new =
    (named : Fault) × (fault_of fault ≡ Some named) × IsAllowanceFault round.format p s wanted i used line named
    × (found ≡ old.line + 1)
IsLineJudged p round s wanted i used (line ∷ lines) rest old (Err stop.Unspelled) new = ⊥
IsLineJudged p round s wanted i used (line ∷ lines) rest old (Err (stop.Text fault)) new = ⊥
IsLineJudged p round s wanted i used (line ∷ lines) rest old (Err stop.Budget) new =
    (m : ℕ) → LineLooks line p round s i m → old.limit ≤ old.used + 1 + 2 * m
IsLineJudged p round s wanted i used (line ∷ lines) rest old (Err stop.Refused) new = ⊤

-- the counties that groups of a size or a smaller one use up are few enough that their number has room
abbrev pub IsSmall : Allowed → Type 0
IsSmall Loss = ⊤
IsSmall (Even now) = now ≤ most_counties

-- The groups of a branch are listed, whose line was read last: its takes are left then, and behind them what is raised
-- past its limit.
abbrev pub AreTakesListed : Problem → Round → State → ℕ → Option ℕ → List (List ℕ) → FeedValue → FeedValue → Type 0
AreTakesListed p round s county limit groups mid new =
    (old : FeedValue) (x : Item) (takes : Takes) (raised : Tree) (more : List Open)
    → TookLine old (Ok x) mid
    → NamesLimit round.format limit
    → Reaches p round old new (a_tree (branch county limit takes raised) s ∷ more) (some_takes takes s groups
    ∷ a_tree raised (raise county (limit_of round limit) s) ∷ more)

-- the judging of a branch stopped at its line, which was read last
abbrev pub IsBranchRefused : Problem → Round → State → ℕ → Option ℕ → FeedValue → Halt → Type 0
IsBranchRefused p round s county limit mid found =
    (old : FeedValue) (x : Item) (takes : Takes) (raised : Tree) (rest : List Item) (more : List Open)
    → TookLine old (Ok x) mid
    → mid.limit ≡ old.limit
    → NamesLimit round.format limit
    → old.reading.items ≡ items_of_tree (branch county limit takes raised) ++ rest
    → Halts p round old (a_tree (branch county limit takes raised) s ∷ more) rest found

-- A branch's line was judged, which was read last: its takes are left then, of groups in these sets; or the judging
-- stopped at it.
abbrev pub IsBranchJudged : {X : Type 0} → (X → List (List ℕ)) → Problem → Round → State → ℕ → Option ℕ → FeedValue
    → Result X Halt → FeedValue → Type 0
IsBranchJudged sets p round s county limit mid result new =
    MatchResult result (λ b. AreTakesListed p round s county limit (sets b) mid new)
    (λ found. IsBranchRefused p round s county limit mid found)

-- the judging of a take stopped at its line, where these groups are still to be taken
abbrev pub IsTakeStop : List (List ℕ) → List ℕ → ℕ → Halt → Type 0
IsTakeStop groups codes line (stop.Fault fault found) =
    (named : Fault) × (fault_of fault ≡ Some named) × IsTakeFault groups codes named × (found ≡ line)
IsTakeStop groups codes line stop.Refused = ⊤
IsTakeStop groups codes line _ = ⊥
