-- The lines of branches: a branch, a take, a mark and a leaf.
use Rattle.std.proofs.Common.{◌≡◌, ℕ, suc, ◌+◌, ◌*◌, ◌≤◌, List, [], ◌∷◌, ◌++◌, length, Option, Result, Ok, Err, refl, sym, ◌∙◌, ap, subst, arith}
use Rattle.std.proofs.lemmas.List.{length-append}
use Rattle.grouping_laws.specs.Problem.{Problem}
use Rattle.certificate_data.specs.Round.{Round}
use Rattle.certificate_laws.specs.State.{State, close, raise}
use Rattle.certificate_laws.specs.Groups.{AreGroupsAt, IsSetAt}
use Rattle.certificate_data.specs.Tree.{Leaf, Tree, leaf, branch, Takes, no_take, take, groups_of}
use Rattle.certificate_laws.specs.Proving.{limit_of, NamesLimit, CanBranch, EachProves}
use Rattle.certificate_text.specs.Trees.{items_of_tree}
use Rattle.certificate_lines.specs.declared.item.Item.{Item}
use Rattle.checker_laws.specs.End.{fine, faulty}
use Rattle.checker_laws.specs.Branches.{IsBranchFault, IsNextTake, behind}
use Rattle.checker_laws.specs.Leaves.{LeafEnds}
use Rattle.checker_laws.specs.Cost.{IsSetCount, LeafLooks, Both, Where, TreeLooks, TakesLook}
use Rattle.checker_laws.specs.Work.{Open, a_tree, some_takes, WorkEnds}
use Rattle.checker_laws.specs.WorkCost.{WorkLooks}
use Rattle.checker_laws.proofs.Work.{lines_carry}
use Rattle.checker_laws.proofs.WorkCost.{where_fine, lines_cost}
use Rattle.checker_laws.proofs.Leaves.{leaf_valid}
use Rattle.state_judge.specs.LineStops.{StopsAt}
use Rattle.state_judge.specs.declared.fault.LineStop.{LineStop}
use Rattle.state_judge.specs.declared.fault.LineStop.TheVariants as line_stop
use Rattle.certificate_checker.specs.Feeding.{FeedValue, TookLine, Reaches, Halts}
use Rattle.certificate_checker.specs.Judging.{IsLeafJudged, IsJudged, IsStopAt}
use Rattle.certificate_checker.specs.declared.feed.Halt.{Halt}
use Rattle.certificate_checker.specs.declared.feed.Halt.TheVariants as stop

-- what a leaf looks through is no more than all that is left does
leaf_first : (last : Leaf) (p : Problem) (round : Round) (s : State) (more : List Open) (n : ℕ) → WorkLooks (a_tree (leaf last) s ∷ more) p round n → (m : ℕ) × LeafLooks last p round s m × (m ≤ n)
leaf_first last p round s more n l = (l.0, l.2, omega (arith, l.4))

-- the sets of a branch are no more than all that is left looks through
branch_first : (county : ℕ) (limit : Option ℕ) (takes : Takes) (raised : Tree) (p : Problem) (round : Round) (s : State) (more : List Open) (n : ℕ) → NamesLimit round.format limit → CanBranch round s county (limit_of round limit)
    → WorkLooks (a_tree (branch county limit takes raised) s ∷ more) p round n → (m : ℕ) × IsSetCount round.order (IsSetAt p round.order s county (limit_of round limit)) m × (m ≤ n)
branch_first county limit takes raised p round s more n names can l =
    let fine = NamesLimit round.format limit × CanBranch round s county (limit_of round limit) in
    let looked = IsSetCount round.order (IsSetAt p round.order s county (limit_of round limit)) in
    let inner : ℕ → Type 0 = λ z. (gs : List (List ℕ)) × AreGroupsAt p round s county (limit_of round limit) gs
    × Both (TakesLook takes p round s gs) (Where ((groups_of takes ≡ gs) × EachProves takes p round s) (TreeLooks raised p round (raise county (limit_of round limit) s))) z in
    let i = where_fine fine (Both looked inner) l.0 (names, can) l.2 in
    (i.0, i.2, omega (arith, l.4, i.4))

-- a leaf was judged whose first line was read last
pub leaf_reaches : (p : Problem) (round : Round) (s : State) (last : Leaf) (old mid new : FeedValue) (rest : List Item) (more : List Open) (x : Item) (r : Result (Unit {0}) Halt) → TookLine old (Ok x) mid → mid.limit ≡ old.limit
    → IsLeafJudged p round s last rest mid r new → IsJudged p round (a_tree (leaf last) s ∷ more) more rest old r new
leaf_reaches p round s last old mid new rest more x (Ok done) took limit h = (
  h.0,
  record {
    ends = λ end e. lines_carry.leaf_fine last p round s more (old.line + 1) (new.line + 1) end (subst (λ n. LeafEnds last p round s n (fine (new.line + 1))) took.1 h.1) e;
    looks = λ n l.
        let y = lines_cost.leaf_looks last p round s more n (leaf_valid last p round s mid.line (new.line + 1) h.1).0 l in
        (y.1, y.3, omega (arith, y.4, h.2 y.0 y.2, took.1, took.2));
  },
)
leaf_reaches p round s last old mid new rest more x (Err (stop.Fault f at)) took limit h =
    (h.0, h.1, lines_carry.leaf_fault last p round s more (old.line + 1) at h.0 (subst (λ n. LeafEnds last p round s n (faulty h.0 at)) took.1 h.2))
leaf_reaches p round s last old mid new rest more x (Err (stop.Text f)) took limit h = h
leaf_reaches p round s last old mid new rest more x (Err stop.Unspelled) took limit h = h
leaf_reaches p round s last old mid new rest more x (Err stop.Budget) took limit h = λ n l.
    let y = leaf_first last p round s more n l in
    let size : length old.reading.items ≡ suc (length mid.reading.items) = ap (λ c. length c.items) took.0 in
    omega (arith, h y.0 y.1, y.2, took.2, limit, size)
leaf_reaches p round s last old mid new rest more x (Err stop.Refused) took limit h = tt

-- a branch that can stand, whose groups are listed
pub branch_reaches : (p : Problem) (round : Round) (s : State) (county : ℕ) (limit : Option ℕ) (takes : Takes) (raised : Tree) (groups : List (List ℕ)) (more : List Open) (old mid : FeedValue) (used : ℕ) (x : Item) → TookLine old (Ok x) mid
    → NamesLimit round.format limit → CanBranch round s county (limit_of round limit) → AreGroupsAt p round s county (limit_of round limit) groups
    → ((m : ℕ) → IsSetCount round.order (IsSetAt p round.order s county (limit_of round limit)) m → used ≤ mid.used + 2 * m)
    → Reaches p round old (record mid { used = used }) (a_tree (branch county limit takes raised) s ∷ more) (some_takes takes s groups ∷ a_tree raised (raise county (limit_of round limit) s) ∷ more)
branch_reaches p round s county limit takes raised groups more old mid used x took names can are looks = record {
  ends = λ end e. lines_carry.branch_fine county limit takes raised p round s groups more (old.line + 1) end names can are (subst (λ n. WorkEnds (some_takes takes s groups ∷ a_tree raised (raise county (limit_of round limit) s) ∷ more) p round (n + 1) end) took.1 e);
  looks = λ n l.
      let y = lines_cost.branch_looks county limit takes raised p round s groups more n names can are l in
      (y.1, y.3, omega (arith, y.4, looks y.0 y.2, took.1, took.2));
}

-- the judging of a branch's line stopped
pub branch_halts : (p : Problem) (round : Round) (s : State) (county : ℕ) (limit : Option ℕ) (takes : Takes) (raised : Tree) (more : List Open) (old mid : FeedValue) (rest : List Item) (x : Item) (st : LineStop) (found : Halt) → TookLine old (Ok x) mid → mid.limit ≡ old.limit
    → NamesLimit round.format limit → old.reading.items ≡ items_of_tree (branch county limit takes raised) ++ rest
    → StopsAt st (IsBranchFault round s county (limit_of round limit)) (NamesLimit round.format limit → ⊥)
    → (st ≡ line_stop.StepLimit → CanBranch round s county (limit_of round limit) × ((m : ℕ) → IsSetCount round.order (IsSetAt p round.order s county (limit_of round limit)) m → mid.limit ≤ mid.used + 2 * m))
    → IsStopAt mid.line st found → Halts p round old (a_tree (branch county limit takes raised) s ∷ more) rest found
branch_halts p round s county limit takes raised more old mid rest x (line_stop.Fault f) found took same names items stops looks at =
    subst (Halts p round old (a_tree (branch county limit takes raised) s ∷ more) rest) (sym at)
    (stops.0, stops.1, subst (λ n. WorkEnds (a_tree (branch county limit takes raised) s ∷ more) p round (old.line + 1) (faulty stops.0 n)) (sym took.1) (lines_carry.branch_fault county limit takes raised p round s more (old.line + 1) stops.0 stops.2))
branch_halts p round s county limit takes raised more old mid rest x line_stop.Unspelled found took same names items stops looks at = absurd (stops names)
branch_halts p round s county limit takes raised more old mid rest x line_stop.StepLimit found took same names items stops looks at =
    subst (Halts p round old (a_tree (branch county limit takes raised) s ∷ more) rest) (sym at)
    (λ n l.
    let k = looks refl in
    let y = branch_first county limit takes raised p round s more n names k.0 l in
    let size : length old.reading.items ≡ length (items_of_tree (branch county limit takes raised)) + length rest = ap length items ∙ length-append (items_of_tree (branch county limit takes raised)) rest in
    omega (arith, k.1 y.0 y.1, y.2, took.2, same, size))
branch_halts p round s county limit takes raised more old mid rest x line_stop.Memory found took same names items stops looks at =
    subst (Halts p round old (a_tree (branch county limit takes raised) s ∷ more) rest) (sym at) tt

-- the next group is taken
pub take_reaches : (p : Problem) (round : Round) (s : State) (codes : List ℕ) (tree : Tree) (others : Takes) (groups : List (List ℕ)) (more : List Open) (old mid : FeedValue) (x : Item) → TookLine old (Ok x) mid → IsNextTake groups codes
    → Reaches p round old mid (some_takes (take codes tree others) s groups ∷ more) (a_tree tree (close codes s) ∷ some_takes others s (behind groups) ∷ more)
take_reaches p round s codes tree others groups more old mid x took next = record {
  ends = λ end e. lines_carry.take_fine codes tree others p round s groups more (old.line + 1) end next (subst (λ n. WorkEnds (a_tree tree (close codes s) ∷ some_takes others s (behind groups) ∷ more) p round (n + 1) end) took.1 e);
  looks = λ n l. (n, lines_cost.take_looks codes tree others p round s groups more n next l, omega (arith, took.1, took.2));
}

-- the mark, where no group is left
pub mark_reaches : (p : Problem) (round : Round) (s : State) (more : List Open) (old mid : FeedValue) (x : Item) → TookLine old (Ok x) mid → Reaches p round old mid (some_takes no_take s [] ∷ more) more
mark_reaches p round s more old mid x took = record {
  ends = λ end e. lines_carry.mark_fine p round s more (old.line + 1) end (subst (λ n. WorkEnds more p round (n + 1) end) took.1 e);
  looks = λ n l. (n, lines_cost.mark_looks p round s more n l, omega (arith, took.1, took.2));
}
