-- What was judged of the lines of a tree is its verdict.
use Rattle.std.proofs.Common.{◌≡◌, ℕ, ◌+◌, ◌*◌, ◌≤◌, List, [], ◌∷◌, ◌++◌, length, None, Result, Ok, Err, IfOk, inr, refl, sym, ◌∙◌, ap, subst, arith, ⊎_elim}
use Rattle.std.proofs.lemmas.List.{append-nil}
use Rattle.std.specs.declared.alloc.AllocError.{AllocError}
use Rattle.grouping_laws.specs.Problem.{Problem}
use Rattle.certificate_data.specs.Round.{Round}
use Rattle.certificate_laws.specs.State.{State}
use Rattle.certificate_data.specs.Tree.{stuck, seats, bound, Tree, leaf, branch}
use Rattle.certificate_data.specs.declared.format.Format.{Format}
use Rattle.certificate_lines.specs.ItemReadings.{tree_reading}
use Rattle.certificate_lines.specs.Fitting.{AllFit}
use Rattle.certificate_lines.specs.declared.item.Item.{Item}
use Rattle.certificate_lines.specs.declared.item.Wanted.TheVariants as want
use Rattle.certificate_text.specs.Trees.{items_of_tree}
use Rattle.certificate_text.specs.Spelling.{IsTreeSpelling}
use Rattle.certificate_text.specs.Ranges.{AreTreeNumbers}
use Rattle.certificate_text.specs.TreeFault.{lines_of_tree}
use Rattle.certificate_text.proofs.Spelling.{spell}
use Rattle.checker_laws.specs.End.{fine, faulty}
use Rattle.checker_laws.specs.Lines.{tree_lines}
use Rattle.checker_laws.specs.Trees.{TreeEnds}
use Rattle.checker_laws.specs.Work.{a_tree}
use Rattle.checker_laws.proofs.Trees.{trees_end}
use Rattle.checker_laws.proofs.Work.{lines_carry}
use Rattle.checker_laws.proofs.Readable.{tree_formed}
use Rattle.checker_laws.proofs.Lengths.{tree_length}
use Rattle.certificate_checker.specs.ReadableTrees.{IsReadable}
use Rattle.certificate_checker.specs.Feeding.{FeedValue, IsFed}
use Rattle.certificate_checker.specs.Judging.{IsJudged}
use Rattle.certificate_checker.specs.TreeAnswers.{IsSpelledTree, IsTreeAnswer, IsTreeWithinBudget, IsBudgetedTreeAnswer, IsRightOfTrees, IsSaid}
use Rattle.certificate_checker.specs.declared.feed.Halt.{Halt}
use Rattle.certificate_checker.specs.declared.feed.Halt.TheVariants as stop
use Rattle.certificate_checker.specs.declared.verdict.TreeVerdict.{TreeVerdict}
use Rattle.certificate_checker.specs.declared.verdict.TreeVerdict.TheVariants.{Proof, Fault as Refused, Budget}
use Rattle.certificate_checker.proofs.ReadableTexts.{tree_readable}
use Rattle.certificate_checker.proofs.Whole.{looks_alone}

spelled_readable : (format : Format) (counties : ℕ) (text : List ℕ) (tree : Tree) → IsTreeSpelling format counties text tree → IsReadable format tree
spelled_readable format counties text tree h =
    tree_readable format tree (tree_formed format counties tree [] [] (subst (λ (l : List Item). AllFit (want.Tree format counties ∷ []) l) (sym (append-nil (items_of_tree tree))) h.fits)).0

some_line : (tree : Tree) → 1 ≤ tree_lines tree
some_line (leaf (stuck c)) = omega arith
some_line (leaf seats) = omega arith
some_line (leaf (bound lines)) = omega arith
some_line (branch c limit takes raised) = omega arith

module _ (p : Problem) (round : Round) (s : State) (tree : Tree) (old new : FeedValue) (line : old.line ≡ 0) (used : old.used ≡ 0) (numbers : AreTreeNumbers tree)
    (reading : old.reading ≡ tree_reading round.format (length round.order) (lines_of_tree tree)) (none : (tree_reading round.format (length round.order) (lines_of_tree tree)).fault ≡ None) where
  spelled : IsSpelledTree round tree
  spelled = (spell.spelled round.format (length round.order) tree numbers none).0

  items : old.reading.items ≡ items_of_tree tree
  items = ap (λ c. c.items) reading ∙ (spell.spelled round.format (length round.order) tree numbers none).1

  abbrev Judges : Result (Unit {0}) Halt → Type 0
  Judges judged = (t : Tree) (rest : List Item) → IsReadable round.format t → old.reading.items ≡ items_of_tree t ++ rest → IsJudged p round (a_tree t s ∷ []) [] rest old judged new

  judges : (judged : Result (Unit {0}) Halt) → Judges judged → IsJudged p round (a_tree tree s ∷ []) [] [] old judged new
  judges judged h = h tree [] (spelled_readable round.format (length round.order) (lines_of_tree tree) tree spelled) (items ∙ sym (append-nil (items_of_tree tree)))

  first : old.line + 1 ≡ 1
  first = omega (arith, line)

  tree_said : (judged : Result (Unit {0}) Halt) (said : Result TreeVerdict AllocError) → Judges judged → IsSaid judged said → IfOk said (IsTreeAnswer p round s tree old.limit)
  tree_said (Ok done) said h is =
      let j = judges (Ok done) h in
      subst (λ r. IfOk r (IsTreeAnswer p round s tree old.limit)) (sym is)
      (spelled, (trees_end.proves tree p round s (old.line + 1) (new.line + 1) (lines_carry.alone tree p round s (old.line + 1) (fine (new.line + 1)) (j.1.ends (fine (new.line + 1)) refl))).0)
  tree_said (Err (stop.Fault fault at)) said h is =
      let j = judges (Err (stop.Fault fault at)) h in
      subst (λ r. IfOk r (IsTreeAnswer p round s tree old.limit)) (sym is)
      (inr (spelled, (j.0, at, j.1, subst (λ n. TreeEnds tree p round s n (faulty j.0 at)) first (lines_carry.alone tree p round s (old.line + 1) (faulty j.0 at) j.2))))
  tree_said (Err stop.Budget) said h is =
      let j = judges (Err stop.Budget) h in
      subst (λ r. IfOk r (IsTreeAnswer p round s tree old.limit)) (sym is)
      (λ cost costs.
      let few = looks_alone p round tree s costs.0 costs.1 (old.limit + 0) (old.used + length old.reading.items + 2 * costs.0) (λ m w same. omega (arith, j m w, same)) in
      omega (arith, few, used, costs.2, ap length items, tree_length tree, some_line tree))
  tree_said (Err stop.Refused) (Ok said) h is = absurd is
  tree_said (Err stop.Refused) (Err e) h is = tt
  tree_said (Err stop.Unspelled) (Ok said) h is = absurd is
  tree_said (Err stop.Unspelled) (Err e) h is = tt
  tree_said (Err (stop.Text fault)) (Ok said) h is = absurd is
  tree_said (Err (stop.Text fault)) (Err e) h is = tt

  -- each line of a proof tree was a step at least
  tree_within : (judged : Result (Unit {0}) Halt) (said : Result TreeVerdict AllocError) → Judges judged → IsFed old judged new → new.used ≤ new.limit → IsSaid judged said → IfOk said (IsTreeWithinBudget tree old.limit)
  tree_within (Ok done) said h fed few is =
      let j = judges (Ok done) h in
      subst (λ r. IfOk r (IsTreeWithinBudget tree old.limit)) (sym is)
      (omega (arith, fed.lines, fed.counted, fed.limit, few, line, used, ap length items, ap length j.0, tree_length tree))
  tree_within (Err (stop.Fault fault at)) said h fed few is = subst (λ r. IfOk r (IsTreeWithinBudget tree old.limit)) (sym is) tt
  tree_within (Err stop.Budget) said h fed few is = subst (λ r. IfOk r (IsTreeWithinBudget tree old.limit)) (sym is) tt
  tree_within (Err stop.Refused) (Ok said) h fed few is = absurd is
  tree_within (Err stop.Refused) (Err e) h fed few is = tt
  tree_within (Err stop.Unspelled) (Ok said) h fed few is = absurd is
  tree_within (Err stop.Unspelled) (Err e) h fed few is = tt
  tree_within (Err (stop.Text fault)) (Ok said) h fed few is = absurd is
  tree_within (Err (stop.Text fault)) (Err e) h fed few is = tt

  pub tree_answered : (judged : Result (Unit {0}) Halt) (said : Result TreeVerdict AllocError) → Judges judged → IsFed old judged new → new.used ≤ new.limit → IsSaid judged said → IfOk said (IsBudgetedTreeAnswer p round s tree old.limit)
  tree_answered judged said h fed few is = both said (tree_said judged said h is) (tree_within judged said h fed few is)
    where
      both : (r : Result TreeVerdict AllocError) → IfOk r (IsTreeAnswer p round s tree old.limit) → IfOk r (IsTreeWithinBudget tree old.limit) → IfOk r (IsBudgetedTreeAnswer p round s tree old.limit)
      both (Ok v) answer within = (answer, within)
      both (Err e) answer within = tt

-- the two parts of an answer
module _ {E : Type 0} (p : Problem) (round : Round) (s : State) (tree : Tree) (budget : ℕ) where
  pub answer_of_tree : (r : Result TreeVerdict E) → IfOk r (IsBudgetedTreeAnswer p round s tree budget) → IfOk r (IsTreeAnswer p round s tree budget)
  answer_of_tree (Ok v) h = h.0
  answer_of_tree (Err e) h = tt

  pub within_of_tree : (r : Result TreeVerdict E) → IfOk r (IsBudgetedTreeAnswer p round s tree budget) → IfOk r (IsTreeWithinBudget tree budget)
  within_of_tree (Ok v) h = h.1
  within_of_tree (Err e) h = tt

pub right_of_trees : {E : Type 0} (p : Problem) (round : Round) (s : State) (tree : Tree) (budget : ℕ) (r : Result TreeVerdict E) → IfOk r (IsTreeAnswer p round s tree budget) → IfOk r (IsRightOfTrees p round s tree)
right_of_trees p round s tree budget (Ok Proof) h = h.1
right_of_trees p round s tree budget (Ok (Refused fault)) h =
    λ text spells proof.
    ⊎_elim
    (λ w. spell.unspelled round.format (length round.order) tree w.0 w.2 text spells)
    (λ f. trees_end.refuses tree p round s 1 f.1.1 f.1.0 f.1.3 proof)
    h
right_of_trees p round s tree budget (Ok Budget) h = tt
right_of_trees p round s tree budget (Err e) h = tt
