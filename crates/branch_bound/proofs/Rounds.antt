-- Certificates of the rounds of a search, and what they show.
use Rattle.std.proofs.Common.{◌≡◌, ℕ, ◌≤◌, List, [], length, Option, Some, None, Result, Ok, Err, IfOk, Vec, Global, refl, sym, ap, ◌∙◌, subst, arith, All}
use Rattle.std.specs.List.Sorted.{IsStrictlyIncreasing}
use Rattle.county_codes.specs.Limits.{most_counties}
use Rattle.county_codes.specs.Tolerances.{FitsRange}
use Rattle.county_codes.specs.declared.group.Group.{Group}
use Rattle.county_codes.specs.declared.group.Grouping.{Grouping as GroupingHeld}
use Rattle.grouping_laws.specs.Problem.{Problem, IsProblem}
use Rattle.grouping_laws.specs.Grouping.{Grouping, IsImpossible}
use Rattle.grouping_laws.specs.GroupsFrom.{IsOrder}
use Rattle.grouping_laws.specs.Tolerance.{HasTolerance}
use Rattle.grouping_laws.proofs.ToleranceLaws.{names_its_own}
use Rattle.grouping_laws.proofs.Digits.{often_member}
use Rattle.certificate_data.specs.Round.{Round}
use Rattle.certificate_data.specs.declared.format.Format.{Format}
use Rattle.certificate_data.specs.declared.format.Format.TheVariants.{Plain, Wide}
use Rattle.certificate_data.specs.declared.round.Round.{Round as RoundHeld}
use Rattle.certificate_data.specs.RoundValue.{round_of}
use Rattle.certificate_laws.specs.State.{State, empty_state}
use Rattle.certificate_laws.specs.Certificate.{IsCertificate, TargetFits, Conclusion}
use Rattle.certificate_data.specs.Tree.{leaf, Tree as TreeValue}
use Rattle.certificate_laws.specs.Proving.{Proves}
use Rattle.certificate_laws.proofs.Agreement.{certificate_shows}
use Rattle.list_laws.specs.Completeness.{IsComplete}
use Rattle.certificate_lines.specs.Fitting.{AreCodes}
use Rattle.certificate_data.specs.declared.tree.Leaf.{Leaf}
use Rattle.certificate_data.specs.declared.tree.Tree.{Tree, roll-Tree}
use Rattle.certificate_data.specs.declared.tree.Branch.{Branch}
use Rattle.certificate_data.specs.declared.certificate.Certificate.{Certificate as CertificateHeld}
use Rattle.certificate_data.specs.TreeValue.{leaf_of, tree_of, certificate_of}
use Rattle.certificate_data.proofs.TreeLists.{list_onto, made_tree}
use Rattle.certificate_text.specs.TreeItems.{HasLines, TargetHasLines}
use Rattle.certificate_text.proofs.Texts.{have_texts}
use Rattle.search_ends.specs.GivenLeaf.{IsGivenLeaf}
use Rattle.branch_bound.specs.Searching.{IsProof}
use Rattle.partial_trees.specs.declared.tree.PartialTree.{PartialTree}
use Rattle.branch_bound.specs.Resuming.{round_over}
use Rattle.branch_bound.specs.Solving.{IsTarget}
use Rattle.branch_bound.specs.Answers.{Certifies, IsFoundOpen, IsSolveAnswer, SolveIsRight, HasCompleteTree, SaysWhether}
use Rattle.branch_bound.proofs.Orders.{stands_in_order}
use Rattle.branch_bound.specs.declared.answer.Answer.{Answer}
use Rattle.branch_bound.specs.declared.answer.Answer.TheVariants.{Best, Impossible, Open}

-- a round with a tree that proves it where nothing is closed
certified : (p : Problem) (r : Round) (round : RoundHeld) (tree : Tree) → round_of round ≡ r → HasTolerance p r.tolerance → IsOrder p r.order → TargetFits p r.limit r.target → length r.order ≤ most_counties → r.limit ≤ most_counties → AreCodes round.order → FitsRange round.tolerance → TargetHasLines r.target
    → Proves (tree_of tree) p r (empty_state p) × HasLines r.format (tree_of tree) → Certifies p r.format r.target (record { round = round; tree = tree })
certified p r round tree e tolerance order fits few small codes range target proof =
    subst (λ (x : Round). HasTolerance p x.tolerance → IsOrder p x.order → TargetFits p x.limit x.target → length x.order ≤ most_counties → x.limit ≤ most_counties → TargetHasLines x.target → Proves (tree_of tree) p x (empty_state p) × HasLines x.format (tree_of tree) → Certifies p x.format x.target c) e whole tolerance order fits few small target proof
  where
    c : CertificateHeld
    c = record { round = round; tree = tree }

    whole : HasTolerance p round.tolerance → IsOrder p round.order → TargetFits p round.limit (round_of round).target → length round.order ≤ most_counties → round.limit ≤ most_counties → TargetHasLines (round_of round).target → Proves (tree_of tree) p (round_of round) (empty_state p) × HasLines round.format (tree_of tree)
        → Certifies p round.format (round_of round).target c
    whole tolerance order fits few small target proof =
        let is : IsCertificate p (certificate_of c).round (certificate_of c).tree = record { tolerance = tolerance; order = order; target = fits; proof = proof.0 } in
        record { proves = is; target_is = refl; format_is = refl; spelled = have_texts.certificate p (certificate_of c) is range few codes small target proof.1 }

-- the certificate of a target that is best
best_certified : (p : Problem) (order : List ℕ) (limit : ℕ) (g : Grouping) (round : RoundHeld) (tree : Tree) → IsOrder p order → length order ≤ most_counties → IsTarget p order g → limit ≤ most_counties → All (λ (m : Group). length m.codes ≤ limit) g
    → round_of round ≡ round_over p order limit (Some g) Wide → AreCodes round.order → FitsRange round.tolerance → IsProof p (round_over p order limit (Some g) Wide) (empty_state p) tree
    → Certifies p Wide (Some g) (record { round = round; tree = tree })
best_certified p order limit g round tree whole few target small large e codes range proof =
    certified p (round_over p order limit (Some g) Wide) round tree e (names_its_own p) whole (target.lawful, large) few small codes range target.lines (proof.0, proof.1)

-- the answer that a target is best
pub best_answer : (p : Problem) (order : List ℕ) (limit : ℕ) (g : GroupingHeld) (round : RoundHeld) (tree : Tree) → IsOrder p order → length order ≤ most_counties → IsStrictlyIncreasing order → IsTarget p order g.groups.items → limit ≤ most_counties
    → All (λ (m : Group). length m.codes ≤ limit) g.groups.items → round_of round ≡ round_over p order limit (Some g.groups.items) Wide → AreCodes round.order → FitsRange round.tolerance
    → IsProof p (round_over p order limit (Some g.groups.items) Wide) (empty_state p) tree → (allowed : ℕ) → 1 ≤ allowed → IsSolveAnswer p allowed (Best g (record { round = round; tree = tree }))
best_answer p order limit g round tree whole few ascending target small large e codes range proof allowed some =
    (some, best_certified p order limit g.groups.items round tree whole few target small large e codes range proof, stands_in_order order ascending g.groups.items target.sorted)

-- and its tree is complete
pub best_complete : (p : Problem) (order : List ℕ) (limit : ℕ) (g : GroupingHeld) (round : RoundHeld) (tree : Tree) → IsTarget p order g.groups.items → All (λ (m : Group). length m.codes ≤ limit) g.groups.items
    → round_of round ≡ round_over p order limit (Some g.groups.items) Wide → IsProof p (round_over p order limit (Some g.groups.items) Wide) (empty_state p) tree
    → HasCompleteTree p (Best g (record { round = round; tree = tree }))
best_complete p order limit g round tree target large e proof = subst (λ (x : Round). IsComplete (tree_of tree) p x (empty_state p)) (sym e) (proof.2 (target.lawful, large))

-- a leaf alone
leaf_proof : (p : Problem) (r : Round) (s : State) (branches : Vec Branch Global) (last : Leaf) → branches.items ≡ [] → IsGivenLeaf p r s last
    → Proves (tree_of (roll-Tree (record { branches = branches; leaf = last }))) p r s × HasLines r.format (tree_of (roll-Tree (record { branches = branches; leaf = last })))
leaf_proof p r s branches last none given =
    let made : tree_of (roll-Tree (record { branches = branches; leaf = last })) ≡ leaf (leaf_of last) = made_tree branches last ∙ alone branches.items none in
    subst (λ (t : TreeValue). Proves t p r s × HasLines r.format t) (sym made) (given.valid, given.lines)
  where
    alone : (bs : List Branch) → bs ≡ [] → list_onto bs (leaf (leaf_of last)) ≡ leaf (leaf_of last)
    alone bs e = ap (λ (l : List Branch). list_onto l (leaf (leaf_of last))) e

-- the certificate that no grouping is lawful
pub impossible_certified : (p : Problem) (order : List ℕ) (round : RoundHeld) (branches : Vec Branch Global) (last : Leaf) → IsOrder p order → length order ≤ most_counties → round_of round ≡ round_over p order 0 None Plain → AreCodes round.order → FitsRange round.tolerance
    → branches.items ≡ [] → IsGivenLeaf p (round_of round) (empty_state p) last → Certifies p Plain None (record { round = round; tree = roll-Tree (record { branches = branches; leaf = last }) })
impossible_certified p order round branches last whole few e codes range none given =
    let r : Round = round_over p order 0 None Plain in
    certified p r round (roll-Tree (record { branches = branches; leaf = last })) e (names_its_own p) whole tt few (omega arith) codes range tt (leaf_proof p r (empty_state p) branches last none (subst (λ (x : Round). IsGivenLeaf p x (empty_state p) last) e given))

-- what a certificate shows of the target that it names
shown : (p : Problem) (format : Format) (target : Option Grouping) (c : CertificateHeld) → Certifies p format target c → Conclusion p target
shown p format target c is = subst (Conclusion p) is.target_is (certificate_shows p (certificate_of c).round (certificate_of c).tree is.proves)

pub answer_names_best : (p : Problem) (limit : ℕ) (a : Answer) → IsSolveAnswer p limit a → SolveIsRight p a
answer_names_best p limit (Best g c) is = shown p Wide (Some g.groups.items) c is.1
answer_names_best p limit (Impossible c) is = tt
answer_names_best p limit (Open found part steps) is = tt

found_possible : (p : Problem) (limit : ℕ) (found : Option GroupingHeld) (part : Option PartialTree) → IsFoundOpen p limit found part → 1 ≤ limit → IsImpossible p → ⊥
found_possible p limit None part is some none = absurd (omega (arith, is.0, some))
found_possible p limit (Some g) part is some none = none g.groups.items is.0

pub answer_says_whether : (p : Problem) (limit : ℕ) (a : Answer) → IsSolveAnswer p limit a → SaysWhether p limit a
answer_says_whether p limit (Best g c) is = λ none. none g.groups.items (shown p Wide (Some g.groups.items) c is.1).lawful
answer_says_whether p limit (Impossible c) is = shown p Plain None c is.1
answer_says_whether p limit (Open found part steps) is = found_possible p limit found part is.1

-- an answer of a problem, with the number of steps that were allowed, where memory was not refused
pub solved : {E : Type 0} (p q : Problem) (limit allowed : ℕ) (r : Result Answer E) → p ≡ q → limit ≡ allowed → IfOk r (IsSolveAnswer p limit) → IfOk r (IsSolveAnswer q allowed)
solved p q limit allowed r e k is = subst (λ n. IfOk r (IsSolveAnswer q n)) k (subst (λ (x : Problem). IfOk r (IsSolveAnswer x limit)) e is)

-- the codes of a problem's counties are an order of them
pub listed_order : (p : Problem) (order : List ℕ) → IsProblem p → order ≡ p.counties → IsOrder p order
listed_order p order is e = subst (IsOrder p) (sym e) (λ c. often_member p.counties c (is.once c))
