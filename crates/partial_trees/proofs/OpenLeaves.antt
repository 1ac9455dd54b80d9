-- How many leaves of a list of branches, or of takes, are open.
use Rattle.std.proofs.Common.{◌≡◌, ℕ, zero, suc, ◌≤◌, Bool, true, false, IsTrue, List, ◌∷◌, [], length, Option, Some, None, refl, sym, ap, ◌∙◌, subst, arith}
use Rattle.std.proofs.lemmas.Bool.{false≢true}
use Rattle.std.specs.Option.{is_some}
use mathlib.Core.Bool.{not}
use Rattle.certificate_data.specs.declared.tree.Tree.{Tree as DeclaredTree}
use Rattle.board_laws.specs.PartialTrees.{PartialTree, open_leaves, IsPart}
use Rattle.partial_trees.specs.declared.tree.PartialBranch.{PartialBranch}
use Rattle.partial_trees.specs.PartialValue.{rest_of, list_onto}
use Rattle.partial_trees.proofs.PartialLists.{branch_made}

-- those of what stands behind branches are among them
pub open_end : (branches : List PartialBranch) (rest : PartialTree) → open_leaves rest ≤ open_leaves (list_onto branches rest)
open_end [] rest = omega arith
open_end (b ∷ branches) rest = omega (arith, open_end branches rest, ap open_leaves (branch_made b (list_onto branches rest)))

-- an open leaf stands where there is no tree
pub rest_open : (rest : Option DeclaredTree) (b : Bool) → is_some rest ≡ not b → b ≡ true → open_leaves (rest_of rest) ≡ 1
rest_open None b e k = refl
rest_open (Some tree) b e k = let clash : true ≡ false = e ∙ ap not k in absurd (cc)

pub rest_whole : (rest : Option DeclaredTree) (b : Bool) → is_some rest ≡ not b → b ≡ false → open_leaves (rest_of rest) ≡ 0
rest_whole None b e k = let clash : false ≡ true = e ∙ ap not k in absurd (cc)
rest_whole (Some tree) b e k = refl

-- what a test that is false says, and one that is true
pub none_there : (n : ℕ) (b : Bool) → (1 ≤ n → IsTrue b) → b ≡ false → n ≡ 0
none_there zero b f e = refl
none_there (suc n) b f e = absurd (false≢true (sym e ∙ f (omega arith)))

pub some_there : (n : ℕ) (b : Bool) → (IsTrue b → 1 ≤ n) → b ≡ true → 1 ≤ n
some_there n b f e = f e

-- a partial tree with a branch is a part if it has an open leaf, and one without a branch is none
pub part_with : (branches : List PartialBranch) (rest t : PartialTree) → (length branches ≡ 0 → ⊥) → t ≡ list_onto branches rest → (1 ≤ open_leaves t → IsPart t) × (IsPart t → 1 ≤ open_leaves t)
part_with [] rest t e is = absurd (e refl)
part_with (b ∷ branches) rest t e is =
    subst (λ z. (1 ≤ open_leaves z → IsPart z) × (IsPart z → 1 ≤ open_leaves z)) (sym (is ∙ branch_made b (list_onto branches rest))) (λ h. h, λ h. h)

pub no_part_with : (branches : List PartialBranch) (rest : Option DeclaredTree) (t : PartialTree) → length branches ≡ 0 → t ≡ list_onto branches (rest_of rest) → IsPart t → ⊥
no_part_with [] None t e is h = subst IsPart is h
no_part_with [] (Some tree) t e is h = subst IsPart is h
no_part_with (b ∷ branches) rest t e is h = absurd (omega (arith, e))
