-- How much there is to join from a place of the list on: it falls from a piece to the pieces behind it.
use Rattle.std.proofs.Common.{◌≡◌, ℕ, zero, suc, ◌+◌, ◌-◌, ◌<◌, ◌≤◌, List, [], ◌∷◌, length, get_or, drop, ap, arith, subst, sym}
use Rattle.std.proofs.lemmas.List.{drop_more}
use Rattle.partial_trees.specs.PartialValue.{partial_of}
use Rattle.partial_trees.proofs.PartialLists.{deep}
use Rattle.share_board.specs.declared.piece.Fate.{Fate}
use Rattle.share_board.specs.declared.piece.Fate.TheVariants.{Waits, Proved, Split}
use Rattle.share_board.specs.declared.piece.Division.{Division}

-- the branches and takes of a piece's partial tree, and the piece
abbrev pub weight : Fate → ℕ
weight Waits = 1
weight (Proved tree) = 1
weight (Split d) = deep (partial_of d.tree) + 1

abbrev pub weights : List Fate → ℕ
weights [] = 0
weights (fate ∷ fates) = weight fate + weights fates

abbrev pub weight_from : List Fate → ℕ → ℕ
weight_from fates at = weights (drop at fates)

less_all : (fates : List Fate) (k : ℕ) → weight_from fates k ≤ weights fates
less_all fates zero = omega arith
less_all [] (suc k) = omega arith
less_all (fate ∷ fates) (suc k) = omega (arith, less_all fates k)

none_left : (k : ℕ) → weight_from [] k ≤ 0
none_left zero = omega arith
none_left (suc k) = omega arith

less_more : (fates : List Fate) (at k : ℕ) → weight_from fates (at + k) ≤ weight_from fates at
less_more fates zero k = let place : k ≡ 0 + k = omega arith in subst (λ z. weight_from fates z ≤ weights fates) place (less_all fates k)
less_more [] (suc at) k = omega (arith, none_left (suc at + k))
less_more (fate ∷ fates) (suc at) k = let place : suc (at + k) ≡ suc at + k = omega arith in subst (λ z. weight_from (fate ∷ fates) z ≤ weight_from fates at) place (less_more fates at k)

pub less_behind : (fates : List Fate) (at next : ℕ) → at ≤ next → weight_from fates next ≤ weight_from fates at
less_behind fates at next le = subst (λ z. weight_from fates z ≤ weight_from fates at) (there at next le) (less_more fates at (next - at))
  where
    there : (at next : ℕ) → at ≤ next → at + (next - at) ≡ next
    there at next le = omega (arith, le)

-- what is behind a piece weighs less than what begins with it
pub falls : (fates : List Fate) (at : ℕ) (x : Fate) (next : ℕ) → x ≡ get_or fates at x → at < length fates → at < next → weight x + weight_from fates next ≤ weight_from fates at
falls fates at x next is lt up = omega (arith, read fates at x is lt, less_behind fates (at + 1) next (omega (arith, up)))
  where
    read : (fates : List Fate) (at : ℕ) (x : Fate) → x ≡ get_or fates at x → at < length fates → weight_from fates at ≡ weight x + weight_from fates (at + 1)
    read fates at x is lt = subst (λ z. weight_from fates at ≡ weight z + weight_from fates (at + 1)) (sym is) (ap weights (drop_more fates at x lt))

pub some_weight : (x : Fate) → 1 ≤ weight x
some_weight Waits = omega arith
some_weight (Proved tree) = omega arith
some_weight (Split d) = omega arith
