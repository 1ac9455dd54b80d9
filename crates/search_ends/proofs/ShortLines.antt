-- Bound leaves of empty lines, and such that end with one more line: they fall short of the target, or its counts are
-- closed.
use Rattle.std.proofs.Common.{◌≡◌, ℕ, ◌+◌, ◌≤◌, ◌<◌, true, List, [], ◌∷◌, ◌++◌, length, sym, ◌∙◌, subst, arith, Some, ◌⊎◌, inl, inr}
use Rattle.std.proofs.lemmas.Bool.{false≢true}
use Rattle.grouping_laws.specs.Problem.{Problem}
use Rattle.grouping_laws.specs.Grouping.{Grouping, counts, sets_of}
use Rattle.certificate_data.specs.Round.{Round}
use Rattle.certificate_laws.specs.State.{State}
use Rattle.certificate_data.specs.Tree.{Allowance, Leaf, bound}
use Rattle.certificate_laws.specs.BoundLines.{allowance}
use Rattle.list_laws.specs.Ends.{wanted, falls_short}
use Rattle.list_laws.specs.Completeness.{IsCompleteLeaf}
use Rattle.list_laws.proofs.Short.{short_here, short_behind}
use Rattle.certificate_data.specs.declared.allowance.Allowance.{Allowance as AllowanceHeld}
use Rattle.certificate_data.specs.TreeValue.{allowance_of}
use Rattle.search_groups.specs.Standing.{IsLevel}
use Rattle.search_ends.specs.EmptyLines.{IsEmptyLine, AreEmptyFrom, AreEmptyThrough, EndsWith}
use Rattle.search_ends.specs.MissingGroups.{IsMissing, TargetEndsAt, StandsLevel, AllowsFewer}
use Rattle.search_ends.proofs.EmptyBounds.{none_used, empty_allows}

module _ (p : Problem) (s : State) (f : ℕ → ℕ) where
  -- lines from a size on fall short, where no smaller group uses a county up
  abbrev FallShort : ℕ → List Allowance → Type 0
  FallShort i lines = falls_short p s f i 0 lines ≡ true

  behind_empty : (i : ℕ) (x : Allowance) (xs : List Allowance) → IsEmptyLine p s i x → FallShort (i + 1) xs → FallShort i (x ∷ xs)
  behind_empty i x xs is short = short_behind p s f i 0 x xs (subst (λ n. falls_short p s f (i + 1) n xs ≡ true) (none_used i (allowance p s i 0 x) (empty_allows p s i x is)) short)

  -- empty lines before such that fall short
  all_behind : (i : ℕ) (lines tail : List Allowance) → AreEmptyFrom p s i lines → (n : ℕ) → n ≡ i + length lines → FallShort n tail → FallShort i (lines ++ tail)
  all_behind i [] tail are n e short = subst (λ k. FallShort k tail) (omega (arith, e)) short
  all_behind i (x ∷ xs) tail are n e short = behind_empty i x (xs ++ tail) are.0 (all_behind (i + 1) xs tail are.1 n (omega (arith, e)) short)

  -- empty lines, where fewer are closed than wanted at the last one's size
  last_short : (i : ℕ) (lines : List Allowance) → AreEmptyFrom p s i lines → (last : ℕ) → last + 1 ≡ i + length lines → i ≤ last → counts s.closed last < f last → FallShort i lines
  last_short i [] are last e some less = absurd (omega (arith, e, some))
  last_short i (x ∷ []) are last e some less = short_here p s f i 0 x [] (fewer (empty_allows p s i x are.0) (subst (λ n. counts s.closed n < f n) same less))
    where
      same : last ≡ i
      same = omega (arith, e)

      fewer : allowance p s i 0 x ≡ 0 → counts s.closed i < f i → counts s.closed i + allowance p s i 0 x < f i
      fewer nothing l = omega (arith, nothing, l)
  last_short i (x ∷ y ∷ ys) are last e some less = behind_empty i x (y ∷ ys) are.0 (last_short (i + 1) (y ∷ ys) are.1 last (omega (arith, e)) (omega (arith, e)) less)

module _ (p : Problem) (round : Round) (s : State) where
  short_leaf : (lines : List Allowance) (t : Grouping) → round.target ≡ Some t → falls_short p s (counts (sets_of t)) 1 0 lines ≡ true → IsCompleteLeaf (bound lines) p round s
  short_leaf lines t target short = λ enough. absurd (false≢true (sym enough ∙ subst (λ z. falls_short p s (wanted z) 1 0 lines ≡ true) (sym target) short))

  -- empty lines through the size at which a bound leaf may end
  pub complete_empty : (last : ℕ) (lines : List Allowance) → TargetEndsAt round s last → AreEmptyThrough p s last lines → IsCompleteLeaf (bound lines) p round s ⊎ StandsLevel round s
  complete_empty last lines ends are = go ends.2.last
    where
      go : ((1 ≤ last) × (counts s.closed last < counts (sets_of ends.0) last)) ⊎ ((last ≡ round.limit) × IsLevel (counts (sets_of ends.0)) s last) → IsCompleteLeaf (bound lines) p round s ⊎ StandsLevel round s
      go (inl l) = inl (short_leaf lines ends.0 ends.1 (last_short p s (counts (sets_of ends.0)) 1 lines are.empty last (omega (arith, are.number)) l.0 l.1))
      go (inr l) = inr (ends.0, ends.1, subst (IsLevel (counts (sets_of ends.0)) s) l.0 l.1)

  -- such lines below a size, and a line that allows fewer groups than are missing
  pub complete_end : (size k : ℕ) (line : AllowanceHeld) (leaf : Leaf) → IsMissing round s size k → AllowsFewer round.format p s size k line → EndsWith p s size (allowance_of line) leaf → IsCompleteLeaf leaf p round s
  complete_end size k line leaf missing fewer ends =
      let t = missing.1.0 in
      subst (λ (l : Leaf). IsCompleteLeaf l p round s) (sym ends.is)
      (short_leaf (ends.lines ++ allowance_of line ∷ []) t missing.1.1
      (all_behind p s (counts (sets_of t)) 1 ends.lines (allowance_of line ∷ []) ends.empty size (omega (arith, ends.number))
      (short_here p s (counts (sets_of t)) size 0 (allowance_of line) [] (omega (arith, missing.1.3, fewer.fewer)))))
