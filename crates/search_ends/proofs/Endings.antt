-- Bound leaves of empty lines, and such that end with one more line.
use Rattle.std.proofs.Common.{◌≡◌, ℕ, ◌+◌, ◌-◌, ◌/◌, ◌≤◌, ◌<◌, List, [], ◌∷◌, ◌++◌, length, refl, sym, ap, ◌∙◌, subst, arith, ◌⊎◌, inl, inr}
use Rattle.std.specs.List.{AllByRecursion}
use Rattle.std.proofs.lemmas.List.{append-nil, length-append}
use Rattle.county_codes.specs.Limits.{most_counties}
use Rattle.grouping_laws.specs.Problem.{Problem}
use Rattle.grouping_laws.specs.Grouping.{counts, sets_of}
use Rattle.certificate_data.specs.Round.{Round}
use Rattle.certificate_laws.specs.State.{State}
use Rattle.certificate_data.specs.declared.format.Format.{Format}
use Rattle.certificate_laws.specs.Fitting.{Fits}
use Rattle.certificate_data.specs.Tree.{Allowance, Leaf, bound}
use Rattle.certificate_laws.specs.BoundLines.{room_at, allowance, IsFair, Bounds}
use Rattle.certificate_laws.specs.Leaves.{IsValidLeaf}
use Rattle.certificate_data.specs.declared.allowance.Allowance.{Allowance as AllowanceHeld}
use Rattle.certificate_data.specs.declared.allowance.Allowance.TheVariants.{Room}
use Rattle.certificate_lines.specs.declared.item.Item.TheVariants.{Allows}
use Rattle.certificate_data.specs.declared.tree.Leaf.{Leaf as LeafHeld}
use Rattle.certificate_data.specs.TreeValue.{allowance_of, leaf_of}
use Rattle.certificate_text.specs.Trees.{leaf_items}
use Rattle.certificate_data.proofs.TreeLists.{allowance_again}
use Rattle.certificate_text.specs.TreeItems.{FitsInTree}
use Rattle.search_groups.specs.Standing.{IsLevel, NoneUpTo}
use Rattle.search_ends.specs.GivenLeaf.{IsGivenLeaf}
use Rattle.search_ends.specs.EmptyLines.{AreEmptyFrom, AreEmptyThrough, EndsWith}
use Rattle.search_ends.specs.MissingGroups.{IsMissing, MayEndAt, TargetEndsAt, AllowsFewer}
use Rattle.search_ends.proofs.EmptyBounds.{empty_bounds, empty_loss}
use Rattle.search_ends.proofs.LeafLines.{empty_lines_spelled, one_more_spelled, bound_spelled}

module _ (p : Problem) (round : Round) (s : State) (few : round.limit ≤ most_counties) where
  -- a leaf whose value is that of a bound leaf of lines that bound and are spelled
  given_from : (leaf : LeafHeld) (lines : List Allowance) → leaf_of leaf ≡ bound lines → IsValidLeaf p round s (bound lines) → AllByRecursion (FitsInTree round.format) (leaf_items (bound lines)) → IsGivenLeaf p round s leaf
  given_from leaf lines is valid spelled = record {
    valid = subst (IsValidLeaf p round s) (sym is) valid;
    lines = subst (λ (l : Leaf). AllByRecursion (FitsInTree round.format) (leaf_items l)) (sym is) spelled;
  }

  empty_ends : (wanted : ℕ → ℕ) (last : ℕ) (lines : List Allowance) → MayEndAt wanted s round.limit last → ((g : List ℕ) → Fits round.format p s g → length g ≤ last → ⊥) → AreEmptyThrough p s last lines → Bounds round.format p round.limit s wanted 1 0 lines
  empty_ends wanted last lines ends none are = go ends.last
    where
      go : ((1 ≤ last) × (counts s.closed last < wanted last)) ⊎ ((last ≡ round.limit) × IsLevel wanted s last) → Bounds round.format p round.limit s wanted 1 0 lines
      go (inl l) =
          empty_loss round.format p round.limit s wanted 1 lines are.empty last (omega (arith, are.number)) l.0 (λ g fits k. none g fits (omega (arith, k))) (λ j a b. ends.level j a (omega (arith, b))) ends.small l.1
      go (inr l) =
          subst (Bounds round.format p round.limit s wanted 1 0) (append-nil lines)
          (empty_bounds round.format p round.limit s wanted 1 lines [] are.empty (last + 1) (omega (arith, are.number)) (λ g fits k. none g fits (omega (arith, k))) (λ j a b. l.1 j a (omega (arith, b))) (omega (arith, l.0)))

  -- empty lines through the size at which a bound leaf may end
  pub given_empty : (size last : ℕ) (leaf : LeafHeld) (lines : List Allowance) → NoneUpTo p round s size → last ≤ size → TargetEndsAt round s last → leaf_of leaf ≡ bound lines → AreEmptyThrough p s last lines → IsGivenLeaf p round s leaf
  given_empty size last leaf lines none l ends is are =
      given_from leaf lines is (ends.0, ends.1, empty_ends (counts (sets_of ends.0)) last lines ends.2 (λ g fits k. none g fits (omega (arith, k, l))) are)
      (bound_spelled round.format lines (omega (arith, are.number, ends.2.small, few)) (empty_lines_spelled round.format p s 1 lines are.empty))

  line_ends : (wanted : ℕ → ℕ) (size k : ℕ) (lines : List Allowance) (last : Allowance) → 1 ≤ size → size ≤ round.limit → ((g : List ℕ) → Fits round.format p s g → length g < size → ⊥) → IsLevel wanted s (size - 1) → counts s.closed size + k ≡ wanted size
      → IsFair round.format p s size last → allowance p s size 0 last < k → AreEmptyFrom p s 1 lines → length lines + 1 ≡ size → Bounds round.format p round.limit s wanted 1 0 (lines ++ last ∷ [])
  line_ends wanted size k lines last some small none level missing fair fewer are number =
      empty_bounds round.format p round.limit s wanted 1 lines (last ∷ []) are size (omega (arith, number)) none (λ j a b. level j a (omega (arith, b))) (fair, inr (small, omega (arith, missing, fewer), refl))

  -- such lines below a size, and a line that allows fewer groups than are missing
  pub given_end : (size k : ℕ) (line : AllowanceHeld) (leaf : LeafHeld) → 1 ≤ size → size ≤ round.limit → ((g : List ℕ) → Fits round.format p s g → length g < size → ⊥) → IsMissing round s size k → AllowsFewer round.format p s size k line
      → EndsWith p s size (allowance_of line) (leaf_of leaf) → IsGivenLeaf p round s leaf
  given_end size k line leaf some small none missing fewer ends =
      let t = missing.1.0 in
      given_from leaf (ends.lines ++ allowance_of line ∷ []) ends.is
      (t, missing.1.1, line_ends (counts (sets_of t)) size k ends.lines (allowance_of line) some small none missing.1.2 missing.1.3 fewer.fair fewer.fewer ends.empty ends.number)
      (bound_spelled round.format (ends.lines ++ allowance_of line ∷ []) (omega (arith, length-append ends.lines (allowance_of line ∷ []), ends.number, small, few))
      (one_more_spelled round.format ends.lines (allowance_of line) (empty_lines_spelled round.format p s 1 ends.lines ends.empty) (subst (λ (z : AllowanceHeld). FitsInTree round.format (Allows z)) (sym (allowance_again line)) fewer.spelled)))

-- where there is too little room, `room` allows fewer
pub room_fewer : (format : Format) (p : Problem) (s : State) (i k left size : ℕ) → left ≡ room_at p s i 0 → size ≡ i → left / size < k → AllowsFewer format p s i k Room
room_fewer format p s i k left size e f less = record {
  fair = tt;
  fewer = subst (λ n. n < k) (ap (λ z. z / size) e ∙ ap (λ z. room_at p s i 0 / z) f) less;
  spelled = tt;
}
