-- The numbers of the pieces that wait.
use Rattle.std.proofs.Common.{◌≡◌, ℕ, zero, suc, ◌+◌, ◌<◌, Bool, true, false, cond, List, [], ◌∷◌, length, get_or, refl, sym, subst, arith, inl, Contains, Vec, Global, Result, Ok, Err, IfOk}
use Rattle.std.specs.declared.alloc.AllocError.{AllocError}
use Rattle.std.specs.List.Sorted.{IsStrictlyIncreasing}
use Rattle.grouping_laws.proofs.Elements.{Has, has_from_contains, contains_from_has}
use Rattle.partial_trees.specs.PartialValue.{partial_of}
use Rattle.board_laws.specs.Skeleton.{waiting}
use Rattle.board_laws.specs.Content.{Content}
use Rattle.share_board.specs.declared.piece.Fate.{Fate}
use Rattle.share_board.specs.declared.board.Board.{Board}
use Rattle.share_board.specs.HeldSkeleton.{is_waiting}
use Rattle.share_board.specs.BoardValue.{IsOf}
use Rattle.share_board.specs.OpenPieces.{AreOpen, numbers}
use Rattle.share_board.proofs.Filling.{waits_there}
use Rattle.share_board.proofs.HandedOut.{waits_at, numbers_wait, wait_numbers}

-- one number more, in front of greater ones
rising_on : (x : ℕ) (ys : List ℕ) → ((y : ℕ) → Has ys y → x < y) → IsStrictlyIncreasing ys → IsStrictlyIncreasing (x ∷ ys)
rising_on x [] f up = λ k lt. absurd (omega (arith, lt))
rising_on x (y ∷ ys) f up = go (f y (inl refl))
  where
    next : (k : ℕ) → suc (k + 1) ≡ suc k + 1
    next k = omega arith

    go : x < y → (k : ℕ) → k + 1 < length (x ∷ y ∷ ys) → get_or (x ∷ y ∷ ys) k 0 < get_or (x ∷ y ∷ ys) (k + 1) 0
    go less zero lt = less
    go less (suc k) lt = subst (λ z. get_or (y ∷ ys) k 0 < get_or (x ∷ y ∷ ys) z 0) (next k) (up k (omega (arith, lt)))

rising : (first : ℕ) (fates : List Fate) → IsStrictlyIncreasing (numbers first fates)
rising first [] = λ k lt. absurd (omega (arith, lt))
rising first (fate ∷ fates) = go (is_waiting fate) (rising (first + 1) fates)
  where
    go : (w : Bool) → IsStrictlyIncreasing (numbers (first + 1) fates) → IsStrictlyIncreasing (cond w (first ∷ numbers (first + 1) fates) (numbers (first + 1) fates))
    go true up = rising_on first (numbers (first + 1) fates) (λ y h. let r = numbers_wait (first + 1) y fates h in omega (arith, r.1)) up
    go false up = up

-- they are the numbers of the pieces that wait
pub are_open : {C : Type 0} (test : C → ℕ → Bool) (board : Board C) (b : Content) → IsOf test board b → AreOpen b.skeleton (numbers 1 board.fates.items)
are_open test board b is = record {
  ascending = rising 1 board.fates.items;
  each = λ n. (
    λ h. let r = numbers_wait 1 n board.fates.items (has_from_contains (numbers 1 board.fates.items) n h) in subst (Contains (waiting b.skeleton)) (omega (arith, r.1)) (waits_there test board b is r.0 r.2),
    λ h.
        let at = waits_at board.fates.items (partial_of board.above) 0 b.skeleton n is.shows (has_from_contains (waiting b.skeleton) n h) in
        contains_from_has (numbers 1 board.fates.items) n (subst (Has (numbers 1 board.fates.items)) (omega (arith, at.1)) (wait_numbers 1 at.0 board.fates.items at.2)),
  );
}

pub open_as : {C : Type 0} (test : C → ℕ → Bool) (board : Board C) (b : Content) → IsOf test board b → (r : Result (Vec ℕ Global) AllocError) → IfOk r (λ v. v.items ≡ numbers 1 board.fates.items) → IfOk r (λ v. AreOpen b.skeleton v.items)
open_as test board b is (Ok v) e = subst (AreOpen b.skeleton) (sym e) (are_open test board b is)
open_as test board b is (Err error) e = tt
