-- Each number names one state.
use Rattle.std.proofs.Common.{ℕ, ◌≤◌, Bool, true, false, arith}
use Rattle.grouping_laws.specs.Sets.{indicator, count}
use Rattle.grouping_laws.proofs.Elements.{has_from_contains, contains_from_has}
use Rattle.board_laws.specs.Skeleton.{Skeleton, pieces}
use Rattle.board_laws.specs.Standing.{AreNumbered, is_numbered}
use Rattle.board_laws.specs.Laws.{PiecesStand}
use Rattle.board_laws.proofs.Numbers.{has_often}
use Rattle.board_laws.proofs.Standing.{stands_often, stands_there, stands_once, stands_state}

at_most_one : (b : Bool) → indicator b ≤ 1
at_most_one true = omega arith
at_most_one false = omega arith

pub numbered_once : (skeleton : Skeleton) (last : ℕ) → AreNumbered skeleton last → (n : ℕ) → count n (pieces skeleton) ≤ 1
numbered_once skeleton last are n = omega (arith, are n, at_most_one (is_numbered last n))

pub pieces_stand : PiecesStand
pieces_stand = record {
  there = λ skeleton round s n h. stands_there skeleton round s n (has_from_contains (pieces skeleton) n h);
  only = λ skeleton round s n t h. contains_from_has (pieces skeleton) n (has_often n (pieces skeleton) (stands_often skeleton round s n t h));
  one = λ skeleton last round s n t u are h k. stands_once skeleton round s n t u (numbered_once skeleton last are n) h k;
  state = λ skeleton p round s n t state is h. stands_state skeleton p round s n t state is h;
}
