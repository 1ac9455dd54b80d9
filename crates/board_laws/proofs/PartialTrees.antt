-- The skeletons of partial trees, and their numbers.
use Rattle.std.proofs.Common.{◌≡◌, ℕ, ◌+◌, List, [], ◌∷◌, length, ◌==◌, refl, ap, ◌∙◌, subst, sym, arith, Some}
use Rattle.std.proofs.lemmas.Bool.Decides.{nat_tests}
use Rattle.grouping_laws.specs.Sets.{indicator, count}
use Rattle.grouping_laws.specs.Problem.{Problem}
use Rattle.certificate_data.specs.Round.{Round}
use Rattle.certificate_laws.specs.State.{State, close, raise}
use Rattle.certificate_laws.specs.Groups.{AreGroupsAt}
use Rattle.certificate_laws.specs.Proving.{limit_of}
use Rattle.board_laws.specs.Skeleton.{Skeleton, waits, proved, split, part, groups_in, pieces, pieces_in, IsSkeleton, EachIsSkeleton, parts_from, split_from}
use Rattle.board_laws.specs.Standing.{is_numbered}
use Rattle.board_laws.specs.PartialTrees.{PartialTree, open_leaf, whole, begun, PartialTakes, no_begun, take_begun, open_leaves, open_in, begun_groups, ProvesPart, EachProvesPart, IsPart, skeleton_from, begun_parts, as_piece, open_takes, open_branch}
use Rattle.board_laws.proofs.Numbers.{often_append}

begun_same : (first : ℕ) (takes : PartialTakes) → groups_in (begun_parts first takes) ≡ begun_groups takes
begun_same first no_begun = refl
begun_same first (take_begun codes tree others) = ap (λ z. codes ∷ z) (begun_same (first + open_leaves tree) others)

-- what proves but for its open leaves is a skeleton
mutual
  pub part_is : (first : ℕ) (tree : PartialTree) (p : Problem) (round : Round) (s : State) → ProvesPart tree p round s → IsSkeleton (skeleton_from first tree) p round s
  part_is first open_leaf p round s h = tt
  part_is first (whole tree) p round s h = h
  part_is first (begun county limit takes raised) p round s h = (
    h.0,
    h.1,
    subst (AreGroupsAt p round s county (limit_of round limit)) (sym (begun_same first takes)) h.2,
    takes_are first takes p round s h.3,
    part_is (first + open_in takes) raised p round (raise county (limit_of round limit) s) h.4,
  )

  takes_are : (first : ℕ) (takes : PartialTakes) (p : Problem) (round : Round) (s : State) → EachProvesPart takes p round s → EachIsSkeleton (begun_parts first takes) p round s
  takes_are first no_begun p round s h = tt
  takes_are first (take_begun codes tree others) p round s h = (part_is first tree p round (close codes s) h.0, takes_are (first + open_leaves tree) others p round s h.1)

pub piece_is : (n : ℕ) (skeleton : Skeleton) (p : Problem) (round : Round) (s : State) → IsSkeleton skeleton p round s → IsSkeleton (as_piece n skeleton) p round s
piece_is n (waits piece) p round s h = h
piece_is n (proved piece tree) p round s h = h
piece_is n (split piece county limit parts raised) p round s h = h

-- its pieces have the next numbers
next_number : (x last : ℕ) → indicator (is_numbered last x) + indicator ((last + 1) == x) ≡ indicator (is_numbered (last + 1) x)
next_number x last = grind (arith, nat_tests)

after : (last k : ℕ) → (last + 1) + k ≡ (last + k) + 1
after last k = omega arith

plus_sum : (last k m : ℕ) → (last + k) + m ≡ last + (k + m)
plus_sum last k m = omega arith

plus_none : (last : ℕ) → last ≡ last + 0
plus_none last = omega arith

mutual
  pub part_count : (x last : ℕ) (tree : PartialTree) → indicator (is_numbered last x) + count x (pieces (skeleton_from (last + 1) tree)) ≡ indicator (is_numbered (last + open_leaves tree) x)
  part_count x last open_leaf = omega (arith, next_number x last)
  part_count x last (whole tree) = omega (arith, ap (λ z. indicator (is_numbered z x)) (plus_none last))
  part_count x last (begun county limit takes raised) =
      omega (
        arith,
        often_append x (pieces_in (begun_parts (last + 1) takes)) (pieces (skeleton_from ((last + 1) + open_in takes) raised)),
        takes_count x last takes,
        ap (λ z. count x (pieces (skeleton_from z raised))) (after last (open_in takes)),
        part_count x (last + open_in takes) raised,
        ap (λ z. indicator (is_numbered z x)) (plus_sum last (open_in takes) (open_leaves raised)),
      )

  takes_count : (x last : ℕ) (takes : PartialTakes) → indicator (is_numbered last x) + count x (pieces_in (begun_parts (last + 1) takes)) ≡ indicator (is_numbered (last + open_in takes) x)
  takes_count x last no_begun = omega (arith, ap (λ z. indicator (is_numbered z x)) (plus_none last))
  takes_count x last (take_begun codes tree others) =
      omega (
        arith,
        often_append x (pieces (skeleton_from (last + 1) tree)) (pieces_in (begun_parts ((last + 1) + open_leaves tree) others)),
        part_count x last tree,
        ap (λ z. count x (pieces_in (begun_parts z others))) (after last (open_leaves tree)),
        takes_count x (last + open_leaves tree) others,
        ap (λ z. indicator (is_numbered z x)) (plus_sum last (open_leaves tree) (open_in others)),
      )

-- the root of a part is a branch, so that it has the piece's number
pub piece_count : (x n first : ℕ) (tree : PartialTree) → IsPart tree → count x (pieces (as_piece n (skeleton_from first tree))) ≡ indicator (n == x) + count x (pieces (skeleton_from first tree))
piece_count x n first open_leaf h = absurd h
piece_count x n first (whole tree) h = absurd h
piece_count x n first (begun county limit takes raised) h = refl

-- one branch with open leaves alone
pub open_groups : (groups : List (List ℕ)) → begun_groups (open_takes groups) ≡ groups
open_groups [] = refl
open_groups (codes ∷ groups) = ap (λ z. codes ∷ z) (open_groups groups)

pub open_proves : (groups : List (List ℕ)) (p : Problem) (round : Round) (s : State) → EachProvesPart (open_takes groups) p round s
open_proves [] p round s = tt
open_proves (codes ∷ groups) p round s = (tt, open_proves groups p round s)

pub open_number : (groups : List (List ℕ)) → open_in (open_takes groups) ≡ length groups
open_number [] = refl
open_number (codes ∷ groups) = omega (arith, open_number groups)

open_parts : (first : ℕ) (groups : List (List ℕ)) → parts_from first groups ≡ begun_parts first (open_takes groups)
open_parts first [] = refl
open_parts first (codes ∷ groups) = ap (λ z. part codes (waits first) z) (open_parts (first + 1) groups)

pub open_skeleton : (n county limit first : ℕ) (groups : List (List ℕ)) → split_from n county limit first groups ≡ as_piece n (skeleton_from first (open_branch county limit groups))
open_skeleton n county limit first groups =
    ap (λ z. split (Some n) county (Some limit) z (waits (first + length groups))) (open_parts first groups)
    ∙ ap (λ z. split (Some n) county (Some limit) (begun_parts first (open_takes groups)) (waits (first + z))) (sym (open_number groups))
