-- What the judging of a partial tree costs: an open leaf costs its line.
use Rattle.std.specs.Prelude.{ℕ, ◌+◌, ◌*◌, ◌≡◌, List}
use Rattle.grouping_laws.specs.Problem.{Problem}
use Rattle.certificate_data.specs.Round.{Round}
use Rattle.certificate_laws.specs.State.{State, close, raise}
use Rattle.certificate_laws.specs.Groups.{AreGroupsAt, IsSetAt}
use Rattle.certificate_laws.specs.Proving.{NamesLimit, CanBranch, limit_of}
use Rattle.checker_laws.specs.Branches.{IsNextTake, behind}
use Rattle.checker_laws.specs.Cost.{IsSetCount, Both, Where, TreeLooks}
use Rattle.checker_laws.specs.Lines.{tree_lines}
use Rattle.board_laws.specs.PartialTrees.{PartialTree, open_leaf, whole, begun, PartialTakes, no_begun, take_begun}
use Rattle.board_laws.specs.PartialTrees.{begun_groups, ProvesPart, EachProvesPart}

abbrev mutual
  pub part_lines : PartialTree → ℕ
  part_lines open_leaf = 1
  part_lines (whole tree) = tree_lines tree
  part_lines (begun county limit takes raised) = 1 + (begun_lines takes + part_lines raised)

  -- the lines of a branch's takes, with the line of the mark
  pub begun_lines : PartialTakes → ℕ
  begun_lines no_begun = 1
  begun_lines (take_begun codes tree others) = 1 + (part_lines tree + begun_lines others)

-- how many sets are looked through, as for a tree
abbrev mutual
  pub PartLooks : PartialTree → Problem → Round → State → ℕ → Type 0
  PartLooks open_leaf p round s n = n ≡ 0
  PartLooks (whole tree) p round s n = TreeLooks tree p round s n
  PartLooks (begun county limit takes raised) p round s n =
      Where (NamesLimit round.format limit × CanBranch round s county (limit_of round limit))
      (Both (IsSetCount round.order (IsSetAt p round.order s county (limit_of round limit)))
      (λ m. (groups : List (List ℕ)) × AreGroupsAt p round s county (limit_of round limit) groups
      × Both (BegunLook takes p round s groups)
      (Where ((begun_groups takes ≡ groups)
      × EachProvesPart takes p round s) (PartLooks raised p round (raise county (limit_of round limit) s)))
      m))
      n

  -- for the takes from one on, where these groups are still to be taken
  pub BegunLook : PartialTakes → Problem → Round → State → List (List ℕ) → ℕ → Type 0
  BegunLook no_begun p round s groups n = n ≡ 0
  BegunLook (take_begun codes tree others) p round s groups n =
      Where (IsNextTake groups codes)
      (Both (PartLooks tree p round (close codes s))
      (Where (ProvesPart tree p round (close codes s)) (BegunLook others p round s (behind groups))))
      n

-- 3 for each line, and 3 for each set that is looked through
abbrev pub PartCosts : PartialTree → Problem → Round → State → ℕ → Type 0
PartCosts tree p round s cost = (n : ℕ) × PartLooks tree p round s n × (cost ≡ 3 * (part_lines tree + n))
