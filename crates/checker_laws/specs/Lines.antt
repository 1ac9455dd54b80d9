-- How many lines a tree has in a text.
use Rattle.std.specs.Prelude.{ℕ, ◌+◌, length, Option, Some, None}
use Rattle.county_codes.specs.declared.tolerance.Tolerance.{Tolerance}
use Rattle.grouping_laws.specs.Grouping.{Grouping}
use Rattle.certificate_data.specs.Tree.{Leaf, bound, Tree, leaf, branch, Takes, no_take, take, stuck, seats}
use Rattle.certificate_data.specs.Round.{Round}

abbrev pub leaf_lines : Leaf → ℕ
leaf_lines (stuck county) = 1
leaf_lines seats = 1
leaf_lines (bound lines) = 1 + length lines

-- a line for each branch, each take and each mark
abbrev mutual
  pub tree_lines : Tree → ℕ
  tree_lines (leaf l) = leaf_lines l
  tree_lines (branch county limit takes raised) = 1 + (takes_lines takes + tree_lines raised)

  -- the lines of a branch's takes, with the line of the mark
  pub takes_lines : Takes → ℕ
  takes_lines no_take = 1
  takes_lines (take codes tree others) = 1 + (tree_lines tree + takes_lines others)

-- a line for each group of the target
abbrev pub target_lines : Option Grouping → ℕ
target_lines None = 0
target_lines (Some target) = length target

-- the line of the tolerance: the second, or the head's where none is named
abbrev pub tolerance_line : Option Tolerance → ℕ
tolerance_line None = 1
tolerance_line (Some tolerance) = 2

-- head, tolerance if one is named, order, limit, target, its groups, the tree, and the end
abbrev pub certificate_lines : Round → Tree → ℕ
certificate_lines round tree = tolerance_line round.tolerance + (3 + (target_lines round.target + (tree_lines tree + 1)))
