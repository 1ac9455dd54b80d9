-- The trees and certificates that values of the code stand for.
use Rattle.std.specs.Prelude.{List, [], ◌∷◌, map}
use Rattle.certificate_data.specs.Round.{Round}
use Rattle.certificate_data.specs.RoundValue.{round_of}
use Rattle.certificate_data.specs.Tree.{Weight, Allowance, room, weigh, Leaf, stuck, seats, bound, Tree, leaf, branch}
use Rattle.certificate_data.specs.Tree.{Takes, no_take, take}
use Rattle.certificate_data.specs.declared.certificate.Certificate.{Certificate as DeclaredCertificate}
use Rattle.certificate_data.specs.declared.weights.Weight.{Weight as DeclaredWeight}
use Rattle.certificate_data.specs.declared.allowance.Allowance.{Allowance as DeclaredAllowance}
use Rattle.certificate_data.specs.declared.allowance.Allowance.TheVariants.{Room, Weigh}
use Rattle.certificate_data.specs.declared.tree.Leaf.{Leaf as DeclaredLeaf}
use Rattle.certificate_data.specs.declared.tree.Leaf.TheVariants.{Stuck, Seats, Bound}
use Rattle.certificate_data.specs.declared.tree.Tree.{Tree as DeclaredTree, Tree', Row_of-Branch, end_of-Branch}
use Rattle.certificate_data.specs.declared.tree.Tree.{more_of-Branch}
use Rattle.certificate_data.specs.declared.tree.Branch.{Branch, Branch', Row_of-Take, end_of-Take, more_of-Take}
use Rattle.certificate_data.specs.declared.tree.Take.{Take, Take'}

-- a weight and a line of a bound leaf, as values of the code's types, and from them
abbrev pub weight_of : DeclaredWeight → Weight
weight_of w = record { county = w.county; weight = w.weight }

abbrev pub declared_weight : Weight → DeclaredWeight
declared_weight w = record { county = w.county; weight = w.weight }

abbrev pub allowance_of : DeclaredAllowance → Allowance
allowance_of Room = room
allowance_of (Weigh quota weights) = weigh quota (map weight_of weights)

abbrev pub declared_allowance : Allowance → DeclaredAllowance
declared_allowance room = Room
declared_allowance (weigh quota weights) = Weigh quota (map declared_weight weights)

abbrev pub leaf_of : DeclaredLeaf → Leaf
leaf_of (Stuck county) = stuck county
leaf_of Seats = seats
leaf_of (Bound lines) = bound (map allowance_of lines.items)

-- the plain tree of the code's type
abbrev mutual
  pub tree_of : DeclaredTree → Tree
  tree_of (Tree' shape branches last) = branches_onto branches (leaf (leaf_of last))

  pub branches_onto : {m : _} → Row_of-Branch m → Tree → Tree
  branches_onto end_of-Branch tree = tree
  branches_onto (more_of-Branch first rest) tree = branch_onto first (branches_onto rest tree)

  pub branch_onto : Branch → Tree → Tree
  branch_onto (Branch' county limit shape takes) tree = branch county limit (takes_of takes) tree

  pub takes_of : {m : _} → Row_of-Take m → Takes
  takes_of end_of-Take = no_take
  takes_of (more_of-Take first rest) = take_onto first (takes_of rest)

  pub take_onto : Take → Takes → Takes
  take_onto (Take' codes tree) others = take codes (tree_of tree) others

-- takes, from a list of them
abbrev pub list_of_takes : List Take → Takes
list_of_takes [] = no_take
list_of_takes (first ∷ rest) = take_onto first (list_of_takes rest)

-- a certificate as plain data: a round and a tree
pub record Certificate : Type 0 where
  pub round : Round
  pub tree : Tree

-- the certificate that a value of the code's type stands for
abbrev pub certificate_of : DeclaredCertificate → Certificate
certificate_of c = record { round = round_of c.round; tree = tree_of c.tree }
