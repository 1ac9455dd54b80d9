-- Trees that some text spells, whatever the ranges of their numbers.
use Rattle.std.specs.Prelude.{List, [], ◌∷◌, ⊤}
use Rattle.certificate_data.specs.declared.format.Format.{Format}
use Rattle.certificate_data.specs.Tree.{Allowance, Leaf, stuck, seats, bound, Tree, leaf, branch, Takes, no_take, take}
use Rattle.certificate_laws.specs.Proving.{NamesLimit}
use Rattle.certificate_data.specs.TreeValue.{declared_allowance}
use Rattle.state_judge.specs.AllowanceVerdicts.{AllowanceIsSpelled}

-- no quota is 0, and weights ascend
abbrev pub AllowancesAreSpelled : List Allowance → Type 0
AllowancesAreSpelled [] = ⊤
AllowancesAreSpelled (line ∷ lines) = AllowanceIsSpelled (declared_allowance line) × AllowancesAreSpelled lines

abbrev pub IsReadableLeaf : Leaf → Type 0
IsReadableLeaf (stuck county) = ⊤
IsReadableLeaf seats = ⊤
IsReadableLeaf (bound lines) = AllowancesAreSpelled lines

-- branches name limits as the format asks, and leaves are readable
abbrev mutual
  pub IsReadable : Format → Tree → Type 0
  IsReadable format (leaf last) = IsReadableLeaf last
  IsReadable format (branch county limit takes raised) =
      NamesLimit format limit × AreReadable format takes × IsReadable format raised

  pub AreReadable : Format → Takes → Type 0
  AreReadable format no_take = ⊤
  AreReadable format (take codes tree others) = IsReadable format tree × AreReadable format others
