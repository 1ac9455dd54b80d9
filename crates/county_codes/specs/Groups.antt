-- Equal groups, and equal lists of them.
use Rattle.std.specs.Prelude.{Bool, nat_eq, List}
use Rattle.std.specs.Ordering.{on, eq_of_both}
use Rattle.std.specs.Cmp.{IsEquivalence, and_equiv, on_equiv, nat_eq_equiv}
use Rattle.std.specs.Cmp.Lexicographic.{pointwise, lists_equiv, nat_list_eq_equiv}
use Rattle.county_codes.specs.declared.group.Group.{Group}

-- the same seats, and the same codes in the same order
abbrev pub same_group : Group → Group → Bool
same_group = eq_of_both (on (λ g. g.seats) nat_eq) (on (λ g. g.codes) (pointwise nat_eq))

-- the same groups in the same order
abbrev pub same_groups : List Group → List Group → Bool
same_groups = pointwise same_group

pub same_groups_equiv : IsEquivalence same_groups
same_groups_equiv =
    lists_equiv (and_equiv (on_equiv (λ g. g.seats) nat_eq_equiv) (on_equiv (λ g. g.codes) nat_list_eq_equiv))
