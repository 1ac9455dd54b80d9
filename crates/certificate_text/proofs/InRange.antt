-- Items that fit where a tree is wanted are in range.
use Rattle.std.proofs.Common.{ℕ, ◌-◌, cond, Bool, true, false, List, [], ◌∷◌, ◌++◌, Some, None, arith}
use Rattle.std.specs.List.{AllByRecursion}
use Rattle.certificate_data.specs.declared.format.Format.TheVariants.{Plain, Wide}
use Rattle.certificate_lines.specs.Items.{wanted_after, allowances_wanted}
use Rattle.certificate_lines.specs.Fitting.{FitsWeight, IsWanted, AllFit}
use Rattle.certificate_data.specs.declared.weights.Weight.{Weight}
use Rattle.certificate_data.specs.declared.allowance.Allowance.TheVariants.{Room, Weigh}
use Rattle.certificate_lines.specs.declared.item.Opening.TheVariants.{Branch, Stuck, Seats, Bound}
use Rattle.certificate_lines.specs.declared.item.Item.{Item}
use Rattle.certificate_lines.specs.declared.item.Item.TheVariants.{Opens, Takes, Mark, Allows}
use Rattle.certificate_lines.specs.declared.item.Wanted.{Wanted}
use Rattle.certificate_lines.specs.declared.item.Wanted.TheVariants as want
use Rattle.certificate_text.specs.Ranges.{IsWeightInRange, IsInRange}

-- what is wanted inside a tree
abbrev pub IsOfTree : Wanted → Type 0
IsOfTree (want.Tree format levels) = Unit {0}
IsOfTree (want.Takes format levels) = Unit {0}
IsOfTree (want.Allowances left) = Unit {0}
IsOfTree wanted = ⊥

of_tree_append : (ws more : List Wanted) → AllByRecursion IsOfTree ws → AllByRecursion IsOfTree more → AllByRecursion IsOfTree (ws ++ more)
of_tree_append [] more a b = b
of_tree_append (w ∷ ws) more a b = (a.0, of_tree_append ws more a.1 b)

allowances_of_tree : (n : ℕ) → AllByRecursion IsOfTree (allowances_wanted n)
allowances_of_tree n = go _
  where
    go : (t : Bool) → AllByRecursion IsOfTree (cond t (want.Allowances n ∷ []) [])
    go true = (tt, tt)
    go false = tt

weights_in_range : (ws : List Weight) → AllByRecursion FitsWeight ws → AllByRecursion IsWeightInRange ws
weights_in_range [] a = tt
weights_in_range (w ∷ ws) a = (record { county = a.0.county; weight = omega (arith, a.0.to) }, weights_in_range ws a.1)

item_in_range : (w : Wanted) (i : Item) → IsOfTree w → IsWanted w i → IsInRange i × AllByRecursion IsOfTree (wanted_after w i)
item_in_range (want.Tree Plain levels) (Opens (Branch c None)) u f = (f.0, (tt, tt))
item_in_range (want.Tree Wide levels) (Opens (Branch c (Some limit))) u f = ((f.0, omega (arith, f.2)), (tt, tt))
item_in_range (want.Tree Plain levels) (Opens (Branch c (Some limit))) u f = absurd f
item_in_range (want.Tree Wide levels) (Opens (Branch c None)) u f = absurd f
item_in_range (want.Tree format levels) (Opens (Stuck c)) u f = (f, tt)
item_in_range (want.Tree format levels) (Opens Seats) u f = (tt, tt)
item_in_range (want.Tree format levels) (Opens (Bound n)) u f = (omega (arith, f), allowances_of_tree n)
item_in_range (want.Takes format levels) (Takes cs) u f = (f.small, (tt, (tt, tt)))
item_in_range (want.Takes format levels) Mark u f = (tt, (tt, tt))
item_in_range (want.Allowances left) (Allows Room) u f = (tt, allowances_of_tree (left - 1))
item_in_range (want.Allowances left) (Allows (Weigh quota ws)) u f = ((omega (arith, f.to), weights_in_range ws f.each), allowances_of_tree (left - 1))
item_in_range (want.Tree format levels) _ u f = absurd f
item_in_range (want.Takes format levels) _ u f = absurd f
item_in_range (want.Allowances left) _ u f = absurd f
item_in_range _ i u f = absurd u

pub all_in_range : (wanted : List Wanted) (items : List Item) → AllByRecursion IsOfTree wanted → AllFit wanted items → AllByRecursion IsInRange items
all_in_range [] [] u f = tt
all_in_range [] (i ∷ is) u f = absurd f
all_in_range (w ∷ more) [] u f = absurd f
all_in_range (w ∷ more) (i ∷ is) u f =
    let one = item_in_range w i u.0 f.0 in
    (one.0, all_in_range (wanted_after w i ++ more) is (of_tree_append (wanted_after w i) more one.1 u.1) f.1)
