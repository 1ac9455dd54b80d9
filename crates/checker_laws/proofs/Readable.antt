-- The trees of texts name limits as their format asks, no quota of theirs is 0, and the codes of their weights ascend.
use Rattle.std.proofs.Common.{true, ℕ, zero, suc, ◌-◌, ◌≡◌, ◌≤◌, List, [], ◌∷◌, ◌++◌, length, map, Option, Some, None, refl, subst, append_assoc, arith}
use Rattle.county_codes.specs.declared.group.Group.{Group}
use Rattle.county_codes.specs.declared.tolerance.Tolerance.{Tolerance}
use Rattle.grouping_laws.specs.Grouping.{Grouping}
use Rattle.certificate_data.specs.declared.format.Format.{Format}
use Rattle.certificate_data.specs.declared.format.Format.TheVariants.{Plain, Wide}
use Rattle.certificate_laws.specs.Depth.{after_raise}
use Rattle.certificate_data.specs.Tree.{Allowance, room, weigh, Leaf, stuck, seats, bound, Tree, leaf, branch, Takes, no_take, take}
use Rattle.certificate_laws.specs.Proving.{NamesLimit}
use Rattle.certificate_lines.specs.Lines.{ascend}
use Rattle.certificate_lines.specs.Items.{allowances_wanted, groups_wanted}
use Rattle.certificate_lines.specs.Fitting.{IsWanted, AllFit}
use Rattle.certificate_lines.specs.declared.item.Item.{Item}
use Rattle.certificate_lines.specs.declared.item.Item.TheVariants as item
use Rattle.certificate_lines.specs.declared.item.Opening.TheVariants as opening
use Rattle.certificate_lines.specs.declared.item.Wanted.{Wanted}
use Rattle.certificate_lines.specs.declared.item.Wanted.TheVariants as want
use Rattle.certificate_lines.proofs.ReadLaws.{allowances_more, groups_more}
use Rattle.certificate_data.specs.TreeValue.{Certificate, declared_weight, declared_allowance}
use Rattle.certificate_text.specs.Trees.{items_of_tree, items_of_takes, items_of_head, items_of_target, items_of_certificate}

-- the quota is no 0, and weights ascend
abbrev pub IsFormedLine : Allowance → Type 0
IsFormedLine room = Unit {0}
IsFormedLine (weigh quota weights) = (1 ≤ quota) × (ascend (map declared_weight weights) ≡ true)

abbrev pub AreFormedLines : List Allowance → Type 0
AreFormedLines [] = Unit {0}
AreFormedLines (line ∷ lines) = IsFormedLine line × AreFormedLines lines

abbrev pub IsFormedLeaf : Leaf → Type 0
IsFormedLeaf (stuck county) = Unit {0}
IsFormedLeaf seats = Unit {0}
IsFormedLeaf (bound lines) = AreFormedLines lines

-- branches name limits as the format asks
abbrev mutual
  pub IsFormed : Format → Tree → Type 0
  IsFormed format (leaf last) = IsFormedLeaf last
  IsFormed format (branch county limit takes raised) = NamesLimit format limit × AreFormed format takes × IsFormed format raised

  pub AreFormed : Format → Takes → Type 0
  AreFormed format no_take = Unit {0}
  AreFormed format (take codes tree others) = IsFormed format tree × AreFormed format others

line_formed : (left : ℕ) (line : Allowance) → IsWanted (want.Allowances left) (item.Allows (declared_allowance line)) → IsFormedLine line
line_formed left room f = tt
line_formed left (weigh quota weights) f = (f.from, f.ascending)

lines_formed : (n : ℕ) (lines : List Allowance) (more : List Wanted) (rest : List Item) → length lines ≡ n → AllFit (allowances_wanted n ++ more) (map (λ a. item.Allows (declared_allowance a)) lines ++ rest)
    → AreFormedLines lines × AllFit more rest
lines_formed zero [] more rest many f = (tt, f)
lines_formed zero (line ∷ lines) more rest many f = absurd (omega (arith, many))
lines_formed (suc n) [] more rest many f = absurd (omega (arith, many))
lines_formed (suc n) (line ∷ lines) more rest many f =
    let fit = subst (λ (l : List Wanted). AllFit (l ++ more) (map (λ a. item.Allows (declared_allowance a)) (line ∷ lines) ++ rest)) (allowances_more (suc n) (omega arith)) f in
    let left : suc n - 1 ≡ n = omega arith in
    let later = subst (λ (k : ℕ). AllFit (allowances_wanted k ++ more) (map (λ a. item.Allows (declared_allowance a)) lines ++ rest)) left fit.1 in
    let behind = lines_formed n lines more rest (omega (arith, many)) later in
    ((line_formed (suc n) line fit.0, behind.0), behind.1)

limit_named : (format : Format) (levels county : ℕ) (limit : Option ℕ) → IsWanted (want.Tree format levels) (item.Opens (opening.Branch county limit)) → NamesLimit format limit
limit_named Plain levels county None f = tt
limit_named Plain levels county (Some limit) f = absurd f
limit_named Wide levels county None f = absurd f
limit_named Wide levels county (Some limit) f = tt

mutual
  pub tree_formed : (format : Format) (levels : ℕ) (tree : Tree) (more : List Wanted) (rest : List Item) → AllFit (want.Tree format levels ∷ more) (items_of_tree tree ++ rest) → IsFormed format tree × AllFit more rest
  tree_formed format levels (leaf (stuck county)) more rest f = (tt, f.1)
  tree_formed format levels (leaf seats) more rest f = (tt, f.1)
  tree_formed format levels (leaf (bound lines)) more rest f = lines_formed (length lines) lines more rest refl f.1
  tree_formed format levels (branch county limit takes raised) more rest f =
      let split = subst (λ (l : List Item). AllFit (want.Takes format levels ∷ more) l) (append_assoc (items_of_takes takes) (item.Mark ∷ items_of_tree raised) rest) f.1 in
      let first = takes_formed format levels takes more (items_of_tree raised ++ rest) split in
      let second = tree_formed format (after_raise format levels) raised more rest first.1 in
      ((limit_named format levels county limit f.0, first.0, second.0), second.1)

  takes_formed : (format : Format) (levels : ℕ) (takes : Takes) (more : List Wanted) (rest : List Item) → AllFit (want.Takes format levels ∷ more) (items_of_takes takes ++ item.Mark ∷ rest)
      → AreFormed format takes × AllFit (want.Tree format (after_raise format levels) ∷ more) rest
  takes_formed format levels no_take more rest f = (tt, f.1)
  takes_formed format levels (take codes tree others) more rest f =
      let split =
      subst (λ (l : List Item). AllFit (want.Tree format (levels - 1) ∷ want.Takes format levels ∷ more) l) (append_assoc (items_of_tree tree) (items_of_takes others) (item.Mark ∷ rest)) f.1 in
      let first = tree_formed format (levels - 1) tree (want.Takes format levels ∷ more) (items_of_takes others ++ item.Mark ∷ rest) split in
      let second = takes_formed format levels others more rest first.1 in
      ((first.0, second.0), second.1)

groups_over : (n : ℕ) (groups : List Group) (more : List Wanted) (rest : List Item) → length groups ≡ n → AllFit (groups_wanted n ++ more) (map item.Grouped groups ++ rest) → AllFit more rest
groups_over zero [] more rest many f = f
groups_over zero (group ∷ groups) more rest many f = absurd (omega (arith, many))
groups_over (suc n) [] more rest many f = absurd (omega (arith, many))
groups_over (suc n) (group ∷ groups) more rest many f =
    let fit = subst (λ (l : List Wanted). AllFit (l ++ more) (map item.Grouped (group ∷ groups) ++ rest)) (groups_more (suc n) (omega arith)) f in
    let left : suc n - 1 ≡ n = omega arith in
    let later = subst (λ (k : ℕ). AllFit (groups_wanted k ++ more) (map item.Grouped groups ++ rest)) left fit.1 in
    groups_over n groups more rest (omega (arith, many)) later

-- what stands behind a target fits
pub target_over : (target : Option Grouping) (more : List Wanted) (rest : List Item) → AllFit (want.Target ∷ more) (items_of_target target ++ rest) → AllFit more rest
target_over None more rest f = f.1
target_over (Some groups) more rest f = groups_over (length groups) groups more rest refl f.1

-- what stands behind the head and the tolerance fits
pub head_over : (format : Format) (tolerance : Option Tolerance) (rest : List Item) → AllFit (want.Head ∷ []) (items_of_head format tolerance ++ rest) → AllFit (want.Order format ∷ []) rest
head_over format None rest f = f.1
head_over format (Some tolerance) rest f = f.1.1

pub formed_of_fits : (c : Certificate) → AllFit (want.Head ∷ []) (items_of_certificate c) → IsFormed c.round.format c.tree
formed_of_fits c f =
    let order = head_over c.round.format c.round.tolerance (item.Order c.round.order ∷ item.Limit c.round.limit ∷ (items_of_target c.round.target ++ (items_of_tree c.tree ++ item.End ∷ []))) f in
    let behind = target_over c.round.target (want.Tree c.round.format (length c.round.order) ∷ want.End ∷ []) (items_of_tree c.tree ++ item.End ∷ []) order.1.1 in
    (tree_formed c.round.format (length c.round.order) c.tree (want.End ∷ []) (item.End ∷ []) behind).0
